use Rattle.std.proofs.Common.{◌∙◌}
use Rattle.fi_parts.proofs.HeapNodes.{get-live_of, value-live}
use Rattle.fi_parts.proofs.HeapViews.{heap-stays, Stays-freed, view-freed, live-under, free-under}
use Rattle.fi_parts.proofs.heap.PairingHeap.free.Goals as goal

pub free-requires : goal.free-requires
free-requires g c = value-live c.self.inside.nodes c.args.slot.0
    (live-under c.self.inside.nodes c.args.slot.0 (rw (← c.self.view_is) at c.requires.live))

pub invariant_of-self : goal.invariant_of-self
invariant_of-self g c =
    let free = free-under c.self.inside.nodes c.args.slot.0 (rw (← c.self.view_is) at c.requires.apart) in
    heap-stays g.T.Ord.cmp c.self.inside.nodes c.free.new.self (Stays-freed _ _ c.args.slot.0 free c.free.ensures.freed
    c.free.ensures.root) c.self.invariant

pub returns : goal.returns
returns g c =
    let free = free-under c.self.inside.nodes c.args.slot.0 (rw (← c.self.view_is) at c.requires.apart) in
    rw (← c.self.view_is) (record {
      value = get-live_of c.self.inside.nodes _ ∙ c.free.ensures.value;
      freed = view-freed c.self.inside.nodes c.free.new.self c.args.slot.0 free c.free.ensures.freed c.free.ensures.root;
    })
