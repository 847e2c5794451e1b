use Rattle.std.proofs.Common.{inl, inr, sym, ap, ◌∙◌}
use Rattle.fi_parts.proofs.HeapNodes.{get-live_of}
use Rattle.fi_parts.proofs.HeapViews.{heap-stays, Stays-valued, view-valued, free-under, live_from_get, value_none}
use Rattle.fi_parts.proofs.heap.PairingHeap.get_mut.Goals as goal

pub returns-then-is_none : goal.returns-then-is_none
returns-then-is_none g c = (
  ap inr c.self.view_is,
  record {
    writes_back = tt;
    value = rw (← c.self.view_is) (sym (get-live_of c.self.inside.nodes _ ∙ value_none c.self.inside.nodes _ c.get.result c.get.ensures
        c.if-is_none.ensures));
  },
)

pub invariant_of-self-lent : goal.invariant_of-self-lent
invariant_of-self-lent g c w =
    let live = live_from_get c.self.inside.nodes _ c.get.result c.get.ensures c.if-is_none.ensures in
    let free = free-under c.self.inside.nodes c.args.slot.0 (rw (← c.self.view_is) at c.requires) in
    heap-stays g.T.Ord.cmp _ _ (Stays-valued c.self.inside.nodes c.args.slot.0 w free live) c.self.invariant

pub returns : goal.returns
returns g c =
    let live = live_from_get c.self.inside.nodes _ c.get.result c.get.ensures c.if-is_none.ensures in
    let free = free-under c.self.inside.nodes c.args.slot.0 (rw (← c.self.view_is) at c.requires) in
    rw (← c.self.view_is) (
      (λ i. inl (c.value_mut.result.ghost_name, λ w. view-valued c.self.inside.nodes c.args.slot.0 w free live i)),
      record { writes_back = tt; value = sym (get-live_of c.self.inside.nodes _ ∙ c.value_mut.ensures.value) },
    )
