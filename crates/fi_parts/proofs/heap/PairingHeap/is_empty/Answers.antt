use Rattle.std.proofs.Common.{is_some, sym, ap, ◌∙◌}
use Rattle.fi_parts.proofs.HeapViews.{empty-or-not}
use Rattle.fi_parts.proofs.heap.PairingHeap.is_empty.Goals as goal

pub returns : goal.returns
returns g c = rw (← c.self.view_is) (empty-or-not g.T.Ord.cmp c.self.inside.nodes c.is_none.result
    (sym (ap is_some c.root.ensures) ∙ c.is_none.ensures) c.self.invariant)
