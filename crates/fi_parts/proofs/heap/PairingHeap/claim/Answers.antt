use Rattle.std.proofs.Common.{is_some, ap, ◌∙◌}
use Rattle.fi_parts.specs.HeapNodes.{value_in, links_in}
use Rattle.fi_parts.specs.Picked.{picked}
use Rattle.fi_parts.proofs.HeapNodes.{get-live_of, contains-members_of}
use Rattle.fi_parts.proofs.HeapViews.{heap-stays, Stays-claimed, Stays-refused, view-claimed}
use Rattle.fi_parts.proofs.heap.PairingHeap.claim.Goals as goal

pub invariant_of-self : goal.invariant_of-self
invariant_of-self g c =
    let was = c.in_err-claim.ensures in
    heap-stays g.T.Ord.cmp c.self.inside.nodes c.claim.new.self (Stays-refused _ _ was.refused was.root) c.self.invariant

pub invariant_of-self-2 : goal.invariant_of-self-2
invariant_of-self-2 g c =
    let was = c.in_ok-claim.ensures in
    heap-stays g.T.Ord.cmp c.self.inside.nodes c.claim.new.self (Stays-claimed _ _ _ _ was.was_free was.claimed was.root) c.self.invariant

pub returns-clause-was_free : goal.returns-clause-was_free
returns-clause-was_free g c =
    rw (← c.self.view_is) (get-live_of c.self.inside.nodes _ ∙ ap (picked value_in) c.in_ok-claim.ensures.was_free)

pub returns-clause-live : goal.returns-clause-live
returns-clause-live g c =
    ap is_some (get-live_of c.claim.new.self c.in_ok-claim.field-0 ∙ ap (picked value_in) c.in_ok-claim.ensures.claimed.changed)

pub returns-clause-apart : goal.returns-clause-apart
returns-clause-apart g c =
    contains-members_of c.claim.new.self c.in_ok-claim.field-0 ∙ ap (λ o. is_some (picked links_in o)) c.in_ok-claim.ensures.claimed.changed

pub returns-clause-claimed : goal.returns-clause-claimed
returns-clause-claimed g c =
    let was = c.in_ok-claim.ensures in
    rw (← c.self.view_is) (view-claimed c.self.inside.nodes c.claim.new.self _ _ was.was_free was.claimed was.root)
