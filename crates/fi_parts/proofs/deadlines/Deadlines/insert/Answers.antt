use Rattle.std.proofs.Common.{ap, ◌∙◌}
use Rattle.fi_parts.proofs.Seats.{kept-made, kept-refused, seen-made, phase-unseated}
use Rattle.fi_parts.proofs.deadlines.Deadlines.insert.Goals as goal

pub invariant_of-self-in-Ok-insert : goal.invariant_of-self-in-Ok-insert
invariant_of-self-in-Ok-insert g c =
    rw c.in-Ok-insert.ensures.made
    (kept-made c.self.inside.waits.side.live c.self.inside.heap _ _ c.in-Ok-insert.slot.0 c.args.expiry c.in-Ok.seat.0 _ c.self.invariant
    c.in-Ok-insert.ensures.was_free c.in-Ok.ensures.was_free c.in-Ok.ensures.claimed c.in-Ok.ensures.apart c.name_seat.ensures)

pub invariant_of-self-in-Err-insert : goal.invariant_of-self-in-Err-insert
invariant_of-self-in-Err-insert g c =
    kept-refused c.self.inside.waits.side.live _ c.self.inside.heap _ _ c.in-Ok.seat.0 _ c.self.invariant
    (ap (λ w. w.side.live) c.in-Err-insert.ensures.refused) c.in-Ok.ensures.was_free c.in-Ok.ensures.claimed c.free.ensures.freed

pub returns-in-Ok-insert-clause-was_free : goal.returns-in-Ok-insert-clause-was_free
returns-in-Ok-insert-clause-was_free g c = rw (← c.self.view_is) (phase-unseated c.self.inside.waits.side.live c.in-Ok-insert.slot.0 ∙
    c.in-Ok-insert.ensures.was_free)

pub returns-in-Ok-insert-clause-made : goal.returns-in-Ok-insert-clause-made
returns-in-Ok-insert-clause-made g c =
    rw (← c.self.view_is) (seen-made c.self.inside.waits c.in-Ok-insert.slot.0 _ _ c.in-Ok-insert.ensures.made)
