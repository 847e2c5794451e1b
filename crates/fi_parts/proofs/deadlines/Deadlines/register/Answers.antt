use Rattle.std.proofs.Common.{is_some, option_copied, sym, ap, ◌∙◌}
use Rattle.fi_parts.specs.Waiting.{is_registered}
use Rattle.fi_parts.specs.declared.phase.Phase.TheVariants.{Registered}
use Rattle.fi_parts.proofs.WaitQueues.{some_from_copied}
use Rattle.fi_parts.proofs.Seats.{lives_inside, asks_live, seat_free, kept-registered, seen-phase, phase-unseated}
use Rattle.fi_parts.proofs.deadlines.Deadlines.register.Goals as goal

pub unwrap-requires : goal.unwrap-requires
unwrap-requires g c = some_from_copied c.asks.result (ap is_some c.asks.ensures ∙ asks_live c.self.inside.waits.side.live c.args.slot.0
    (lives_inside c.self.inside.waits c.args.slot.0 (rw (← c.self.view_is) at c.requires.live)))

pub insert-requires-clause-apart : goal.insert-requires-clause-apart
insert-requires-clause-apart g c =
    seat_free c.self.inside.waits.side.live c.self.inside.heap c.args.slot.0 c.unwrap.result.now c.self.invariant (sym c.asks.ensures ∙
    ap option_copied c.unwrap.ensures)
    (ap is_registered (sym (phase-unseated c.self.inside.waits.side.live c.args.slot.0)) ∙ (rw (← c.self.view_is) at c.requires.apart))

pub invariant_of-self : goal.invariant_of-self
invariant_of-self g c =
    rw c.set_phase.ensures.rest
    (kept-registered c.self.inside.waits.side.live c.self.inside.heap c.insert.new.self c.args.slot.0 c.args.waker c.unwrap.result.now
    c.self.invariant (sym c.asks.ensures ∙ ap option_copied c.unwrap.ensures) c.insert.ensures.live c.insert.ensures.members)

pub returns : goal.returns
returns g c = rw (← c.self.view_is) (seen-phase c.self.inside.waits c.args.slot.0 c.set_phase.new.self
    (Registered c.args.waker) c.set_phase.ensures.rest)
