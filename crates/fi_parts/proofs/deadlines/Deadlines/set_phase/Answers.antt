use Rattle.std.proofs.Common.{ap, ◌∙◌}
use Rattle.fi_parts.specs.Waiting.{is_registered}
use Rattle.fi_parts.proofs.Seats.{lives_inside, kept-stand, seen-phase, phase-unseated}
use Rattle.fi_parts.proofs.deadlines.Deadlines.set_phase.Goals as goal

pub set_phase-requires : goal.set_phase-requires
set_phase-requires g c = lives_inside c.self.inside.waits c.args.slot.0 (rw (← c.self.view_is) at c.requires.live)

pub invariant_of-self : goal.invariant_of-self
invariant_of-self g c =
    rw c.set_phase.ensures.rest
    (kept-stand c.self.inside.waits.side.live c.self.inside.heap c.args.slot.0 c.args.phase c.self.invariant
    (lives_inside c.self.inside.waits c.args.slot.0 (rw (← c.self.view_is) at c.requires.live))
    ((rw (← c.self.view_is) at c.requires.seat) ∙ ap is_registered (phase-unseated c.self.inside.waits.side.live c.args.slot.0)))

pub returns : goal.returns
returns g c = rw (← c.self.view_is) (record {
  waker = rw (phase-unseated c.self.inside.waits.side.live c.args.slot.0) c.set_phase.ensures.waker;
  rest = seen-phase c.self.inside.waits c.args.slot.0 c.set_phase.new.self c.args.phase c.set_phase.ensures.rest;
})
