use Rattle.std.proofs.Common.{sym, ◌∙◌}
use Rattle.fi_parts.proofs.Seats.{phase-unseated}
use Rattle.fi_parts.proofs.deadlines.Deadlines.phase.Goals as goal

pub returns : goal.returns
returns g c = rw (← c.self.view_is) (c.phase.ensures ∙ sym (phase-unseated c.self.inside.waits.side.live c.args.slot.0))
