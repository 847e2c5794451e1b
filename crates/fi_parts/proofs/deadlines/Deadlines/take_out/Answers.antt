use Rattle.fi_parts.proofs.Seats.{lives_inside}
use Rattle.fi_parts.proofs.deadlines.Deadlines.take_out.Goals as goal

pub take_out-requires : goal.take_out-requires
take_out-requires g c = lives_inside c.self.inside.waits c.args.slot.0 (rw (← c.self.view_is) at c.requires)
