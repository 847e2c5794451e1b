use Rattle.fi_channels.proofs.Sides.{no_waiters-tied}
use Rattle.fi_channels.proofs.channel.two_sides.TwoSides.new.Goals as goal

pub invariant_of-result : goal.invariant_of-result
invariant_of-result g c = rw (c.new.ensures, c.new-2.ensures, c.new-3.ensures) (no_waiters-tied _)
