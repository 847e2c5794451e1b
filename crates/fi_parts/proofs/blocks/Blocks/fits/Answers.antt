use Rattle.std.proofs.Common.{arith}
use Rattle.fi_parts.proofs.BlocksListed.{order-le}
use Rattle.fi_parts.proofs.blocks.Blocks.fits.Goals as goal

pub returns : goal.returns
returns g c = rw (← c.self.view_is) (omega (
  arith,
  order-le c.self.inside.slab c.self.inside.linked c.self.invariant,
  c.capacity-capacity.ensures.slots,
  c.capacity-capacity.type_inv,
))
