use Rattle.fi_parts.proofs.BlocksListed.{is_listed}
use Rattle.fi_parts.proofs.blocks.Blocks.is_listed.Goals as goal

pub returns : goal.returns
returns g c = rw (← c.self.view_is) (is_listed c.self.inside.slab c.self.inside.linked c.self.invariant)
