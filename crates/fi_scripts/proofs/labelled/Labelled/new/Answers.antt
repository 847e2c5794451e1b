use Rattle.fi_scripts.proofs.Shelves.{empty_shelves}
use Rattle.fi_scripts.proofs.labelled.Labelled.new.Goals as goal

pub returns : goal.returns
returns g c = record {
  empty = empty_shelves c.loop.short.items c.loop.long.items c.loop.invariant.1 c.loop.invariant.3;
}
