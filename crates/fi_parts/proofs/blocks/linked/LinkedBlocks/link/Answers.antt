use Rattle.std.proofs.Common.{◌∷◌}
use Rattle.fi_parts.specs.LinkedBlocks.{chain_of}
use Rattle.fi_parts.proofs.Moved.{Moved, Fronts-at}
use Rattle.fi_parts.proofs.blocks.linked.LinkedBlocks.link.Given.{Over}
use Rattle.fi_parts.proofs.blocks.linked.LinkedBlocks.link.Goals as goal

pub set_younger-requires : goal.set_younger-requires
set_younger-requires g c =
    rw (c.copied-links.ensures, c.none-links.ensures, c.copied-older.ensures)
    (Fronts-at c.args.self.now c.args.at c.requires.chained c.requires.live c.requires.apart).younger

moved : (g : Over) (c : goal.After-set_older g) → Moved c.args.self.now c.set_older.new.self (c.args.at ∷ chain_of c.args.self.now)
moved g c =
    rw (
      c.set_older.ensures,
      c.none.ensures,
      c.to-2.ensures,
      c.set_younger.ensures,
      c.to.ensures,
      c.copied-links.ensures,
      c.none-links.ensures,
      c.copied-older.ensures,
    )
    (Fronts-at c.args.self.now c.args.at c.requires.chained c.requires.live c.requires.apart).moved

pub returns-clause-chained : goal.returns-clause-chained
returns-clause-chained g c = (moved g c).chained

pub returns-clause-order : goal.returns-clause-order
returns-clause-order g c = (moved g c).order

pub returns-clause-data : goal.returns-clause-data
returns-clause-data g c = (moved g c).payload
