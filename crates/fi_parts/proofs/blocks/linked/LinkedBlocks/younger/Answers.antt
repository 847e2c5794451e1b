use Rattle.std.proofs.Common.{◌∙◌, IsSome}
use Rattle.fi_parts.specs.LinkedBlocks.{block_at}
use Rattle.fi_parts.proofs.Moved.{Kept-read, younger-is, chained-kept, order-kept, data-relinked, is_live}
use Rattle.fi_parts.proofs.blocks.linked.LinkedBlocks.younger.Given.{Over}
use Rattle.fi_parts.proofs.blocks.linked.LinkedBlocks.younger.Goals as goal

pub returns-clause-next : goal.returns-clause-next
returns-clause-next g c front rest cut =
    c.block.ensures ∙ younger-is c.args.self.now c.args.at c.reach.result.now front rest c.requires.chained cut c.reach.ensures.value

live : (g : Over) (c : goal.After-self-1 g) → IsSome (block_at c.args.self.now c.args.at)
live g c = is_live c.args.self.now c.args.at (c.requires.chained.flags c.args.at ∙ c.requires.listed)

pub returns-clause-chained : goal.returns-clause-chained
returns-clause-chained g c =
    chained-kept c.args.self.now _ c.requires.chained (Kept-read c.args.self.now c.args.at c.reach.result.now (live g c)
    c.reach.ensures.value)

pub returns-clause-order : goal.returns-clause-order
returns-clause-order g c =
    order-kept c.args.self.now _ c.requires.chained (Kept-read c.args.self.now c.args.at c.reach.result.now (live g c)
    c.reach.ensures.value)

pub returns-clause-data : goal.returns-clause-data
returns-clause-data g c = data-relinked c.args.self.now c.args.at c.reach.result.now (live g c)
