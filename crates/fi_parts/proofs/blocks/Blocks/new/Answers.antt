use Rattle.fi_parts.proofs.BlockChanges.{sound_empty, order_empty, live_empty}
use Rattle.fi_parts.proofs.blocks.Blocks.new.Goals as goal

pub invariant_of-result : goal.invariant_of-result
invariant_of-result g c = sound_empty c.new.result c.new-2.result c.new.ensures.empty c.new-2.ensures.blocks c.new-2.ensures.first
    c.new-2.ensures.last

pub returns : goal.returns
returns g c =
    λ i. record {
      live = live_empty c.new.result c.new-2.result c.new.ensures.empty i;
      order = order_empty c.new.result c.new-2.result c.new.ensures.empty c.new-2.ensures.blocks c.new-2.ensures.first
          c.new-2.ensures.last i;
      visits = c.new-2.ensures.visits i;
    }
