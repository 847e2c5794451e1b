use Rattle.fi_parts.proofs.BlocksFreed.{Drains}
use Rattle.fi_parts.proofs.blocks.Blocks.drop.Given as goal

abbrev pub invariant-loop-slot : goal.invariant-loop-slot
invariant-loop-slot g l = Drains l._slot-iterator l.linked.blocks.owner.blocks
