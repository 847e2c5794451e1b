-- What the owner of the blocks ends as, once a `&mut` to a block has ended.
use Rattle.std.specs.Borrow.{Fml, RattleType, MutBor, Lends}
use denote.RawPtr.{Ptr}
use Rattle.fi_parts.specs.Placed.{with_at}
use Rattle.fi_parts.specs.OwnedBlocks.{OwnedBlocks}
use Rattle.fi_parts.specs.declared.blocks.block.Block.{Block}
use Rattle.fi_parts.specs.contracts.blocks.block.Block as block
use Rattle.fi_parts.specs.contracts.blocks.owner.BlockOwner.{the_row}

abbrev pub with_block : {T : Type 0} → OwnedBlocks T → Ptr → Block T → OwnedBlocks T
with_block h p w = record h { blocks = with_at h.blocks p w }

abbrev pub LendsBlock : (T : RattleType) → MutBor (OwnedBlocks T.Denot) → Ptr → MutBor (Block T.Denot) → Fml
LendsBlock T h p r = Lends (the_row T) (block.the_row T) h r (with_block h.now p)
