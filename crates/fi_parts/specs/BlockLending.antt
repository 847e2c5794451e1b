-- What the owner of the blocks ends as, once a `&mut` to a block has ended.
use Rattle.std.specs.Borrow.{Fml, RattleType, MutBor, Lends}
use denote.RawPtr.{Ptr}
use Rattle.fi_parts.specs.Placed.{with_at}
use Rattle.fi_parts.specs.declared.blocks.block.Block.{Block}
use Rattle.fi_parts.specs.declared.blocks.places.BlockPlaces.{BlockPlaces}
use Rattle.fi_parts.specs.contracts.blocks.block.Block as block
use Rattle.fi_parts.specs.contracts.blocks.places.BlockPlaces.{the_row}

abbrev pub with_place : {T : Type 0} → BlockPlaces T → Ptr → Block T → BlockPlaces T
with_place h p w = record h { blocks = with_at h.blocks p w }

abbrev pub LendsPlace : (T : RattleType) → MutBor (BlockPlaces T.Denot) → Ptr → MutBor (Block T.Denot) → Fml
LendsPlace T h p r = Lends (the_row T) (block.the_row T) h r (with_place h.now p)
