-- What a contract sees of the blocks and of the count of visits.
use Rattle.std.specs.Prelude.{ℕ, suc, Option, Some, None}
use Rattle.std.specs.Borrow.{Lends, Fml, RattleType, MutBor}
use Rattle.fi_parts.specs.declared.blocks.block.Block.{Block}
use Rattle.fi_parts.specs.declared.blocks.block.Links.{Links}
use Rattle.fi_parts.specs.declared.blocks.block.BlockPtr.{BlockPtr}
use Rattle.fi_parts.specs.declared.blocks.counted.CountedBlocks.{CountedBlocks}
use Rattle.fi_parts.specs.contracts.blocks.counted.CountedBlocks as counted
use Rattle.fi_parts.specs.contracts.blocks.block.Links as links
use Rattle.fi_parts.specs.Placed.{at_ptr}
use Rattle.fi_parts.specs.OwnerLending.{with_block}
use Rattle.fi_parts.specs.Links.{loose}

module _ {T : Type 0} where
  abbrev pub block_in : CountedBlocks T → BlockPtr T → Option (Block T)
  block_in c p = at_ptr c.owner.blocks p.ptr

  abbrev pub links_in : Option (Block T) → Option (Links T)
  links_in None = None
  links_in (Some b) = Some b.links

  -- what a block holds beside its links: its item and its slot
  abbrev pub data_in : Option (Block T) → Option (T × ℕ)
  data_in None = None
  data_in (Some b) = Some (b.item, b.slot)

  abbrev pub item_in : Option (T × ℕ) → Option T
  item_in None = None
  item_in (Some d) = Some d.0

  abbrev pub slot_in : Option (T × ℕ) → Option ℕ
  slot_in None = None
  slot_in (Some d) = Some d.1

  -- a block that is not in the list
  abbrev pub loose_block : T → ℕ → Block T
  loose_block item slot = record { item = item; links = loose; slot = slot }

  -- after one visit of the block at p, whose links were then written
  abbrev pub visited : CountedBlocks T → BlockPtr T → Option (Block T) → Links T → CountedBlocks T
  visited c p None w = c
  visited c p (Some b) w = record c {
    owner = with_block c.owner p.ptr (record b { links = w });
    visits = record c.visits { count = suc c.visits.count };
  }

  abbrev pub reached : CountedBlocks T → BlockPtr T → Links T → CountedBlocks T
  reached c p w = visited c p (block_in c p) w

  -- the item of the block at p was written
  abbrev pub rewritten : CountedBlocks T → BlockPtr T → Option (Block T) → T → CountedBlocks T
  rewritten c p None w = c
  rewritten c p (Some b) w = record c { owner = with_block c.owner p.ptr (record b { item = w }) }

module _ (T : RattleType) (c : MutBor (CountedBlocks T.Denot)) (p : BlockPtr T.Denot) where
  abbrev pub LendsLinks : MutBor (Links T.Denot) → Fml
  LendsLinks r = Lends (counted.the_row T) (links.the_row T) c r (reached c.now p)

  abbrev pub LendsItem : MutBor T.Denot → Fml
  LendsItem r = Lends (counted.the_row T) T c r (rewritten c.now p (block_in c.now p))
