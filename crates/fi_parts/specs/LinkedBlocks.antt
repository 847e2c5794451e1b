-- What a contract sees of the blocks and the two ends of the list.
use Rattle.std.specs.Prelude.{◌≡◌, ℕ, Option, Some, None, List, length}
use Rattle.std.specs.Borrow.{Lends, Fml, RattleType, MutBor}
use Rattle.fi_parts.specs.declared.blocks.block.Block.{Block}
use Rattle.fi_parts.specs.declared.blocks.block.Links.{Links}
use Rattle.fi_parts.specs.declared.blocks.block.BlockPtr.{BlockPtr}
use Rattle.fi_parts.specs.declared.blocks.linked.LinkedBlocks.{LinkedBlocks}
use Rattle.fi_parts.specs.contracts.blocks.linked.LinkedBlocks as linked
use Rattle.fi_parts.specs.CountedBlocks.{block_in, links_in, data_in, visited, rewritten}
use Rattle.fi_parts.specs.Links.{older_to, younger_to, walk, Linked}

module _ {T : Type 0} where
  abbrev pub block_at : LinkedBlocks T → BlockPtr T → Option (Block T)
  block_at s p = block_in s.blocks p

  abbrev pub links_at : LinkedBlocks T → BlockPtr T → Option (Links T)
  links_at s p = links_in (block_at s p)

  -- the item and the slot at each pointer
  abbrev pub data_of : LinkedBlocks T → BlockPtr T → Option (T × ℕ)
  data_of s p = data_in (block_at s p)

  abbrev pub SameData : LinkedBlocks T → LinkedBlocks T → Type 0
  SameData s t = (p : BlockPtr T) → data_in (block_at t p) ≡ data_in (block_at s p)

  pub record SameList (s t : LinkedBlocks T) : Type 0 where
    pub first : t.first ≡ s.first
    pub last : t.last ≡ s.last
    pub visits : t.blocks.visits.count ≡ s.blocks.visits.count

  -- after one visit of the block at p, whose links were then written
  abbrev pub relinked : LinkedBlocks T → BlockPtr T → Option (Block T) → Links T → LinkedBlocks T
  relinked s p o w = record s { blocks = visited s.blocks p o w }

  abbrev pub with_links : LinkedBlocks T → BlockPtr T → Links T → LinkedBlocks T
  with_links s p w = relinked s p (block_at s p) w

  abbrev pub with_older : LinkedBlocks T → Option (BlockPtr T) → Option (BlockPtr T) → LinkedBlocks T
  with_older s None o = record s { first = o }
  with_older s (Some x) o = with_links s x (older_to (links_at s x) o)

  abbrev pub with_younger : LinkedBlocks T → Option (BlockPtr T) → Option (BlockPtr T) → LinkedBlocks T
  with_younger s None y = record s { last = y }
  with_younger s (Some x) y = with_links s x (younger_to (links_at s x) y)

  -- the item of the block at p was written
  abbrev pub reitemed : LinkedBlocks T → BlockPtr T → Option (Block T) → T → LinkedBlocks T
  reitemed s p o w = record s { blocks = rewritten s.blocks p o w }

  abbrev pub with_item : LinkedBlocks T → BlockPtr T → T → LinkedBlocks T
  with_item s p w = reitemed s p (block_at s p) w

  -- the blocks of the list, youngest first
  abbrev pub chain_of : LinkedBlocks T → List (BlockPtr T)
  chain_of s = walk (links_at s) (length s.blocks.owner.blocks) s.first

  abbrev pub IsChained : LinkedBlocks T → Type 0
  IsChained s = Linked (links_at s) s.first s.last (chain_of s)

abbrev pub LendsBlockItem : (T : RattleType) → MutBor (LinkedBlocks T.Denot) → BlockPtr T.Denot → MutBor T.Denot → Fml
LendsBlockItem T s p r = Lends (linked.the_row T) T s r (with_item s.now p)
