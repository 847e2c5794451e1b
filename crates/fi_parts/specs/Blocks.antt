-- What a contract sees of the blocks: live slots with their items, and a list of live slots.
use Rattle.std.specs.Prelude.{◌≡◌, ℕ, zero, Option, Some, None, List, map as each}
use Rattle.std.specs.Ordering.{nat_cmp}
use Rattle.std.specs.FinMap as map
use Rattle.slab.specs.Slab.{Slab, get}
use Rattle.fi_parts.specs.declared.blocks.block.BlockPtr.{BlockPtr}
use Rattle.fi_parts.specs.declared.blocks.linked.LinkedBlocks.{LinkedBlocks}
use Rattle.fi_parts.specs.ListModel.{ListModel}
use Rattle.fi_parts.specs.Picked.{picked, picked_from}
use Rattle.fi_parts.specs.CountedBlocks.{item_in, slot_in}
use Rattle.fi_parts.specs.LinkedBlocks.{data_of, chain_of, IsChained}

module _ {T : Type 0} where
  abbrev pub slot_or : Option (T × ℕ) → ℕ
  slot_or None = zero
  slot_or (Some d) = d.1

  module _ (data_at : BlockPtr T → Option (T × ℕ)) where
    abbrev pub item_by : Option (BlockPtr T) → Option T
    item_by = picked (λ p. item_in (data_at p))

    abbrev pub live_by : List (Option (BlockPtr T)) → map.FinMap nat_cmp T
    live_by = picked_from (λ p. item_in (data_at p)) 0

    abbrev pub slot_by : BlockPtr T → ℕ
    slot_by p = slot_or (data_at p)

    -- each slot's pointer leads to its block, and each block's slot has its pointer
    pub record IsStored (store : Slab (BlockPtr T)) : Type 0 where
      pub held : (k : ℕ) (p : BlockPtr T) → get store k ≡ Some p → slot_in (data_at p) ≡ Some k
      pub stored : (p : BlockPtr T) (k : ℕ) → slot_in (data_at p) ≡ Some k → get store k ≡ Some p

  abbrev pub view_of : Slab (BlockPtr T) → LinkedBlocks T → ListModel T
  view_of store s = record {
    live = live_by (data_of s) store.slots;
    order = each (slot_by (data_of s)) (chain_of s);
    visits = s.blocks.visits.count;
  }

  pub record IsSound (store : Slab (BlockPtr T)) (s : LinkedBlocks T) : Type 0 where
    pub stored : IsStored (data_of s) store
    pub chained : IsChained s
