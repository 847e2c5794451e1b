-- The blocks at the ends of the list, and their slots.
use Rattle.std.proofs.Common.{◌≡◌, ℕ, [], List, ◌∷◌, map, Option, Some, None, IsSome, refl, sym, ap, ◌∙◌}
use Rattle.slab.specs.Slab.{Slab, get}
use Rattle.fi_parts.specs.declared.blocks.block.BlockPtr.{BlockPtr}
use Rattle.fi_parts.specs.declared.blocks.linked.LinkedBlocks.{LinkedBlocks}
use Rattle.fi_parts.specs.Order.{head_or, youngest, oldest}
use Rattle.fi_parts.specs.ListModel.{item_of, at_end}
use Rattle.fi_parts.specs.Blocks.{item_by, slot_by, view_of, IsSound}
use Rattle.fi_parts.specs.CountedBlocks.{item_in}
use Rattle.fi_parts.specs.LinkedBlocks.{block_at, chain_of, data_of, with_item}
use Rattle.fi_parts.proofs.Chains.{head_or-held}
use Rattle.fi_parts.proofs.Moved.{is_live}
use Rattle.fi_parts.proofs.BlockSlots.{slot_in-live, get-live_by, each_in, last_slot}
use Rattle.fi_parts.proofs.BlockChanges.{view_item}

module _ {T : Type 0} (store : Slab (BlockPtr T)) (s : LinkedBlocks T) (sound : IsSound store s) where
  abbrev ends : Option (BlockPtr T) → Option ℕ
  ends = each_in (slot_by (data_of s))

  head_or-each : (xs : List (BlockPtr T)) → head_or (map (slot_by (data_of s)) xs) None ≡ ends (head_or xs None)
  head_or-each [] = refl
  head_or-each (x ∷ xs) = refl

  first_slot : youngest (view_of store s).order ≡ ends s.first
  first_slot = head_or-each (chain_of s) ∙ ap ends (sym sound.chained.first_is)

  pub first_live : (p : BlockPtr T) → s.first ≡ Some p → IsSome (block_at s p)
  first_live p e =
      is_live s p (sound.chained.flags p ∙ head_or-held (chain_of s) p (sym sound.chained.first_is ∙ e))

  pub slot_held : (p : BlockPtr T) → IsSome (block_at s p) → get store (slot_by (data_of s) p) ≡ Some p
  slot_held p live = sound.stored.stored p (slot_by (data_of s) p) (slot_in-live (block_at s p) live)

  module _ (p : BlockPtr T) where
    pub first_is : s.first ≡ Some p → youngest (view_of store s).order ≡ Some (slot_by (data_of s) p)
    first_is e = first_slot ∙ ap ends e

    pub last_is : s.last ≡ Some p → oldest (view_of store s).order ≡ Some (slot_by (data_of s) p)
    last_is e = last_slot s sound.chained ∙ ap ends e

    module _ (end : Option ℕ) (is : end ≡ Some (slot_by (data_of s) p)) (live : IsSome (block_at s p)) where
      pub item_at_end : item_of (view_of store s) end ≡ item_in (data_of s p)
      item_at_end =
          ap (item_of (view_of store s)) is ∙ get-live_by (data_of s) store (slot_by (data_of s) p)
          ∙ ap (item_by (data_of s)) (slot_held p live)

      pub view_at_end : (w : T) → view_of store (with_item s p w) ≡ at_end (view_of store s) end w
      view_at_end w =
          view_item store s (slot_by (data_of s) p) p w sound (slot_held p live)
          ∙ ap (λ e. at_end (view_of store s) e w) (sym is)

  pub no_first : s.first ≡ None → youngest (view_of store s).order ≡ None
  no_first e = first_slot ∙ ap ends e

  pub no_last : s.last ≡ None → oldest (view_of store s).order ≡ None
  no_last e = last_slot s sound.chained ∙ ap ends e
