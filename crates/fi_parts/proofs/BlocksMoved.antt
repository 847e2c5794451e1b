-- What the slots are once the links of the blocks were moved.
use Rattle.std.proofs.Common.{◌≡◌, ℕ, false, map, Some, None, sym, ap, subst, ◌∙◌}
use Rattle.slab.specs.Slab.{Slab, get, Updates}
use Rattle.fi_parts.specs.declared.blocks.block.BlockPtr.{BlockPtr}
use Rattle.fi_parts.specs.declared.blocks.linked.LinkedBlocks.{LinkedBlocks}
use Rattle.fi_parts.specs.Order as order
use Rattle.fi_parts.specs.Placed.{without_at}
use Rattle.fi_parts.specs.Links.{is_linked, without}
use Rattle.fi_parts.specs.Blocks.{slot_by, IsStored, IsSound}
use Rattle.fi_parts.specs.LinkedBlocks.{block_at, SameData, SameList, links_at, data_of, chain_of, IsChained}
use Rattle.fi_parts.proofs.Queues.{holds-without_same}
use Rattle.fi_parts.proofs.BlockSlots.{holds_slot, without_slot, chain_live, data_path}
use Rattle.fi_parts.proofs.BlockChanges.{Change, Change-freed}

module _ {T : Type 0} (store : Slab (BlockPtr T)) (s t : LinkedBlocks T) (sound : IsSound store s) (same : SameData s t)
    (chained : IsChained t) where
  pub sound_moved : IsSound store t
  sound_moved =
      record { stored = subst (λ d. IsStored d store) (sym (data_path s t same)) sound.stored; chained = chained }

  -- the block of one slot was taken out of the list
  module _ (k : ℕ) (p : BlockPtr T) (at : get store k ≡ Some p) (left : chain_of t ≡ without p (chain_of s)) where
    pub order_without :
        map (slot_by (data_of t)) (chain_of t) ≡ order.without k (map (slot_by (data_of s)) (chain_of s))
    order_without =
        ap (map (slot_by (data_of t))) left
        ∙ (λ i. map (slot_by (data_path s t same i)) (without p (chain_of s)))
        ∙ sym (without_slot store s sound.stored k p (chain_of s) at (chain_live store s sound.stored sound.chained))

    off : is_linked (links_at t p) ≡ false
    off =
        let ok = sound_moved.stored in
        chained.flags p
        ∙ sym (holds_slot store t ok k p (chain_of t) at (chain_live store t ok chained))
        ∙ ap (order.holds k) order_without
        ∙ holds-without_same k (map (slot_by (data_of s)) (chain_of s))

    -- and then freed, with its slot
    pub Change-dropped : (store' : Slab (BlockPtr T)) (u : LinkedBlocks T) → Updates store store' k None → u.blocks.owner.blocks
        ≡ without_at t.blocks.owner.blocks p.ptr → block_at u p ≡ None → SameList t u → Change store store' t u k p None
    Change-dropped store' u updates blocks gone rest =
        Change-freed store store' t u k p sound_moved at updates blocks gone rest off
