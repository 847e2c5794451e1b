-- The list names live slots, each once.
use Rattle.std.proofs.Common.{◌≡◌, ℕ, ◌≤◌, true, List, [], ◌∷◌, length, map, Option, Some, None, is_some, IsSome, refl, sym, ap}
use Rattle.std.proofs.Common.{◌∙◌, inl, inr}
use Rattle.std.proofs.lemmas.Bool.{eqb-true, or_cases, false≢true}
use Rattle.std.proofs.lemmas.Map.Steps.{length-le_from_distinct_below}
use Rattle.slab.specs.Slab.{Slab, get}
use Rattle.slab.proofs.SlabLemmas.{ContainsKey-within}
use Rattle.fi_parts.specs.declared.blocks.block.Block.{Block}
use Rattle.fi_parts.specs.declared.blocks.block.BlockPtr.{BlockPtr}
use Rattle.fi_parts.specs.declared.blocks.linked.LinkedBlocks.{LinkedBlocks}
use Rattle.fi_parts.specs.Order.{holds, Apart}
use Rattle.fi_parts.specs.ListModel.{IsListed}
use Rattle.fi_parts.specs.Links.{Distinct}
use Rattle.fi_parts.specs.Blocks.{item_by, slot_by, IsStored, IsSound, view_of}
use Rattle.fi_parts.specs.CountedBlocks.{data_in, item_in}
use Rattle.fi_parts.specs.LinkedBlocks.{block_at, chain_of, data_of}
use Rattle.fi_parts.proofs.Slots.{IsDistinct-from_Apart}
use Rattle.fi_parts.proofs.BlockSlots.{AllLive, tail_live, head_live, slot_in-live, holds_slot, chain_live, get-live_by}

module _ {T : Type 0} (store : Slab (BlockPtr T)) (s : LinkedBlocks T) (ok : IsStored (data_of s) store) where
  -- a slot that the list has is that of a live block
  named : (k : ℕ) (xs : List (BlockPtr T)) → AllLive store s ok xs → holds k (map (slot_by (data_of s)) xs) ≡ true → (p : BlockPtr T)
      × (get store k ≡ Some p) × IsSome (block_at s p)
  named k [] all at = absurd (false≢true at)
  named k (x ∷ xs) all at =
      elim (or_cases _ _ at) [
        | inl here ↦
            let live = head_live store s ok x xs all in
            (x, ok.stored x k (slot_in-live (block_at s x) live ∙ ap Some (sym (eqb-true k _ here))), live)
        | inr there ↦ named k xs (tail_live store s ok x xs all) there
      ]

  apart : (xs : List (BlockPtr T)) → AllLive store s ok xs → Distinct xs → Apart (map (slot_by (data_of s)) xs)
  apart [] all d = tt
  apart (x ∷ xs) all d =
      let k = slot_by (data_of s) x in
      let at : get store k ≡ Some x = ok.stored x k (slot_in-live (block_at s x) (head_live store s ok x xs all)) in
      (holds_slot store s ok k x xs at (tail_live store s ok x xs all) ∙ d.0, apart xs (tail_live store s ok x xs all) d.1)

  item_some : (o : Option (Block T)) → IsSome o → IsSome (item_in (data_in o))
  item_some (Some b) has = refl
  item_some None has = has

module _ {T : Type 0} (store : Slab (BlockPtr T)) (s : LinkedBlocks T) (sound : IsSound store s) where
  pub is_listed : IsListed (view_of store s)
  is_listed =
      let all = chain_live store s sound.stored sound.chained in
      record {
        live = λ k at.
            let found = named store s sound.stored k (chain_of s) all at in
            ap is_some (get-live_by (data_of s) store k ∙ ap (item_by (data_of s)) found.1) ∙ item_some store s sound.stored
            (block_at s found.0) found.2;
        apart = apart store s sound.stored (chain_of s) all sound.chained.distinct;
      }

  pub order-le : length (view_of store s).order ≤ length store.slots
  order-le =
      let all = chain_live store s sound.stored sound.chained in
      length-le_from_distinct_below (view_of store s).order (length store.slots)
      (IsDistinct-from_Apart _ (apart store s sound.stored (chain_of s) all sound.chained.distinct))
      (λ q at. let found = named store s sound.stored q (chain_of s) all at in ContainsKey-within store q (ap is_some found.1))
