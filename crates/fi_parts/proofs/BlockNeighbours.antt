-- The neighbours of a listed block, as slots.
use Rattle.std.proofs.Common.{◌≡◌, ℕ, true, List, [], ◌∷◌, ◌++◌, map, Option, Some, None, IsSome, sym, ap, refl, ◌∙◌}
use Rattle.std.proofs.lemmas.Bool.{or_left}
use Rattle.std.proofs.lemmas.Option.{same_Some}
use Rattle.slab.specs.Slab.{Slab, get}
use Rattle.fi_parts.specs.declared.blocks.block.BlockPtr.{BlockPtr}
use Rattle.fi_parts.specs.declared.blocks.linked.LinkedBlocks.{LinkedBlocks}
use Rattle.fi_parts.specs.Order.{last_or}
use Rattle.fi_parts.specs.Links.{names}
use Rattle.fi_parts.specs.Blocks.{slot_by, IsStored, IsSound}
use Rattle.fi_parts.specs.LinkedBlocks.{block_at, chain_of, data_of}
use Rattle.fi_parts.proofs.Chains.{split_at, names-append, last_or-held}
use Rattle.fi_parts.proofs.Moved.{is_live}
use Rattle.fi_parts.proofs.BlockSlots.{AllLive, head_live, tail_live, slot_in-live, each_in, last_or-each}

module _ {T : Type 0} where
  -- This is the block that stands before that one in the list, or none where it is the first.
  abbrev pub IsBefore : List (BlockPtr T) → BlockPtr T → Option (BlockPtr T) → Type 0
  IsBefore chain x found = (front rest : List (BlockPtr T)) → chain ≡ front ++ x ∷ rest → found ≡ last_or None front

  -- the block before a listed one is live
  pub before_live : (store : Slab (BlockPtr T)) (s : LinkedBlocks T) → IsSound store s → (x next : BlockPtr T)
      → names x (chain_of s) ≡ true → IsBefore (chain_of s) x (Some next) → IsSome (block_at s next)
  before_live store s sound x next at is =
      let cut = split_at x (chain_of s) at in
      is_live s next (sound.chained.flags next
      ∙ rw cut.2 (names-append next cut.0 (x ∷ cut.1) ∙ or_left _ _ (last_or-held cut.0 next (sym (is cut.0 cut.1 cut.2)))))

  -- The list is cut before this block, and these are the slots before it.
  pub record Cut (slot_of : BlockPtr T → ℕ) (xs : List (BlockPtr T)) (x : BlockPtr T) (front : List ℕ) : Type 0 where
    pub before : List (BlockPtr T)
    pub after : List (BlockPtr T)
    pub is : xs ≡ before ++ x ∷ after
    pub slots : map slot_of before ≡ front

  module _ (store : Slab (BlockPtr T)) (s : LinkedBlocks T) (ok : IsStored (data_of s) store) where
    -- where a slot stands among the slots, its block stands among the blocks
    pub cut_at : (xs : List (BlockPtr T)) (k : ℕ) (x : BlockPtr T) (front rest : List ℕ) → get store k ≡ Some x → AllLive store s ok xs
        → map (slot_by (data_of s)) xs ≡ front ++ k ∷ rest → Cut (slot_by (data_of s)) xs x front
    cut_at [] k x [] rest at all is = absurd (cc)
    cut_at [] k x (f ∷ front) rest at all is = absurd (cc)
    cut_at (y ∷ ys) k x [] rest at all is =
        let slot : slot_by (data_of s) y ≡ k = cc in
        let same : x ≡ y =
        same_Some _ _ (sym at ∙ ok.stored y k (slot_in-live (block_at s y) (head_live store s ok y ys all) ∙ ap Some slot)) in
        record { before = []; after = ys; is = ap (λ z. z ∷ ys) (sym same); slots = refl }
    cut_at (y ∷ ys) k x (f ∷ front) rest at all is =
        let slot : slot_by (data_of s) y ≡ f = cc in
        let tail : map (slot_by (data_of s)) ys ≡ front ++ k ∷ rest = cc in
        let cut = cut_at ys k x front rest at (tail_live store s ok y ys all) tail in
        record {
          before = y ∷ cut.before;
          after = cut.after;
          is = ap (λ zs. y ∷ zs) cut.is;
          slots = λ i. slot i ∷ cut.slots i;
        }

    -- the slot of the block before a listed one
    pub slot_before : (xs : List (BlockPtr T)) (k : ℕ) (x : BlockPtr T) (front rest : List ℕ) (found : Option (BlockPtr T))
        → get store k ≡ Some x → AllLive store s ok xs → map (slot_by (data_of s)) xs ≡ front ++ k ∷ rest → IsBefore xs x found
        → each_in (slot_by (data_of s)) found ≡ last_or None front
    slot_before xs k x front rest found at all is before =
        let cut = cut_at xs k x front rest at all is in
        ap (each_in (slot_by (data_of s))) (before cut.before cut.after cut.is)
        ∙ sym (last_or-each (slot_by (data_of s)) None cut.before) ∙ ap (last_or None) cut.slots
