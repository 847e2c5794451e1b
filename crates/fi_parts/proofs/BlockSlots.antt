-- The blocks as live slots and a list of slots.
use Rattle.std.proofs.Common.{◌≡◌, ℕ, true, false, eqb, ◌||◌, List, [], ◌∷◌, map, Option, Some, None, is_some, IsSome, refl, sym, ap, ◌∙◌}
use Rattle.std.proofs.Common.{arith}
use Rattle.std.proofs.lemmas.Bool.{true≢false, or_left, or_right}
use Rattle.std.specs.FinMap as fin
use Rattle.slab.specs.Slab.{Slab, get, ContainsKey}
use Rattle.fi_parts.specs.declared.blocks.block.Block.{Block}
use Rattle.fi_parts.specs.declared.blocks.block.BlockPtr.{BlockPtr}
use Rattle.fi_parts.specs.declared.blocks.linked.LinkedBlocks.{LinkedBlocks}
use Rattle.fi_parts.specs.Order.{holds}
use Rattle.fi_parts.specs.Order as order
use Rattle.fi_parts.proofs.Picked.{get-picked}
use Rattle.fi_parts.specs.Links.{alike, names, without}
use Rattle.fi_parts.specs.Blocks.{slot_or, item_by, live_by, slot_by, IsStored}
use Rattle.fi_parts.specs.CountedBlocks.{data_in, item_in, slot_in}
use Rattle.fi_parts.specs.LinkedBlocks.{block_at, SameData, chain_of, IsChained, data_of}
use Rattle.fi_parts.proofs.BlockKeys.{alike_self, alike-from, ne_alike, cases_alike}
use Rattle.fi_parts.specs.Order.{last_or}
use Rattle.fi_parts.proofs.Chains.{last_or-held}
use Rattle.fi_parts.proofs.Moved.{is_live}

module _ {T : Type 0} where
  -- the item under a slot
  pub get-live_by : (d : BlockPtr T → Option (T × ℕ)) (store : Slab (BlockPtr T)) (q : ℕ) → fin.get (live_by d store.slots) q
      ≡ item_by d (get store q)
  get-live_by d store q = get-picked (λ p. item_in (d p)) store.slots q

  pub slot_or-of : (o : Option (T × ℕ)) (k : ℕ) → slot_in o ≡ Some k → slot_or o ≡ k
  slot_or-of None k e = absurd (cc)
  slot_or-of (Some d) k e = cc

  pub slot_in-live : (o : Option (Block T)) → IsSome o → slot_in (data_in o) ≡ Some (slot_or (data_in o))
  slot_in-live None some = absurd (true≢false (sym some))
  slot_in-live (Some b) some = refl

  pub live-slot_in : (o : Option (Block T)) (k : ℕ) → slot_in (data_in o) ≡ Some k → IsSome o
  live-slot_in None k e = absurd (cc)
  live-slot_in (Some b) k e = refl

  pub live_of_slot : (store : Slab (BlockPtr T)) (s : LinkedBlocks T) (k : ℕ) (p : BlockPtr T) → IsStored (data_of s) store
      → get store k ≡ Some p → IsSome (block_at s p)
  live_of_slot store s k p ok at = live-slot_in (block_at s p) k (ok.held k p at)

  -- a key that has an item is a key of the slab
  pub key_of_live : (store : Slab (BlockPtr T)) (s : LinkedBlocks T) (k : ℕ) → IsSome (fin.get (live_by (data_of s) store.slots) k)
      → ContainsKey store k
  key_of_live store s k has = from (get store k) (sym (get-live_by (data_of s) store k)) has
    where
      from : (o : Option (BlockPtr T)) → item_by (data_of s) o ≡ fin.get (live_by (data_of s) store.slots) k
          → IsSome (fin.get (live_by (data_of s) store.slots) k) → IsSome o
      from (Some n) e there = refl
      from None e there = absurd (true≢false (sym there ∙ ap is_some (sym e)))

  module _ (store : Slab (BlockPtr T)) (s : LinkedBlocks T) (ok : IsStored (data_of s) store) where
    abbrev pub AllLive : List (BlockPtr T) → Type 0
    AllLive xs = (p : BlockPtr T) → names p xs ≡ true → IsSome (block_at s p)

    pub slot_of_held : (k : ℕ) (p : BlockPtr T) → get store k ≡ Some p → slot_by (data_of s) p ≡ k
    slot_of_held k p at = slot_or-of (data_of s p) k (ok.held k p at)

    pub tail_live : (x : BlockPtr T) (xs : List (BlockPtr T)) → AllLive (x ∷ xs) → AllLive xs
    tail_live x xs all p at = all p (or_right (alike p x) _ at)

    pub head_live : (x : BlockPtr T) (xs : List (BlockPtr T)) → AllLive (x ∷ xs) → IsSome (block_at s x)
    head_live x xs all = all x (or_left (alike x x) _ (alike_self x))

    -- the slot of a block tells it from the other live ones
    same_slot : (k : ℕ) (p x : BlockPtr T) → get store k ≡ Some p → IsSome (block_at s x) → eqb k (slot_by (data_of s) x) ≡ alike p x
    same_slot k p x at live =
        let there = slot_in-live (block_at s x) live in
        grind (arith, cases_alike p x, alike-from p x, ne_alike p x, slot_or-of (data_of s x) k, ok.held k p at, ok.stored x k, there)

    pub holds_slot : (k : ℕ) (p : BlockPtr T) (xs : List (BlockPtr T)) → get store k ≡ Some p → AllLive xs
        → holds k (map (slot_by (data_of s)) xs) ≡ names p xs
    holds_slot k p [] at all = refl
    holds_slot k p (x ∷ xs) at all = λ i. same_slot k p x at (head_live x xs all) i || holds_slot k p xs at (tail_live x xs all) i

    pub without_slot : (k : ℕ) (p : BlockPtr T) (xs : List (BlockPtr T)) → get store k ≡ Some p → AllLive xs
        → order.without k (map (slot_by (data_of s)) xs) ≡ map (slot_by (data_of s)) (without p xs)
    without_slot k p [] at all = refl
    without_slot k p (x ∷ xs) at all =
        grind (arith, same_slot k p x at (head_live x xs all), without_slot k p xs at (tail_live x xs all))

    pub holds_none : (k : ℕ) (xs : List (BlockPtr T)) → get store k ≡ None → AllLive xs → holds k (map (slot_by (data_of s)) xs) ≡ false
    holds_none k [] gone all = refl
    holds_none k (x ∷ xs) gone all =
        let there = slot_in-live (block_at s x) (head_live x xs all) in
        grind (arith, gone, ok.stored x k, there, holds_none k xs gone (tail_live x xs all))

    pub chain_live : IsChained s → AllLive (chain_of s)
    chain_live chained p at = is_live s p (chained.flags p ∙ at)

  -- the data alone tell the slots
  pub data_path : (s t : LinkedBlocks T) → SameData s t → data_of t ≡ data_of s
  data_path s t same = λ i. λ p. same p i

  abbrev pub each_in : (BlockPtr T → ℕ) → Option (BlockPtr T) → Option ℕ
  each_in f None = None
  each_in f (Some p) = Some (f p)

  pub last_or-each : (f : BlockPtr T → ℕ) (p : Option (BlockPtr T)) (xs : List (BlockPtr T)) → last_or (each_in f p) (map f xs)
      ≡ each_in f (last_or p xs)
  last_or-each f p [] = refl
  last_or-each f p (x ∷ xs) = last_or-each f (Some x) xs

  -- the last slot is that of the last block
  pub last_slot : (s : LinkedBlocks T) → IsChained s → last_or None (map (slot_by (data_of s)) (chain_of s))
      ≡ each_in (slot_by (data_of s)) s.last
  last_slot s chained = last_or-each (slot_by (data_of s)) None (chain_of s) ∙ ap (each_in (slot_by (data_of s))) (sym chained.last_is)

  pub last_live : (s : LinkedBlocks T) (p : BlockPtr T) → IsChained s → s.last ≡ Some p → IsSome (block_at s p)
  last_live s p chained e = is_live s p (chained.flags p ∙ last_or-held (chain_of s) p (sym chained.last_is ∙ e))
