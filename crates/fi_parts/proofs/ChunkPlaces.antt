-- The places of a chunk, and the stack of the pointers to them.
use Rattle.std.proofs.Common.{◌≡◌, ℕ, zero, suc, ◌+◌, ◌*◌, ◌-◌, ◌<◌, ◌≤◌, List, [], ◌∷◌, ◌++◌, refl, sym, ap, ◌∙◌, subst, arith}
use Rattle.std.proofs.Common.{map as each, length, get_or, drop}
use Rattle.std.proofs.lemmas.List.{map-append, append_assoc, append-nil, length-append, drop-append-le, get_or_append_left, drop_all}
use Rattle.std.proofs.Math.Seq.{drop-append_seam, get_or-append_seam}
use native.Mathlib.Nat.{zero-mul, suc-mul}
use denote.RattleType.{RattleType}
use denote.RawPtr.{Ptr, ◌+ₚ◌, block_ptr, null_ptr}
use Rattle.std.specs.Prelude.{Some, IsSome}
use Rattle.std.specs.Mem.{type_size}
use Rattle.std.specs.Vec.Ownership.{FitsInBlock}
use Rattle.fi_parts.specs.declared.blocks.block.Block.{Block}
use Rattle.fi_parts.specs.declared.blocks.block.BlockPtr.{BlockPtr}
use Rattle.fi_parts.specs.declared.blocks.places.BlockPlaces.{BlockPlaces}
use Rattle.fi_parts.specs.Placed.{at_ptr, with_at, without_at}
use Rattle.fi_parts.specs.BlockOwner.{times, block_row, block_places, block_further}
use Rattle.fi_parts.specs.Chunks.{chunk_len, places_in, pointed, nowhere, chunks_of, IsKept}
use Rattle.fi_parts.proofs.BlockCounts.{once, once_same, times_cons, times_append, times_nil, times_found, times_without}
use Rattle.fi_parts.proofs.Placed.{length-with_at, length-without_at}

-- the pointers that a loop has pushed on the stack `old`, to the last places of the chunk at p
pub record Pushed (T : RattleType) (old : List (BlockPtr T.Denot)) (p : Ptr) (len left : ℕ) (new : List (BlockPtr T.Denot)) : Type 0 where
  pub made : ℕ
  pub whole : left + made ≡ len
  pub pushed : List (BlockPtr T.Denot)
  pub items : new ≡ old ++ pushed
  pub same : (q : Ptr) → times q (each pointed pushed) ≡ times q (block_places T (block_further T left p) made)

module _ (T : RattleType) where
  abbrev size : ℕ
  size = type_size (block_row T)

  further_none : (p : Ptr) → block_further T 0 p ≡ p
  further_none (block_ptr b o) = let none = zero-mul size in ap (block_ptr b) (omega (arith, none))
  further_none null_ptr = refl

  further_next : (n : ℕ) (p : Ptr) → block_further T n p +ₚ size ≡ block_further T (suc n) p
  further_next n (block_ptr b o) = let more = suc-mul n size in ap (block_ptr b) (omega (arith, more))
  further_next n null_ptr = refl

  -- a part of a run of blocks fits where the whole does
  pub fits_within : (n made len : ℕ) → suc n + made ≡ len → FitsInBlock (block_row T) len → FitsInBlock (block_row T) (n + 1)
  fits_within n zero len e fits = subst (FitsInBlock (block_row T)) (omega (arith, e)) fits
  fits_within n (suc made) zero e fits = absurd (omega (arith, e))
  fits_within n (suc made) (suc len) e fits =
      let more = suc-mul len size in
      fits_within n made len (omega (arith, e)) (omega (arith, more, fits.0), omega (arith, fits.1))

  module _ (old : List (BlockPtr T.Denot)) (p : Ptr) (len : ℕ) where
    pub pushed_none : Pushed T old p len len old
    pushed_none = record { made = 0; whole = omega arith; pushed = []; items = sym (append-nil old); same = λ q. refl }

    pub pushed_one : (left : ℕ) (new new' : List (BlockPtr T.Denot)) (x : BlockPtr T.Denot) → Pushed T old p len (suc left) new
        → new' ≡ new ++ x ∷ [] → x.ptr ≡ block_further T left p → Pushed T old p len left new'
    pushed_one left new new' x so e at = record {
      made = suc so.made;
      whole = let all = so.whole in omega (arith, all);
      pushed = so.pushed ++ x ∷ [];
      items = e ∙ ap (λ l. l ++ x ∷ []) so.items ∙ append_assoc old so.pushed (x ∷ []);
      same = λ q.
          let more = map-append pointed so.pushed (x ∷ []) in let next = further_next left p in
          grind (arith, more, times_append {X = Unit {0}} q, times_cons {X = Unit {0}} q, times_nil (Unit {0}) q, next, so.same q);
    }

    pub pushed_all : (left : ℕ) (new : List (BlockPtr T.Denot)) → Pushed T old p len left new → left ≤ 0
        → (vs : List (BlockPtr T.Denot)) × (new ≡ old ++ vs) × ((q : Ptr) → times q (each pointed vs) ≡ times q (block_places T p len))
    pushed_all zero new so le =
        let all : so.made ≡ len = let whole = so.whole in omega (arith, whole) in
        (so.pushed, so.items, λ q. so.same q ∙ (λ i. times q (block_places T (further_none p i) (all i))))
    pushed_all (suc left) new so le = absurd (omega (arith, le))

module _ {T : Type 0} where
  chunks_append : (xs ys : List (BlockPtr T)) (k : ℕ) → k ≤ length xs → chunks_of (xs ++ ys) k ≡ chunks_of xs k
  chunks_append xs ys zero le = refl
  chunks_append xs ys (suc k) le =
      λ i. ((get_or_append_left xs ys nowhere k (omega (arith, le)) i).ptr, chunk_len k) ∷ chunks_append xs ys k (omega (arith, le)) i

  -- how often a pointer stands above the chunks' in the stack, where one is pushed
  above_pushed : (q : Ptr) (xs : List (BlockPtr T)) (x : BlockPtr T) (k : ℕ) → k ≤ length xs
      → times q (each pointed (drop k (xs ++ x ∷ []))) ≡ times q (each pointed (drop k xs)) + once x.ptr q
  above_pushed q xs x k le =
      let less = drop-append-le k xs (x ∷ []) le in let more = map-append pointed (drop k xs) (x ∷ []) in
      grind (arith, less, more, times_append {X = Unit {0}} q, times_cons {X = Unit {0}} q, times_nil (Unit {0}) q)

  -- a place is vacated, and its pointer is pushed
  pub kept_freed : (h h' : BlockPlaces T) (xs xs' : List (BlockPtr T)) (c c' k : ℕ) (x : BlockPtr T) → IsKept h xs c k → c' ≡ c
      → xs' ≡ xs ++ x ∷ [] → IsSome (at_ptr h.blocks x.ptr) → h'.blocks ≡ without_at h.blocks x.ptr
      → h'.vacant ≡ (x.ptr, tt) ∷ h.vacant → h'.chunks ≡ h.chunks → IsKept h' xs' c' k
  kept_freed h h' xs xs' c c' k x kept same e there blocks vacant chunks = record {
    within = let le = kept.within in grind (arith, e, length-append xs (x ∷ []), le);
    chunks = chunks ∙ kept.chunks ∙ sym (ap (λ l. chunks_of l k) e ∙ chunks_append xs (x ∷ []) k kept.within);
    vacant = λ q. grind (arith, e, above_pushed q xs x k kept.within, vacant, times_cons q (x.ptr, tt) h.vacant, kept.vacant q);
    count = grind (arith, e, length-append xs (x ∷ []), blocks, length-without_at h.blocks x.ptr there, kept.count);
    fits = let le = kept.fits in omega (arith, le, same);
  }

  -- there is room for the pointer to a block's place
  pub room_left : (h : BlockPlaces T) (xs : List (BlockPtr T)) (c k : ℕ) (p : Ptr) → IsKept h xs c k → IsSome (at_ptr h.blocks p)
      → length xs < c
  room_left h xs c k p kept there =
      let one = length-without_at h.blocks p there in let all = kept.count in let le = kept.fits in omega (arith, one, all, le)

  -- a block is written
  pub kept_written : (h h' : BlockPlaces T) (xs : List (BlockPtr T)) (c k : ℕ) (p : Ptr) (w : Block T) → IsKept h xs c k
      → h'.blocks ≡ with_at h.blocks p w → h'.vacant ≡ h.vacant → h'.chunks ≡ h.chunks → IsKept h' xs c k
  kept_written h h' xs c k p w kept blocks vacant chunks = record {
    within = kept.within;
    chunks = chunks ∙ kept.chunks;
    vacant = λ q. kept.vacant q ∙ sym (ap (times q) vacant);
    count = let same = ap length blocks ∙ length-with_at h.blocks p w in let all = kept.count in omega (arith, same, all);
    fits = kept.fits;
  }

  -- a pointer is popped that is above the chunks'
  module _ (h : BlockPlaces T) (xs xs' : List (BlockPtr T)) (c k : ℕ) (x : BlockPtr T) (kept : IsKept h xs c k) (e : xs ≡ xs' ++ x ∷ [])
      (more : ¬ (length xs ≡ k)) where
    still : k ≤ length xs'
    still = let le = kept.within in grind (arith, e, length-append xs' (x ∷ []), le, more)

    above : (q : Ptr) → times q (each pointed (drop k xs)) ≡ times q (each pointed (drop k xs')) + once x.ptr q
    above q = ap (λ l. times q (each pointed (drop k l))) e ∙ above_pushed q xs' x k still

    found : (u : Unit {0}) × (at_ptr h.vacant x.ptr ≡ Some u)
    found =
        let here = above x.ptr in let one = once_same x.ptr in let all = kept.vacant x.ptr in
        times_found x.ptr h.vacant (omega (arith, here, one, all))

    pub popped_vacant : IsSome (at_ptr h.vacant x.ptr)
    popped_vacant = subst IsSome (sym found.1) refl

    pub kept_popped : (h' : BlockPlaces T) (c' : ℕ) (b : Block T) → c' ≡ c → h'.blocks ≡ (x.ptr, b) ∷ h.blocks
        → h'.vacant ≡ without_at h.vacant x.ptr → h'.chunks ≡ h.chunks → IsKept h' xs' c' k
    kept_popped h' c' b same blocks vacant chunks = record {
      within = still;
      chunks = chunks ∙ kept.chunks ∙ ap (λ l. chunks_of l k) e ∙ chunks_append xs' (x ∷ []) k still;
      vacant = λ q. grind (arith, above q, kept.vacant q, times_without q x.ptr h.vacant found.0 found.1, vacant);
      count = grind (arith, e, length-append xs' (x ∷ []), blocks, kept.count);
      fits = let le = kept.fits in omega (arith, le, same);
    }

  -- a chunk is added where no pointer is above the chunks', and the pointers to its places are pushed
  pub kept_grown : (h h' : BlockPlaces T) (xs ys zs vs : List (BlockPtr T)) (c c' k n : ℕ) (x : BlockPtr T) (run : List (Ptr × Unit {0}))
      → IsKept h xs c k → length xs ≡ k → n ≡ chunk_len k → k + (places_in k + n + 1) ≤ c' → ys ≡ xs ++ x ∷ [] → zs ≡ ys ++ vs
      → length zs ≡ length ys + n → ((q : Ptr) → times q (each pointed vs) ≡ times q run)
      → h'.blocks ≡ h.blocks → h'.vacant ≡ run ++ h.vacant → h'.chunks ≡ (x.ptr, n) ∷ h.chunks → IsKept h' zs c' (k + 1)
  kept_grown h h' xs ys zs vs c c' k n x run kept long size room e e' more same blocks vacant chunks =
      let all : zs ≡ xs ++ x ∷ vs = e' ∙ ap (λ l. l ++ vs) e ∙ append_assoc xs (x ∷ []) vs in
      let next : suc k ≡ k + 1 = omega arith in
      let ylong : length ys ≡ suc k = ap length e ∙ length-append xs (x ∷ []) ∙ omega (arith, long) in
      subst (IsKept h' zs c') next (record {
        within = let zlong = ap length e' ∙ length-append ys vs in omega (arith, zlong, ylong);
        chunks = chunks ∙ (λ i. (x.ptr, size i) ∷ kept.chunks i)
            ∙ sym (ap (λ l. chunks_of l (suc k)) all
            ∙ (λ i. ((subst (λ j. get_or (xs ++ x ∷ vs) j nowhere ≡ x) long (get_or-append_seam xs x vs nowhere) i).ptr, chunk_len k)
            ∷ chunks_append xs (x ∷ vs) k (omega (arith, long)) i));
        -- no pointer was above the chunks', so no place was vacant
        vacant = λ q.
            let seam = subst (λ j. drop j (ys ++ vs) ≡ vs) ylong (drop-append_seam ys vs) in
            let none = drop_all k xs (omega (arith, long)) in
            grind (arith, seam, none, same q, times_append q run h.vacant, times_nil (Unit {0}) q, kept.vacant q);
        count = grind (arith, more, ylong, size, blocks, kept.count, long);
        fits = omega (arith, room, size);
      })

-- how many places three chunks and more have
len_of_more : (k : ℕ) → chunk_len (suc (suc (suc k))) ≡ 256
len_of_more k = grind arith

from_three : (k : ℕ) → places_in (suc (suc (suc k))) ≡ 84 + k * 256
from_three zero = refl
from_three (suc k) = let before = from_three k in let len = len_of_more k in omega (arith, before, len)

pub places_from_three : (k : ℕ) → 3 ≤ k → places_in k ≡ 84 + (k - 3) * 256
places_from_three zero le = absurd (omega (arith, le))
places_from_three (suc zero) le = absurd (omega (arith, le))
places_from_three (suc (suc zero)) le = absurd (omega (arith, le))
places_from_three (suc (suc (suc k))) le = from_three k ∙ ap (λ n. 84 + n * 256) (omega arith)
