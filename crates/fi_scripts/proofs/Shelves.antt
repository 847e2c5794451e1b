-- Shelves without labels.
use Rattle.std.proofs.Common.{◌≡◌, ℕ, ◌^◌, List, [], ◌∷◌, refl, ap, arith, zero, suc}
use Rattle.std.specs.Prelude.{Bool, true, false, cond, ltb, All, Option, None, slice_get}
use Rattle.std.specs.BTreeMap.{BTreeMap, IsEmpty, is_at}
use Rattle.std.specs.Map.{lookup}
use Rattle.std.specs.Ordering.{nat_cmp}
use Rattle.fi_scripts.specs.Stored.{on_shelf, on_shelves, shelf_of, stored}

module _ {V : Type 0} where
  empty_shelf : (shelves : List (BTreeMap ℕ V)) (i code : ℕ) → All (λ shelf. IsEmpty shelf) shelves
      → on_shelf (slice_get shelves i) code ≡ None
  empty_shelf [] i code empty = refl
  empty_shelf (shelf ∷ shelves) zero code empty =
      ap (λ entries. lookup (is_at (nat_cmp code)) entries) (empty zero shelf (omega arith))
  empty_shelf (shelf ∷ shelves) (suc i) code empty =
      empty_shelf shelves i code (λ k d h. empty (suc k) d (omega (arith, h)))

  either_none : (b : Bool) (short long : Option V) → short ≡ None → long ≡ None → cond b short long ≡ None
  either_none true short long none none' = none
  either_none false short long none none' = none'

  pub empty_shelves : (short long : List (BTreeMap ℕ V)) → All (λ shelf. IsEmpty shelf) short
      → All (λ shelf. IsEmpty shelf) long → (code : ℕ) → stored short long code ≡ None
  empty_shelves short long empty empty' code =
      either_none (ltb code (2 ^ 64)) (on_shelves short code) (on_shelves long code)
      (empty_shelf short (shelf_of short code) code empty) (empty_shelf long (shelf_of long code) code empty')
