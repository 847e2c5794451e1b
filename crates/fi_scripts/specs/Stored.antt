-- What stands on shelves under labels.
use Rattle.std.specs.Prelude.{◌≡◌, ◌≢◌, ◌/◌, ◌%◌, ◌^◌, ℕ, List, length, Option, None, Some, cond, ltb, slice_get}
use Rattle.std.specs.BTreeMap as tree
use Rattle.std.specs.BTreeMap.{BTreeMap}
use Rattle.std.specs.Ordering.{nat_cmp}

module _ {V : Type 0} where
  -- the number of the shelf that a label's code belongs on
  abbrev pub shelf_of : List (BTreeMap ℕ V) → ℕ → ℕ
  shelf_of shelves code = code / 256 % 2 ^ 64 % length shelves

  -- what a shelf has under a code
  abbrev pub on_shelf : Option (BTreeMap ℕ V) → ℕ → Option V
  on_shelf None code = None
  on_shelf (Some shelf) code = tree.get nat_cmp shelf code

  -- what these shelves have under a code
  abbrev pub on_shelves : List (BTreeMap ℕ V) → ℕ → Option V
  on_shelves shelves code = on_shelf (slice_get shelves (shelf_of shelves code)) code

  -- what stands under a label's code: codes of up to 64 bits stand on shelves of their own
  abbrev pub stored : List (BTreeMap ℕ V) → List (BTreeMap ℕ V) → ℕ → Option V
  stored short long code = cond (ltb code (2 ^ 64)) (on_shelves short code) (on_shelves long code)

  -- This stands under the code from now on, and elsewhere what stood there.
  pub record Stores (code : ℕ) (value : Option V) (old new : ℕ → Option V) : Type 0 where
    pub here : new code ≡ value
    pub elsewhere : (other : ℕ) → other ≢ code → new other ≡ old other
