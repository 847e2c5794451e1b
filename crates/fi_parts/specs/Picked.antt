-- The finite map, or set, that some of a store's slots make.
use Rattle.std.specs.Prelude.{ℕ, suc, Bool, false, cond, Option, Some, None, List, [], ◌∷◌}
use Rattle.std.specs.Ordering.{nat_cmp}
use Rattle.std.specs.FinMap as map
use Rattle.std.specs.FinSet as set

-- the map with this under the key, or as it is
abbrev pub put_if : {Y : Type 0} → map.FinMap nat_cmp Y → ℕ → Option Y → map.FinMap nat_cmp Y
put_if m key None = m
put_if m key (Some y) = map.insert m key y

module _ {X Y : Type 0} where
  -- what is picked from a slot, if it holds something
  abbrev pub picked : (X → Option Y) → Option X → Option Y
  picked pick None = None
  picked pick (Some x) = pick x

  -- what is picked from each of these slots, where the first slot has this number
  unfoldable pub picked_from : (X → Option Y) → ℕ → List (Option X) → map.FinMap nat_cmp Y
  picked_from pick key [] = map.empty
  picked_from pick key (slot ∷ rest) = put_if (picked_from pick (suc key) rest) key (picked pick slot)

module _ {X : Type 0} where
  abbrev pub chosen : (X → Bool) → Option X → Bool
  chosen test None = false
  chosen test (Some x) = test x

  -- the slots that hold what passes the test, where the first slot has this number
  unfoldable pub chosen_from : (X → Bool) → ℕ → List (Option X) → set.FinSet nat_cmp
  chosen_from test key [] = set.empty
  chosen_from test key (slot ∷ rest) = cond (chosen test slot) (set.insert (chosen_from test (suc key) rest) key)
      (chosen_from test (suc key) rest)
