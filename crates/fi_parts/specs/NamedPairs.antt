-- Pairs of name and waker, for names of any type with an equality test.
use Rattle.std.specs.Prelude.{◌≡◌, Bool, true, not, cond, List, [], ◌∷◌, Option, Some, None, filter}
use Rattle.std.specs.List.{list_any}

-- The test is that of equality.
pub record IsNameTest {N : Type 0} (same : N → N → Bool) : Type 0 where
  pub is_same : (a b : N) → same a b ≡ true → a ≡ b
  pub same_as : (a : N) → same a a ≡ true

module _ {N W : Type 0} (same : N → N → Bool) where
  -- a pair of this name is there
  abbrev pub has_by : N → List (N × W) → Bool
  has_by name pairs = list_any (λ p. same name p.0) pairs

  -- the waker of this name's pair
  abbrev pub waker_by : N → List (N × W) → Option W
  waker_by name [] = None
  waker_by name (p ∷ ps) = cond (same name p.0) (Some p.1) (waker_by name ps)

  abbrev pub without_by : N → List (N × W) → List (N × W)
  without_by name pairs = filter (λ p. not (same name p.0)) pairs

module _ {N W : Type 0} where
  -- the waker that is handed out next
  abbrev pub first_waker : List (N × W) → Option W
  first_waker [] = None
  first_waker (p ∷ ps) = Some p.1

  abbrev pub waker_in_pair : Option (N × W) → Option W
  waker_in_pair None = None
  waker_in_pair (Some p) = Some p.1
