-- Wakers that a state names to be woken.
use Rattle.std.specs.Prelude.{◌≡◌, List, [], ◌∷◌, Option, Some, None, map}

-- The oldest waker is taken out; none comes where none is left.
abbrev pub TakesFirst : {W : Type 0} → List W → Option W → List W → Type 0
TakesFirst [] answer new = (answer ≡ None) × (new ≡ [])
TakesFirst (waker ∷ wakers) answer new = (answer ≡ Some waker) × (new ≡ wakers)

-- the wakers of named pairs, in their order
abbrev pub wakers_in : {A W : Type 0} → List (A × W) → List W
wakers_in pairs = map (λ pair. pair.1) pairs
