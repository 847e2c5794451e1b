-- How many ends a channel has on one side.
use Rattle.std.specs.Prelude.{◌≡◌, ◌+◌, ◌==◌, ℕ, Bool, true, false, Result, Ok, Err}
use Rattle.fi_parts.specs.declared.errors.Fault.{Fault}
use Rattle.fi_parts.specs.declared.errors.Fault.TheVariants.{TooManyEnds}

-- as many ends of one side as there can be: `isize::MAX`
abbrev pub most_ends : ℕ
most_ends = 9223372036854775807

-- A count that has reached the most is refused, and nothing changes; else it is one more.
abbrev pub AddsAt : {A : Type 0} → (is_most : Bool) → A → A → Result (Unit {0}) Fault → A → Type 0
AddsAt true old more answer new = (answer ≡ Err TooManyEnds) × (new ≡ old)
AddsAt false old more answer new = (answer ≡ Ok tt) × (new ≡ more)

abbrev pub AddsEnd : ℕ → Result (Unit {0}) Fault → ℕ → Type 0
AddsEnd old answer new = AddsAt (old == most_ends) old (old + 1) answer new
