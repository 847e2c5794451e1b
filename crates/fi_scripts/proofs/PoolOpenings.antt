-- Openings of the worker pool: a limit and a capacity.
use Rattle.std.proofs.Common.{◌≡◌, ◌≢◌, ℕ, ◌≤◌, List, sym, ◌∙◌, arith}
use Rattle.std.specs.Prelude.{Some}
use Rattle.fi_scripts.specs.Language.{AsksForNone}
use Rattle.fi_scripts.specs.Lines.{Fit, numerals}
use Rattle.fi_scripts.specs.Spelled.{IsNoNumerals}
use Rattle.fi_scripts.specs.Openings.{pool_openings}
use Rattle.fi_run.specs.declared.script.row.Numbers.{Numbers}
use Rattle.fi_run.specs.declared.script.row.Numbers.TheVariants.{Two}
use Rattle.fi_scripts.proofs.Reading.{same_numerals}

fits_two : (opening : ℕ × ℕ) → pool_openings.is_nameable opening → Fit (Two opening.0 opening.1)
fits_two opening is = (is.0, omega (arith, is.1))

module _ (text : List ℕ) where
  pub no_numbers : IsNoNumerals text → AsksForNone pool_openings (Some text)
  no_numbers none opening asks = none (Two opening.0 opening.1) (fits_two opening asks.0) asks.1

  -- The text's numbers are not two, or the second is too great.
  pub other_numbers : (numbers : Numbers) → Fit numbers → Some text ≡ numerals numbers
      → ((limit capacity : ℕ) → capacity ≤ 65536 → numbers ≢ Two limit capacity) → AsksForNone pool_openings (Some text)
  other_numbers numbers fits is none opening asks =
      none opening.0 opening.1 asks.0.1
      (same_numerals numbers (Two opening.0 opening.1) fits (fits_two opening asks.0) (sym is ∙ asks.1))
