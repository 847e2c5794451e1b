use Rattle.std.specs.Prelude.{option_copied}
use Rattle.std.proofs.Common.{◌≡◌, ap, arith}
use Rattle.fi_scripts.proofs.PoolOpenings.{no_numbers, other_numbers}
use Rattle.fi_scripts.proofs.scripted.PoolStateU64Scripted.opening.Goals as goal

pub returns-in_err-limit : goal.returns-in_err-limit
returns-in_err-limit c =
    rw (c.from_residual-in_err-limit.ensures, ap option_copied c.in_ok-words.was) (no_numbers _ c.in_err-limit.ensures)

pub returns-in_default : goal.returns-in_default
returns-in_default c =
    rw (ap option_copied c.in_ok-words.was)
    (other_numbers _ c.in_ok-limit.field-0 c.in_ok-limit.ensures.0 c.in_ok-limit.ensures.1
    (λ limit capacity small same. c.in_default.not-Two limit capacity same))

pub returns-then-capacity-gt-MOST_PLACES : goal.returns-then-capacity-gt-MOST_PLACES
returns-then-capacity-gt-MOST_PLACES c =
    rw (ap option_copied c.in_ok-words.was)
    (other_numbers _ c.in_ok-limit.field-0 c.in_ok-limit.ensures.0 c.in_ok-limit.ensures.1
    (λ limit capacity small same.
    let here : c.in-Two.capacity ≡ capacity = cc in omega (arith, here, small, c.if-capacity-gt-MOST_PLACES.true)))
