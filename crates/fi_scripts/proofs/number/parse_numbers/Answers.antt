use Rattle.std.specs.Prelude.{Some, option_copied}
use Rattle.std.specs.Fmt.{decimal}
use Rattle.std.proofs.Common.{refl, ap, arith}
use Rattle.fi_scripts.specs.Cuts.{IsCut}
use Rattle.fi_scripts.proofs.Reading.{cut_is, no_first, no_second}
use Rattle.fi_scripts.proofs.number.parse_numbers.Goals as goal

pub returns-in_err-first : goal.returns-in_err-first
returns-in_err-first c =
    rw c.from_residual.ensures
    (no_first c.args.text.now (λ n rest small. c.in_err-first.ensures n rest (omega (arith, small))))

pub returns-in_err-parse_number-in-Some : goal.returns-in_err-parse_number-in-Some
returns-in_err-parse_number-in-Some c =
    let cut : IsCut 32 c.args.text.now (decimal c.in_ok-first.first) (Some c.in-Some.second.now) = cut_is _ _ _ _ _
    c.in_ok-first.ensures refl (ap option_copied c.in-Some.is) in
    rw c.from_residual-in_err-parse_number-in-Some.ensures
    (no_second c.args.text.now c.in-Some.second.now c.in_ok-first.first cut
    (λ m small. c.in_err-parse_number-in-Some.ensures m (omega (arith, small))))
