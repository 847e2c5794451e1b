use Rattle.std.specs.Prelude.{None, Some, option_copied}
use Rattle.std.specs.Fmt.{decimal}
use Rattle.std.proofs.Common.{refl, ap, arith}
use Rattle.fi_scripts.specs.Cuts.{IsCut}
use Rattle.fi_scripts.proofs.Reading.{cut_is, cut_of, decimal_lacks, goes_on}
use Rattle.fi_scripts.proofs.number.parse_number.Goals as goal

pub returns-in_err-number : goal.returns-in_err-number
returns-in_err-number c =
    rw c.from_residual.ensures
    (λ n small e. c.in_err-number.ensures n None small
    (cut_of c.args.word.now (decimal n) None e (decimal_lacks n (omega (arith, small)))))

pub returns-in_default-Some : goal.returns-in_default-Some
returns-in_default-Some c = λ n small.
    let cut : IsCut 32 c.args.word.now (decimal c.in_ok-number.field-0.0) (Some c.in_default-Some.field-0-1.now) = cut_is
    _ _ _ _ _ c.in_ok-number.ensures refl (ap option_copied c.in_default-Some.is-1) in
    goes_on c.args.word.now c.in_default-Some.field-0-1.now c.in_ok-number.field-0.0 n (omega (arith, small)) cut
