use Rattle.std.specs.Prelude.{option_copied}
use Rattle.std.proofs.Common.{◌<◌, ◌^◌, ap, arith}
use Rattle.fi_scripts.proofs.FairOpenings.{other_word, word_alone, other_number, word_and_number}
use Rattle.fi_scripts.proofs.fairness.fair_opening.Goals as goal

pub returns-in_err-is_fair : goal.returns-in_err-is_fair
returns-in_err-is_fair c =
    rw (c.from_residual-in_err-is_fair.ensures, ap option_copied c.in_ok-words.was)
    (other_word _ _ _ c.split_at_first.ensures c.in_err-is_fair.ensures)

pub returns-in_err-number : goal.returns-in_err-number
returns-in_err-number c =
    rw (c.from_residual-in_err-number.ensures, ap option_copied c.in_ok-words.was)
    (word_alone _ _ _ c.split_at_first.ensures (ap option_copied c.in_err-number.was))

pub returns-in_err-value : goal.returns-in_err-value
returns-in_err-value c =
    rw (c.from_residual-in_err-value.ensures, ap option_copied c.in_ok-words.was)
    (other_number _ _ _ c.split_at_first.ensures c.in_ok-number.field-0.now (ap option_copied c.in_ok-number.was)
    (λ n small. c.in_err-value.ensures n (omega (arith, small))))

pub returns : goal.returns
returns c =
    let small : c.in_ok-value.value < 2 ^ 64 = omega arith in
    rw (ap option_copied c.in_ok-words.was)
    (word_and_number _ _ _ c.split_at_first.ensures c.in_ok-number.field-0.now c.in_ok-is_fair.is_fair c.in_ok-value.value
    (ap option_copied c.in_ok-number.was) c.in_ok-is_fair.ensures c.in_ok-value.ensures small)
