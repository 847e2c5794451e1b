use Rattle.std.proofs.Common.{get_or, subst, sym, arith, below_more}
use Rattle.std.proofs.lemmas.Grind.{common_steps}
use Rattle.std.specs.Int.{IsInRange}
use Rattle.fi_scripts.proofs.FirstWords.{digit_fits, no_digit, no_zero_first, no_other_end, numeral_first}
use Rattle.fi_scripts.proofs.Numerals.{one_more}
use Rattle.fi_scripts.proofs.number.first_number.Goals.{then-loop-end-test+else-is_ascii_digit, else-loop-end-test}
use Rattle.fi_scripts.proofs.number.first_number.Goals.{else-end-gt1-via-then-end-gt1+else-text-eq48, else-end-gt1-via-else-end-gt1}
use Rattle.fi_scripts.proofs.number.first_number.Goals as goal

pub returns-in_err-checked_mul : goal.returns-in_err-checked_mul
returns-in_err-checked_mul c =
    let digit : IsInRange 48 57 (get_or c.args.text.now c.loop-end.end 0) = grind (arith, common_steps) in
    rw c.from_residual.ensures
    (λ n rest small cut. c.in_err-checked_mul.ensures (omega (
      arith,
      small,
      digit_fits c.args.text.now rest c.loop-end.end c.loop-end.number n (omega (arith, small)) c.loop-end-test.true
          c.loop-end.invariant.1 digit c.loop-end.invariant.0 cut,
    )))

pub returns-in_err-number : goal.returns-in_err-number
returns-in_err-number c =
    let digit : IsInRange 48 57 (get_or c.args.text.now c.loop-end.end 0) = grind (arith, common_steps) in
    rw c.from_residual-in_err-number.ensures
    (λ n rest small cut.
    let fits = digit_fits c.args.text.now rest c.loop-end.end c.loop-end.number n (omega (arith, small))
    c.loop-end-test.true c.loop-end.invariant.1 digit c.loop-end.invariant.0 cut in
    grind (arith, common_steps, small, fits))

pub loop-end-preserved : goal.loop-end-preserved
loop-end-preserved c =
    let digit : IsInRange 48 57 (get_or c.args.text.now c.loop-end.end 0) = grind (arith, common_steps) in
    let more = one_more c.args.text.now c.loop-end.end c.loop-end-test.true digit in (
      grind (arith, common_steps, more),
      below_more _ _ c.loop-end.invariant.1 digit,
      grind (arith, common_steps),
      omega (arith, c.loop-end-test.true),
    )

pub returns-then-end-eq0 : goal.returns-then-end-eq0
returns-then-end-eq0 c = λ n rest small.
    no_digit c.args.text.now rest n (omega (arith, small)) (λ some first.
    let digit : IsInRange 48 57 (get_or c.args.text.now c.loop-end.end 0) = subst
    (λ i. IsInRange 48 57 (get_or c.args.text.now i 0)) (sym c.if-end-eq0.true) first in
    elim c.loop-end-test.branch [
      | then-loop-end-test+else-is_ascii_digit w ↦ grind (arith, common_steps, digit)
      | else-loop-end-test w ↦ omega (arith, some, w.loop-end-test.false, c.if-end-eq0.true)
    ])

pub returns-then-text-eq48 : goal.returns-then-text-eq48
returns-then-text-eq48 c = λ n rest small.
    no_zero_first c.args.text.now rest c.loop-end.end n (omega (arith, small)) c.if-end-gt1.true c.loop-end.invariant.3
    c.loop-end.invariant.1 c.if-text-eq48.true

pub returns-in_err-rest : goal.returns-in_err-rest
returns-in_err-rest c =
    let within = c.in_err-rest.ensures.0 in
    rw c.from_residual-in_err-rest.ensures (λ n rest small.
    no_other_end c.args.text.now rest c.loop-end.end n (omega (arith, small)) within c.loop-end.invariant.1
    (λ digit. elim c.loop-end-test.branch [
      | then-loop-end-test+else-is_ascii_digit w ↦ grind (arith, common_steps, digit)
      | else-loop-end-test w ↦ omega (arith, within, w.loop-end-test.false)
    ]) c.in_err-rest.ensures.1)

pub returns : goal.returns
returns c =
    numeral_first c.args.text.now _ c.loop-end.end c.loop-end.number c.loop-end.invariant.3
    (omega (arith, c.if-end-eq0.false)) c.loop-end.invariant.1
    (λ zero_first. elim c.else-end-gt1.branch [
      | else-end-gt1-via-then-end-gt1+else-text-eq48 w ↦ absurd (w.if-text-eq48.false zero_first)
      | else-end-gt1-via-else-end-gt1 w ↦ omega (arith, w.if-end-gt1.false, c.if-end-eq0.false)
    ])
    c.loop-end.invariant.0 c.loop-end.invariant.2 c.in_ok-rest.ensures
