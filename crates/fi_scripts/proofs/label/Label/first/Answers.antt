use Rattle.std.proofs.Common.{◌≡◌, ◌<◌, ◌∙◌, length, take, get_or, subst, sym, refl, arith, rules, inl, below_more}
use Rattle.std.proofs.lemmas.Grind.{common_steps}
use Rattle.std.proofs.lemmas.Int.Digits.{number_more}
use Rattle.std.specs.Int.{IsInRange}
use Rattle.fi_scripts.specs.Labels.{IsLetterOrDigit, code_of}
use Rattle.fi_scripts.proofs.FirstWords.{no_other_label, label_first}
use Rattle.fi_scripts.proofs.Labels.{one_more_byte, bytes_fit, one_word}
use Rattle.fi_scripts.proofs.label.Label.first.Goals.{then-loop-end-test+else-is_letter_or_digit, else-loop-end-test}
use Rattle.fi_scripts.proofs.label.Label.first.Goals as goal

pub overflow_mul-code : goal.overflow_mul-code
overflow_mul-code c =
    let few : c.loop-end.end < 16 = omega (arith, c.loop-end-test.true, c.min-most.ensures) in
    omega (arith, bytes_fit c.loop-end.end c.loop-end.code 0 few c.loop-end.invariant.2 (omega arith))

pub overflow_add-code : goal.overflow_add-code
overflow_add-code c =
    let few : c.loop-end.end < 16 = omega (arith, c.loop-end-test.true, c.min-most.ensures) in
    let small : c.from.result < 256 = grind (arith, common_steps) in
    omega (arith, bytes_fit c.loop-end.end c.loop-end.code c.from.result few c.loop-end.invariant.2 small)

pub loop-end-init : goal.loop-end-init
loop-end-init c =
    let some : 0 < length c.args.text.now = grind (arith, common_steps) in
    let letter : IsInRange 97 122 (get_or c.args.text.now 0 0) = grind (arith, common_steps) in
    let more = number_more 256 c.args.text.now 0 some in
    let none : code_of (take 0 c.args.text.now) ≡ 0 = refl in
    let byte : c.from-code.result ≡ get_or c.args.text.now 0 0 = grind (arith, common_steps) in (
      omega (arith, more, none, byte),
      λ k h. subst (λ i. IsLetterOrDigit (get_or c.args.text.now i 0)) (omega (arith, h)) (inl letter),
      omega (arith, byte, letter.1),
      omega arith,
      omega (arith, some),
      omega arith,
    )

pub loop-end-preserved : goal.loop-end-preserved
loop-end-preserved c =
    let at = c.loop-end.end in
    let few : at < 16 = omega (arith, c.loop-end-test.true, c.min-most.ensures) in
    let within : at < length c.args.text.now = omega (arith, c.loop-end-test.true, c.min-most.ensures) in
    let small : c.from.result < 256 = grind (arith, common_steps) in
    let kind : IsLetterOrDigit (get_or c.args.text.now at 0) = first_of (search rules, grind (arith, common_steps)) in
    let more = number_more 256 c.args.text.now at within in (
      omega (arith, more, c.loop-end.invariant.0, c.from.ensures),
      below_more _ _ c.loop-end.invariant.1 kind,
      one_more_byte at c.loop-end.code c.from.result c.loop-end.invariant.2 small,
      omega (arith, few),
      omega (arith, within),
      omega arith,
    )

pub returns-in_err-rest-clause-label : goal.returns-in_err-rest-clause-label
returns-in_err-rest-clause-label c =
    let within = c.in_err-rest.ensures.0 in
    rw c.from_residual-in_err-rest.ensures
    (λ word rest cut. no_other_label c.args.text.now word rest c.loop-end.end within c.loop-end.invariant.1
    (λ few kind. elim c.loop-end-test.branch [
      | then-loop-end-test+else-is_letter_or_digit w ↦ first_of (search (rules, kind), grind (arith, common_steps, kind))
      | else-loop-end-test w ↦ omega (arith, few, within, w.loop-end-test.false, c.min-most.ensures)
    ]) c.in_err-rest.ensures.1 cut)

pub returns-clause-label : goal.returns-clause-label
returns-clause-label c =
    let letter : IsInRange 97 122 (get_or c.args.text.now 0 0) = grind (arith, common_steps) in
    label_first c.args.text.now _ c.loop-end.end c.loop-end.code c.loop-end.invariant.4 c.loop-end.invariant.5
    c.loop-end.invariant.3 letter c.loop-end.invariant.1 c.loop-end.invariant.0 c.in_ok-rest.ensures

pub returns-clause-one_word : goal.returns-clause-one_word
returns-clause-one_word c = λ word other label other_label same same'.
    one_word other word other_label label (same' ∙ sym same)
