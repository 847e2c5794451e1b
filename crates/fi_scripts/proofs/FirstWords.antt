-- Words that a text begins with, read byte by byte up to a space.
use Rattle.std.proofs.Common.{◌≡◌, ◌≢◌, ℕ, ◌+◌, ◌-◌, ◌*◌, ◌<◌, ◌≤◌, ◌^◌, List, [], ◌∷◌, length, take, get_or, refl, sym, ap, ◌∙◌, subst}
use Rattle.std.proofs.Common.{arith, inl, inr, below_more}
use Rattle.std.proofs.Math.Seq.{get_or-append_seam}
use Rattle.std.proofs.lemmas.Bool.{cases_order}
use Rattle.std.proofs.lemmas.List.{take_all, take-append-le, get_or-take, length-take-le}
use Rattle.std.proofs.lemmas.List.Elements.{All-from_get_or}
use Rattle.std.specs.Fmt.{decimal}
use Rattle.std.specs.Int.{IsInRange}
use Rattle.std.specs.Prelude.{Option, None, Some}
use Rattle.std.specs.Str.Parse.{digits_value}
use Rattle.fi_scripts.specs.Cuts.{IsCut}
use Rattle.fi_scripts.specs.Labels.{IsLabel, IsLetterOrDigit, code_of}
use Rattle.fi_scripts.specs.Lines.{joined}
use Rattle.fi_scripts.specs.Spelled.{LabelBegins}
use Rattle.fi_scripts.proofs.Labels.{is_label}
use Rattle.fi_scripts.proofs.Numerals.{is_numeral_of, empty_is_none, zero_alone, numeral_digits, value_so_far}
use Rattle.fi_scripts.proofs.Reading.{cut_of}

-- no space stands before this place
abbrev pub NoSpace : List ℕ → ℕ → Type 0
NoSpace text i = (k : ℕ) → k < i → get_or text k 0 ≢ 32

-- The word that is cut off reaches as far as no space stands.
pub reaches : (text word : List ℕ) (rest : Option (List ℕ)) (i : ℕ) → IsCut 32 text word rest → i ≤ length text
    → NoSpace text i → (i ≤ length word) × (take i text ≡ take i word)
reaches text word None i cut within none =
    (subst (λ t. i ≤ length t) cut.0 within, ap (take i) cut.0)
reaches text word (Some rest) i cut within none =
    let space : get_or text (length word) 0 ≡ 32 = ap (λ t. get_or t (length word) 0) cut.0
    ∙ get_or-append_seam word 32 rest 0 in
    let far : i ≤ length word = elim (cases_order i (length word)) [
      | inl even ↦ omega arith
      | inr (inl less) ↦ omega arith
      | inr (inr more) ↦ absurd (none (length word) more space)
    ] in
    (far, ap (take i) cut.0 ∙ take-append-le i word (32 ∷ rest) far)

-- So does a byte that is no space.
pub reaches_byte : (text word : List ℕ) (rest : Option (List ℕ)) (i : ℕ) → IsCut 32 text word rest → i < length text
    → NoSpace text i → get_or text i 0 ≢ 32 → (i < length word) × (get_or word i 0 ≡ get_or text i 0)
reaches_byte text word rest i cut within none other =
    let far = reaches text word rest (i + 1) cut (omega (arith, within)) (below_more _ _ none other) in
    let under : i < i + 1 = omega arith in (
      omega (arith, far.0),
      sym (get_or-take (i + 1) word i 0 under) ∙ ap (λ t. get_or t i 0) (sym far.1) ∙ get_or-take (i + 1) text i 0 under,
    )

-- A word that is cut off begins as the text does.
pub first_byte : (text word : List ℕ) (rest : Option (List ℕ)) → IsCut 32 text word rest → 0 < length word
    → (0 < length text) × (get_or text 0 0 ≡ get_or word 0 0)
first_byte text word None cut some = (subst (λ t. 0 < length t) (sym cut.0) some, ap (λ t. get_or t 0 0) cut.0)
first_byte text [] (Some rest) cut some = omega (arith, some)
first_byte text (byte ∷ word) (Some rest) cut some = (omega (arith, ap length cut.0), ap (λ t. get_or t 0 0) cut.0)

-- A word without a space that ends where the text does or before a space is cut off.
pub cut_off : (text : List ℕ) (i : ℕ) (rest : Option (List ℕ)) → i ≤ length text → NoSpace text i
    → text ≡ joined (take i text) rest → IsCut 32 text (take i text) rest
cut_off text i rest within none is =
    cut_of text (take i text) rest is
    (All-from_get_or (λ byte. byte ≢ 32) (take i text) 0
    (λ k below.
    let under : k < i = omega (arith, below, length-take-le i text within) in
    λ same. none k under (sym (get_or-take i text k 0 under) ∙ same)))

-- ---- numerals
-- digits stand before this place
abbrev pub Digits : List ℕ → ℕ → Type 0
Digits text i = (k : ℕ) → k < i → IsInRange 48 57 (get_or text k 0)

digits_no_space : (text : List ℕ) (i : ℕ) → Digits text i → NoSpace text i
digits_no_space text i digits = λ k below same. omega (arith, (digits k below).0, same)

-- With one more digit the number is at most the numeral's that the text begins with.
pub digit_fits : (text : List ℕ) (rest : Option (List ℕ)) (i number n : ℕ) → n < 2 ^ 64 → i < length text → Digits text i
    → IsInRange 48 57 (get_or text i 0) → number ≡ digits_value 10 (take i text) → IsCut 32 text (decimal n) rest
    → number * 10 + (get_or text i 0 - 48) ≤ n
digit_fits text rest i number n small within digits digit is cut =
    let none = digits_no_space text i digits in
    let front = reaches text (decimal n) rest i cut (omega (arith, within)) none in
    let byte = reaches_byte text (decimal n) rest i cut within none (λ same. omega (arith, digit.0, same)) in
    let so_far = value_so_far (decimal n) n i small refl byte.0 in
    omega (arith, so_far, byte.1, is ∙ ap (digits_value 10) front.1)

-- No numeral begins without a digit.
pub no_digit : (text : List ℕ) (rest : Option (List ℕ)) (n : ℕ) → n < 2 ^ 64
    → (0 < length text → ¬ IsInRange 48 57 (get_or text 0 0)) → ¬ IsCut 32 text (decimal n) rest
no_digit text rest n small none cut =
    let some = empty_is_none n small in
    let digit = numeral_digits (decimal n) n small refl 0 some in
    let first = first_byte text (decimal n) rest cut some in
    none first.0 (subst (λ byte. IsInRange 48 57 byte) (sym first.1) digit)

-- A numeral of several digits does not begin with 0.
pub no_zero_first : (text : List ℕ) (rest : Option (List ℕ)) (i n : ℕ) → n < 2 ^ 64 → 1 < i → i ≤ length text
    → Digits text i → get_or text 0 0 ≡ 48 → ¬ IsCut 32 text (decimal n) rest
no_zero_first text rest i n small several within digits zero_first cut =
    let none = digits_no_space text i digits in
    let front = reaches text (decimal n) rest i cut within none in
    let byte = reaches_byte text (decimal n) rest 0 cut (omega arith) (λ k h. none k (omega (arith, h, several)))
    (none 0 (omega (arith, several))) in
    omega (arith, several, front.0, zero_alone (decimal n) n small refl (byte.1 ∙ zero_first))

-- A numeral ends at a space or at the end.
pub no_other_end : (text : List ℕ) (rest : Option (List ℕ)) (i n : ℕ) → n < 2 ^ 64 → i < length text → Digits text i
    → (¬ IsInRange 48 57 (get_or text i 0)) → get_or text i 0 ≢ 32 → ¬ IsCut 32 text (decimal n) rest
no_other_end text rest i n small within digits no_digit_here other cut =
    let byte = reaches_byte text (decimal n) rest i cut within (digits_no_space text i digits) other in
    no_digit_here (subst (λ b. IsInRange 48 57 b) byte.1 (numeral_digits (decimal n) n small refl i byte.0))

-- What was read up to a space or the end.
pub numeral_first : (text : List ℕ) (rest : Option (List ℕ)) (i number : ℕ) → i ≤ length text → 0 < i → Digits text i
    → (get_or text 0 0 ≡ 48 → i ≡ 1) → number ≡ digits_value 10 (take i text) → number < 2 ^ 64
    → text ≡ joined (take i text) rest → IsCut 32 text (decimal number) rest
numeral_first text rest i number within some digits lead is small whole =
    let long : length (take i text) ≡ i = length-take-le i text within in
    let numeral : take i text ≡ decimal number = is_numeral_of (take i text) i number
    (is ∙ ap (digits_value 10) (sym (take_all i (take i text) (omega (arith, long))))) (omega (arith, long))
    (λ k h. subst (λ b. IsInRange 48 57 b) (sym (get_or-take i text k 0 (omega (arith, h, long))))
    (digits k (omega (arith, h, long))))
    (omega (arith, long, some))
    (λ zero_first. long ∙ lead (sym (get_or-take i text 0 0 some) ∙ zero_first)) small in
    subst (λ w. IsCut 32 text w rest) numeral (cut_off text i rest within (digits_no_space text i digits) whole)

-- ---- labels
-- characters of labels stand before this place
abbrev pub Characters : List ℕ → ℕ → Type 0
Characters text i = (k : ℕ) → k < i → IsLetterOrDigit (get_or text k 0)

characters_no_space : (text : List ℕ) (i : ℕ) → Characters text i → NoSpace text i
characters_no_space text i characters = λ k below same. elim (characters k below) [
  | inl letter ↦ omega (arith, letter.0, same)
  | inr digit ↦ omega (arith, digit.0, same)
]

-- A label ends at a space or at the end, and before its 17th character.
pub no_other_label : (text word : List ℕ) (rest : Option (List ℕ)) (i : ℕ) → i < length text → Characters text i
    → (i < 16 → ¬ IsLetterOrDigit (get_or text i 0)) → get_or text i 0 ≢ 32 → IsCut 32 text word rest → ¬ IsLabel word
no_other_label text word rest i within characters stopped other cut label =
    let byte = reaches_byte text word rest i cut within (characters_no_space text i characters) other in
    stopped (omega (arith, byte.0, label.1)) (subst IsLetterOrDigit byte.1 (label.3 i 0 byte.0))

-- What was read up to a space or the end.
pub label_first : (text : List ℕ) (rest : Option (List ℕ)) (i code : ℕ) → i ≤ length text → 0 < i → i ≤ 16
    → IsInRange 97 122 (get_or text 0 0) → Characters text i → code ≡ code_of (take i text)
    → text ≡ joined (take i text) rest → LabelBegins text code rest
label_first text rest i code within some few letter characters is whole =
    let long : length (take i text) ≡ i = length-take-le i text within in
    let label = is_label (take i text) i code (omega (arith, long)) (omega (arith, long, some)) (omega (arith, long, few))
    (subst (λ b. IsInRange 97 122 b) (sym (get_or-take i text 0 0 some)) letter)
    (λ k h. subst IsLetterOrDigit (sym (get_or-take i text k 0 h)) (characters k h))
    (is ∙ ap code_of (sym (take_all i (take i text) (omega (arith, long))))) in
    (take i text, cut_off text i rest within (characters_no_space text i characters) whole, label.0, label.1)
