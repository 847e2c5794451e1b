-- Labels as numbers.
use Rattle.std.proofs.Common.{◌≡◌, ℕ, ◌+◌, ◌*◌, ◌<◌, ◌≤◌, ◌^◌, ◌-◌, List, [], ◌∷◌, ◌++◌, length, take, drop, get_or, slice_index}
use Rattle.std.proofs.Common.{refl, sym, ap, subst, ◌∙◌, arith, suc, inl, inr}
use Rattle.std.proofs.Math.Pow.{pow_mono}
use Rattle.std.proofs.lemmas.Nat.{pow-add}
use Rattle.std.proofs.lemmas.List.{take_all, take-append-drop, length-drop, get_or-drop}
use Rattle.std.proofs.lemmas.Bool.{cases_order}
use Rattle.std.proofs.lemmas.Int.Digits.{number_after_append, number_after_ge}
use Rattle.std.specs.Int.Digits.{number_from_digits_after}
use Rattle.std.proofs.lemmas.List.Elements.{All-from_get_or}
use Rattle.fi_scripts.specs.Labels.{IsLabel, IsLetter, IsLetterOrDigit, code_of}

-- one more byte
pub one_more_byte : (i code byte : ℕ) → code < 2 ^ (8 * i) → byte < 256 → code * 256 + byte < 2 ^ (8 * (i + 1))
one_more_byte i code byte low small =
    let more : 2 ^ (8 * i + 8) ≡ 2 ^ (8 * i) * 2 ^ 8 = pow-add 2 (8 * i) 8 in
    let same : 2 ^ (8 * (i + 1)) ≡ 2 ^ (8 * i + 8) = ap (λ n. 2 ^ n) (omega arith) in
    rw same (rw more (omega (arith, low, small)))

-- 16 bytes fit
pub bytes_fit : (i code byte : ℕ) → i < 16 → code < 2 ^ (8 * i) → byte < 256 → code * 256 + byte < 2 ^ 128
bytes_fit i code byte few low small =
    let most : 2 ^ (8 * (i + 1)) ≤ 2 ^ 128 = pow_mono {i = 8 * (i + 1)} {j = 128} (omega arith) in
    omega (arith, one_more_byte i code byte low small, most)

-- what was read to its end
pub is_label : (cs : List ℕ) (i code : ℕ) → length cs ≤ i → 0 < length cs → length cs ≤ 16 → IsLetter (slice_index cs 0)
    → ((k : ℕ) → k < i → IsLetterOrDigit (get_or cs k 0)) → code ≡ code_of (take i cs) → IsLabel cs
    × (code ≡ code_of cs)
is_label cs i code read some few first all e = (
  (some, few, first, All-from_get_or IsLetterOrDigit cs 0 (λ k h. all k (omega arith))),
  e ∙ ap code_of
      (take_all i cs read),
)

-- bytes
abbrev HasBytes : List ℕ → Type 0
HasBytes cs = (i : ℕ) → i < length cs → get_or cs i 0 < 256

-- as many bytes that make one number are the same
same_length : (n m : ℕ) (xs ys : List ℕ) → HasBytes xs → HasBytes ys → length xs ≡ length ys
    → number_from_digits_after 256 n xs ≡ number_from_digits_after 256 m ys → (n ≡ m) × (xs ≡ ys)
same_length n m [] [] small small' even e = (e, refl)
same_length n m [] (y ∷ ys) small small' even e = absurd (omega (arith, even))
same_length n m (x ∷ xs) [] small small' even e = absurd (omega (arith, even))
same_length n m (x ∷ xs) (y ∷ ys) small small' even e =
    let rest = same_length (n * 256 + x) (m * 256 + y) xs ys (λ i h. small (suc i) (omega arith))
    (λ i h. small' (suc i) (omega arith)) (omega (arith, even)) e in
    let low : x < 256 = small 0 (omega arith) in
    let low' : y < 256 = small' 0 (omega arith) in
    let first : x ≡ y = omega (arith, rest.0, low, low') in
    (omega (arith, rest.0, low, low'), ap (λ c. c ∷ xs) first ∙ ap (λ cs. y ∷ cs) rest.1)

-- more bytes, the first not 0, make another number
longer : (xs ys : List ℕ) → HasBytes xs → HasBytes ys → length xs < length ys → 0 < get_or ys 0 0
    → code_of xs ≡ code_of ys → ⊥
longer xs [] small small' more some e = omega (arith, more)
longer xs (y ∷ ys) small small' more some e =
    let k = length ys - length xs in
    let front = y ∷ take k ys in
    let back = drop k ys in
    let cut : front ++ back ≡ y ∷ ys = ap (λ cs. y ∷ cs) (take-append-drop k ys) in
    let parts : code_of (y ∷ ys) ≡ number_from_digits_after 256 (code_of front) back =
    ap code_of (sym cut) ∙ number_after_append 256 0 front back in
    let even : length xs ≡ length back = omega (arith, length-drop k ys, more) in
    let bytes : HasBytes back = λ i h. subst (λ c. c < 256) (sym (get_or-drop k ys i 0))
    (small' (suc (k + i)) (omega (arith, length-drop k ys, h))) in
    let zeros = same_length 0 (code_of front) xs back small bytes even (e ∙ parts) in
    let least : 0 * 256 + y ≤ code_of front = number_after_ge 256 (0 * 256 + y) (take k ys) (omega arith) in
    omega (arith, zeros.0, least, some)

label_bytes : (cs : List ℕ) → IsLabel cs → HasBytes cs
label_bytes cs label =
    λ i h. elim (label.3 i 0 h) [ inl letter ↦ omega (arith, letter.1) | inr digit ↦ omega (arith, digit.1) ]

-- Labels of one code are the same.
pub one_word : (xs ys : List ℕ) → IsLabel xs → IsLabel ys → code_of xs ≡ code_of ys → xs ≡ ys
one_word xs ys label label' e =
    elim (cases_order (length xs) (length ys)) [
      | inl even ↦ (same_length 0 0 xs ys (label_bytes xs label) (label_bytes ys label') even e).1
      | inr (inl less) ↦ absurd (longer xs ys (label_bytes xs label) (label_bytes ys label') less
          (omega (arith, label'.2.0)) e)
      | inr (inr less) ↦ absurd (longer ys xs (label_bytes ys label') (label_bytes xs label) less
          (omega (arith, label.2.0)) (sym e))
    ]
