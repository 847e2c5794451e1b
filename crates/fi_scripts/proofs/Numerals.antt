-- Decimal numerals, read from the front.
use Rattle.std.proofs.Common.{◌≡◌, ℕ, ◌+◌, ◌*◌, ◌-◌, ◌<◌, ◌≤◌, ◌^◌, List, length, take, get_or, sym, ap, subst, ◌∙◌, arith, zero}
use Rattle.std.proofs.Common.{suc, lit<, lit≤}
use Rattle.std.specs.Fmt.{decimal}
use Rattle.std.specs.Int.{IsInRange}
use Rattle.std.specs.Str.Parse.{digits_value}
use Rattle.std.proofs.lemmas.Str.Parse.{IsNumeralModel, numerals_by_value, tells_by_index, digits_value-take-le}
use Rattle.std.proofs.lemmas.Int.Digits.{digits_value_more}
use Rattle.std.proofs.lemmas.Str.{digit_value_digit}
use Rattle.std.proofs.lemmas.List.{take_all}
use Rattle.std.proofs.lemmas.Fmt.{decimal-digits_value, digits_decimal, digits_value-decimal, decimal_nonempty, first_decimal}
use Rattle.std.proofs.lemmas.Fmt.{length-decimal-le}

-- each byte is a digit
abbrev pub HasDigits : List ℕ → Type 0
HasDigits ds = (i : ℕ) → i < length ds → IsInRange 48 57 (get_or ds i 0)

pub own : IsNumeralModel HasDigits (digits_value 10)
own = numerals_by_value _ tells_by_index

-- digits without a leading zero are the numeral of their value
pub is_numeral : (ds : List ℕ) → HasDigits ds → 0 < length ds → (get_or ds 0 0 ≡ 48 → length ds ≡ 1)
    → digits_value 10 ds < 2 ^ 64 → ds ≡ decimal (digits_value 10 ds)
is_numeral ds all some lead small = sym (decimal-digits_value own ds all some lead small)

-- the same of all that was read, whose number is v
pub is_numeral_of : (ds : List ℕ) (i v : ℕ) → v ≡ digits_value 10 (take i ds) → length ds ≤ i → HasDigits ds
    → 0 < length ds → (get_or ds 0 0 ≡ 48 → length ds ≡ 1) → v < 2 ^ 64 → ds ≡ decimal v
is_numeral_of ds i v e read all some lead small =
    let value : v ≡ digits_value 10 ds = e ∙ ap (digits_value 10) (take_all i ds read) in
    is_numeral ds all some lead (omega (arith, value, small)) ∙ ap decimal (sym value)

-- no numeral is empty
pub empty_is_none : (n : ℕ) → n < 2 ^ 64 → 0 < length (decimal n)
empty_is_none n h = decimal_nonempty n h

-- a numeral has no leading zero but `0` itself
pub zero_alone : (ds : List ℕ) (n : ℕ) → n < 2 ^ 64 → ds ≡ decimal n → get_or ds 0 0 ≡ 48 → length ds ≤ 1
zero_alone ds zero small e lead = rw e (length-decimal-le 1 0 (lit< tt) (lit< tt) small)
zero_alone ds (suc n) small e lead =
    let first : 48 < get_or (decimal (suc n)) 0 0 = first_decimal (suc n) (omega arith) small in
    let same : get_or (decimal (suc n)) 0 0 ≡ 48 = subst (λ xs. get_or xs 0 0 ≡ 48) e lead in
    absurd (omega (arith, first, same))

-- each byte of a numeral is a digit
pub numeral_digits : (ds : List ℕ) (n : ℕ) → n < 2 ^ 64 → ds ≡ decimal n → HasDigits ds
numeral_digits ds n small e = subst HasDigits (sym e) (digits_decimal own n small)

-- the front of a numeral has at most its value
pub front_value : (ds : List ℕ) (n i : ℕ) → n < 2 ^ 64 → ds ≡ decimal n → digits_value 10 (take i ds) ≤ n
front_value ds n i small e =
    let whole : digits_value 10 ds ≡ n = rw e (digits_value-decimal own n small) in
    let front : digits_value 10 (take i ds) ≤ digits_value 10 ds = digits_value-take-le 10 ds i (lit≤ tt) in
    omega (arith, whole, front)

-- the value of one more byte of digits
pub one_more : (ds : List ℕ) (i : ℕ) → i < length ds → IsInRange 48 57 (get_or ds i 0)
    → digits_value 10 (take (i + 1) ds) ≡ digits_value 10 (take i ds) * 10 + (get_or ds i 0 - 48)
one_more ds i h range = omega (arith, digits_value_more 10 ds i h, digit_value_digit (get_or ds i 0) range)

-- the value up to a byte of a numeral is at most the numeral's
pub value_so_far : (ds : List ℕ) (n i : ℕ) → n < 2 ^ 64 → ds ≡ decimal n → i < length ds
    → digits_value 10 (take i ds) * 10 + (get_or ds i 0 - 48) ≤ n
value_so_far ds n i small e h =
    let range = numeral_digits ds n small e i h in
    omega (arith, one_more ds i h range, front_value ds n (i + 1) small e)
