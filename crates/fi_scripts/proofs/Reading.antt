-- A line is read in one way.
use Rattle.std.proofs.Common.{◌≡◌, ◌≢◌, ℕ, ◌<◌, ◌^◌, ◌++◌, List, [], ◌∷◌, refl, sym, subst, ap, ◌∙◌, arith, zero, suc, inl, inr}
use Rattle.std.proofs.lemmas.Bool.{true≢false, eq-eqb}
use Rattle.std.specs.Prelude.{Bool, true, false, cond, Option, Some, None, All, IfSome, codes, eqb}
use Rattle.std.specs.Fmt.{decimal}
use Rattle.std.proofs.lemmas.Fmt.{digits_value-decimal}
use Rattle.std.proofs.lemmas.List.{get_or_default}
use Rattle.std.specs.Str.Parse.{digits_value}
use Rattle.fi_scripts.specs.Cuts.{IsCut}
use Rattle.fi_scripts.specs.Labels.{IsLabel}
use Rattle.fi_scripts.specs.Lines.{joined, numerals, Fit, words_after, HasWords, Labels, row_of, HoldsLine, IsNoCall, IsBad}
use Rattle.fi_run.specs.declared.script.row.Row.{Row}
use Rattle.fi_scripts.specs.Primitives.{known}
use Rattle.fi_scripts.specs.Spelled.{IsNotSpelled, IsNoNumerals}
use Rattle.fi_scripts.specs.Openings.{fairness_text}
use Rattle.fi_run.specs.Verbs.{verb_text, IsNoVerb}
use Rattle.fi_scripts.specs.declared.named.Named.{Named}
use Rattle.fi_run.specs.declared.script.row.Numbers.{Numbers}
use Rattle.fi_run.specs.declared.script.row.Numbers.TheVariants.{Absent, One, Two}
use Rattle.fi_run.specs.declared.script.verb.Verb.{Verb}
use Rattle.fi_scripts.proofs.Numerals.{own, numeral_digits}

-- no byte is the separator
abbrev pub Lacks : ℕ → List ℕ → Type 0
Lacks separator bytes = All (λ byte. byte ≢ separator) bytes

head_lacks : (separator x : ℕ) (xs : List ℕ) → Lacks separator (x ∷ xs) → x ≢ separator
head_lacks separator x xs lacks = lacks 0 0 (omega arith)

rest_lacks : (separator x : ℕ) (xs : List ℕ) → Lacks separator (x ∷ xs) → Lacks separator xs
rest_lacks separator x xs lacks = λ k d h. lacks (suc k) d (omega (arith, h))

has_one : (separator : ℕ) (xs rest : List ℕ) → Lacks separator (xs ++ separator ∷ rest) → ⊥
has_one separator [] rest lacks = head_lacks separator separator rest lacks refl
has_one separator (x ∷ xs) rest lacks =
    has_one separator xs rest (rest_lacks separator x (xs ++ separator ∷ rest) lacks)

both : (separator : ℕ) (xs ys rest rest' : List ℕ) → xs ++ separator ∷ rest ≡ ys ++ separator ∷ rest'
    → Lacks separator xs → Lacks separator ys → (xs ≡ ys) × (rest ≡ rest')
both separator [] [] rest rest' e lacks lacks' = (refl, cc)
both separator [] (y ∷ ys) rest rest' e lacks lacks' = absurd (head_lacks separator y ys lacks' (cc))
both separator (x ∷ xs) [] rest rest' e lacks lacks' = absurd (head_lacks separator x xs lacks (cc))
both separator (x ∷ xs) (y ∷ ys) rest rest' e lacks lacks' =
    let first : x ≡ y = cc in
    let more = both separator xs ys rest rest' (cc) (rest_lacks separator x xs lacks) (rest_lacks separator y ys lacks')
    in
    (ap (λ c. c ∷ xs) first ∙ ap (λ cs. y ∷ cs) more.0, more.1)

-- A cut is at one place.
pub one_place : (separator : ℕ) (xs ys : List ℕ) (rest rest' : Option (List ℕ)) (bytes : List ℕ)
    → IsCut separator bytes xs rest → IsCut separator bytes ys rest'
    → (xs ≡ ys) × (rest ≡ rest')
one_place separator xs ys None None bytes cut cut' = (sym cut.0 ∙ cut'.0, refl)
one_place separator xs ys None (Some rest') bytes cut cut' =
    absurd (has_one separator ys rest' (subst (Lacks separator) (sym cut.0 ∙ cut'.0) cut.1))
one_place separator xs ys (Some rest) None bytes cut cut' =
    absurd (has_one separator xs rest (subst (Lacks separator) (sym cut'.0 ∙ cut.0) cut'.1))
one_place separator xs ys (Some rest) (Some rest') bytes cut cut' =
    let same = both separator xs ys rest rest' (sym cut.0 ∙ cut'.0) cut.1 cut'.1 in (same.0, ap (λ r. Some r) same.1)

-- joined words are cut at the space
pub cut_of : (bytes word : List ℕ) (rest : Option (List ℕ)) → bytes ≡ joined word rest → Lacks 32 word
    → IsCut 32 bytes word rest
cut_of bytes word None e lacks = (e, lacks)
cut_of bytes word (Some rest) e lacks = (e, lacks)

pub of_cut : (bytes word : List ℕ) (rest : Option (List ℕ)) → IsCut 32 bytes word rest → bytes ≡ joined word rest
of_cut bytes word None cut = cut.0
of_cut bytes word (Some rest) cut = cut.0

pub cut_is : (bytes word word' : List ℕ) (rest rest' : Option (List ℕ)) → IsCut 32 bytes word rest → word ≡ word'
    → rest ≡ rest' → IsCut 32 bytes word' rest'
cut_is bytes word word' rest rest' cut e e' =
    subst (λ r. IsCut 32 bytes word' r) e' (subst (λ w. IsCut 32 bytes w rest) e cut)

-- ---- words without a space
lacks_byte : ℕ → List ℕ → Bool
lacks_byte separator [] = true
lacks_byte separator (x ∷ xs) = cond (eqb x separator) false (lacks_byte separator xs)

neither : (b c : Bool) → cond b false c ≡ true → (b ≡ false) × (c ≡ true)
neither true c e = absurd (true≢false (sym e))
neither false c e = (refl, e)

lacks_by_test : (separator : ℕ) (xs : List ℕ) → lacks_byte separator xs ≡ true → Lacks separator xs
unfolding lacks_byte
lacks_by_test separator [] e k d h same = omega (arith, h)
lacks_by_test separator (x ∷ xs) e zero d h same =
    true≢false (sym (eq-eqb x separator same) ∙ (neither (eqb x separator) (lacks_byte separator xs) e).0)
lacks_by_test separator (x ∷ xs) e (suc k) d h same =
    lacks_by_test separator xs (neither (eqb x separator) (lacks_byte separator xs) e).1 k d (omega (arith, h)) same

verb_lacks : (verb : Verb) → Lacks 32 (verb_text verb)
unfolding lacks_byte
verb_lacks verb = lacks_by_test 32 (verb_text verb) (grind arith)

pub name_lacks : (named : Named) → Lacks 32 (known named).name
unfolding lacks_byte
name_lacks named = lacks_by_test 32 (known named).name (grind arith)

pub fairness_lacks : (is_fair : Bool) → Lacks 32 (fairness_text is_fair)
unfolding lacks_byte
fairness_lacks true = lacks_by_test 32 (fairness_text true) refl
fairness_lacks false = lacks_by_test 32 (fairness_text false) refl

pub heap_lacks : Lacks 32 (codes "fixed") × Lacks 32 (codes "growing")
unfolding lacks_byte
heap_lacks = (lacks_by_test 32 (codes "fixed") refl, lacks_by_test 32 (codes "growing") refl)

hold_lacks : Lacks 32 (codes "hold")
unfolding lacks_byte
hold_lacks = lacks_by_test 32 (codes "hold") refl

label_lacks : (word : List ℕ) → IsLabel word → Lacks 32 word
label_lacks word label =
    λ i d h same. elim (label.3 i d h) [
      | inl letter ↦ omega (arith, letter.0, same)
      | inr digit ↦ omega
          (arith, digit.0, same)
    ]

-- ---- each word is read in one way
same_verb : (v w : Verb) → verb_text v ≡ verb_text w → v ≡ w
same_verb v w e = grind arith

pub same_name : (v w : Named) → (known v).name ≡ (known w).name → v ≡ w
same_name v w e = grind arith

verb_is_no_hold : (v : Verb) → verb_text v ≡ codes "hold" → ⊥
verb_is_no_hold v e = grind arith

pub same_number : (n m : ℕ) → n < 2 ^ 64 → m < 2 ^ 64 → decimal n ≡ decimal m → n ≡ m
same_number n m small small' e =
    sym (digits_value-decimal own n small) ∙ ap (digits_value 10) e ∙ digits_value-decimal own m small'

pub none_is_not : {C : Type 0} {call : C} → None ≡ Some call → ⊥
none_is_not e = cc

pub some_same : {A : Type 0} (x y : A) → Some x ≡ Some y → x ≡ y
some_same x y e = cc

pub decimal_lacks : (n : ℕ) → n < 2 ^ 64 → Lacks 32 (decimal n)
decimal_lacks n small = λ k d h same.
    let digit = numeral_digits (decimal n) n small refl k h in
    omega (arith, digit.0, same, get_or_default (decimal n) k d 0 h)

-- Numerals are cut at the space between them.
numerals_cut : (first second : ℕ) → first < 2 ^ 64
    → IsCut 32 (joined (decimal first) (Some (decimal second))) (decimal first) (Some (decimal second))
numerals_cut first second small = cut_of _ (decimal first) (Some (decimal second)) refl (decimal_lacks first small)

one_is_not_two : (n first second : ℕ) → n < 2 ^ 64 → first < 2 ^ 64
    → decimal n ≡ joined (decimal first) (Some (decimal second)) → ⊥
one_is_not_two n first second small small' e =
    none_is_not (one_place 32 (decimal n) (decimal first) None (Some (decimal second))
    (joined (decimal first) (Some (decimal second)))
    (cut_of _ (decimal n) None (sym e) (decimal_lacks n small)) (numerals_cut first second small')).1

same_two : (n m first second : ℕ) → Fit (Two n m) → Fit (Two first second)
    → joined (decimal n) (Some (decimal m)) ≡ joined (decimal first) (Some (decimal second))
    → Two n m ≡ Two first second
same_two n m first second fits fits' e =
    let same = one_place 32 (decimal n) (decimal first) (Some (decimal m)) (Some (decimal second))
    (joined (decimal n) (Some (decimal m))) (numerals_cut n m fits.0)
    (cut_of _ (decimal first) (Some (decimal second)) e (decimal_lacks first fits'.0)) in
    ap (λ k. Two k m) (same_number n first fits.0 fits'.0 same.0) ∙ ap (λ k. Two first k)
    (same_number m second fits.1 fits'.1 (some_same _ _ same.1))

pub same_numerals : (n m : Numbers) → Fit n → Fit m → numerals n ≡ numerals m → n ≡ m
same_numerals Absent Absent fits fits' e = refl
same_numerals Absent (One m) fits fits' e = cc
same_numerals Absent (Two m k) fits fits' e = cc
same_numerals (One n) Absent fits fits' e = cc
same_numerals (One n) (One m) fits fits' e = ap (λ k. One k) (same_number n m fits fits' (cc))
same_numerals (One n) (Two m k) fits fits' e = absurd (one_is_not_two n m k fits fits'.0 (cc))
same_numerals (Two n k) Absent fits fits' e = cc
same_numerals (Two n k) (One m) fits fits' e = absurd (one_is_not_two m n k fits' fits.0 (cc))
same_numerals (Two n k) (Two m l) fits fits' e = same_two n k m l fits fits' (cc)

-- A text that begins with no numeral has no numbers.
pub no_first : (text : List ℕ) → ((n : ℕ) (rest : Option (List ℕ)) → n < 2 ^ 64 → ¬ IsCut 32 text (decimal n) rest)
    → IsNoNumerals text
no_first text none Absent fits e = none_is_not (sym e)
no_first text none (One n) fits e =
    none n None fits (cut_of text (decimal n) None (some_same _ _ e) (decimal_lacks n fits))
no_first text none (Two n m) fits e =
    none n (Some (decimal m)) fits.0 (cut_of text (decimal n) (Some (decimal m)) (some_same _ _ e) (decimal_lacks n fits.0))

-- Nor has one whose first numeral is followed by what is none.
pub no_second : (text second : List ℕ) (first : ℕ) → IsCut 32 text (decimal first) (Some second)
    → ((m : ℕ) → m < 2 ^ 64 → second ≢ decimal m) → IsNoNumerals text
no_second text second first cut none Absent fits e = none_is_not (sym e)
no_second text second first cut none (One n) fits e =
    none_is_not (sym (one_place 32 (decimal first) (decimal n) (Some second) None text cut
    (cut_of text (decimal n) None (some_same _ _ e) (decimal_lacks n fits))).1)
no_second text second first cut none (Two n m) fits e =
    none m fits.1 (some_same _ _ (one_place 32 (decimal first) (decimal n) (Some second) (Some (decimal m)) text cut
    (cut_of text (decimal n) (Some (decimal m)) (some_same _ _ e) (decimal_lacks n fits.0))).1)

-- A text whose first word is a numeral, and which goes on behind a space, is none as a whole.
pub goes_on : (text second : List ℕ) (first n : ℕ) → n < 2 ^ 64 → IsCut 32 text (decimal first) (Some second)
    → text ≢ decimal n
goes_on text second first n small cut e =
    none_is_not (sym (one_place 32 (decimal first) (decimal n) (Some second) None text cut
    (cut_of text (decimal n) None e (decimal_lacks n small))).1)

-- No numeral begins as a label does.
pub not_label : (word : List ℕ) (rest : Option (List ℕ)) (n : ℕ) → n < 2 ^ 64 → IsLabel word
    → joined word rest ≡ decimal n → ⊥
not_label [] rest n small label e = omega (arith, label.0)
not_label (x ∷ xs) None n small label e =
    let digit = numeral_digits (x ∷ xs) n small e 0 (omega arith) in omega (arith, digit.1, label.2.0)
not_label (x ∷ xs) (Some rest) n small label e =
    let digit = numeral_digits (x ∷ (xs ++ 32 ∷ rest)) n small e 0 (omega arith) in omega (arith, digit.1, label.2.0)

-- No numerals begin as a label does.
not_numerals : (label : List ℕ) (rest : Option (List ℕ)) (numbers : Numbers) → Fit numbers → IsLabel label
    → Some (joined label rest) ≡ numerals numbers → ⊥
not_numerals label rest Absent fits is e = none_is_not (sym e)
not_numerals label rest (One n) fits is e = not_label label rest n fits is (cc)
not_numerals label rest (Two n m) fits is e =
    let text : joined label rest ≡ joined (decimal n) (Some (decimal m)) = cc in
    let first : label ≡ decimal n = (one_place 32 label (decimal n) rest (Some (decimal m)) (joined label rest)
    (cut_of _ label rest refl (label_lacks label is))
    (cut_of _ (decimal n) (Some (decimal m)) text (decimal_lacks n fits.0))).0 in
    not_label label None n fits.0 is first

same_after : (l k : Option (List ℕ)) (n m : Numbers) → IfSome l IsLabel → IfSome k IsLabel → Fit n → Fit m
    → words_after l n ≡ words_after k m → (l ≡ k) × (n ≡ m)
same_after None None n m label label' fits fits' e = (refl, same_numerals n m fits fits' e)
same_after None (Some k) n m label label' fits fits' e =
    absurd (not_numerals k (numerals m) n fits label' (sym e))
same_after (Some l) None n m label label' fits fits' e = absurd (not_numerals l (numerals n) m fits' label e)
same_after (Some l) (Some k) n m label label' fits fits' e =
    let line : joined l (numerals n) ≡ joined k (numerals m) = cc in
    let same = one_place 32 l k (numerals n) (numerals m) (joined l (numerals n))
    (cut_of _ l (numerals n) refl (label_lacks l label)) (cut_of _ k (numerals m) line (label_lacks k label')) in
    (ap (λ w. Some w) same.0, same_numerals n m fits fits' same.1)

pub same_words : (line : List ℕ) (v w : Verb) (l k : Option (List ℕ)) (n m : Numbers) → HasWords line v l n
    → HasWords line w k m → (v ≡ w) × (l ≡ k) × (n ≡ m)
same_words line v w l k n m words words' =
    let same = one_place 32 (verb_text v) (verb_text w) (words_after l n) (words_after k m) line
    (cut_of line _ _ words.text (verb_lacks v)) (cut_of line _ _ words'.text (verb_lacks w)) in
    let after = same_after l k n m words.label_is words'.label_is words.numbers_fit words'.numbers_fit same.1 in
    (same_verb v w same.0, after.0, after.1)

-- ---- what reading finds
rest_words : (line : List ℕ) (v verb : Verb) (rest label : Option (List ℕ)) (numbers : Numbers)
    → IsCut 32 line (verb_text v) rest → HasWords line verb label numbers → rest ≡ words_after label numbers
rest_words line v verb rest label numbers cut words =
    (one_place 32 _ _ _ _ line cut (cut_of line _ _ words.text (verb_lacks verb))).1

pub no_verb : (line word : List ℕ) (rest : Option (List ℕ)) → IsCut 32 line word rest → IsNoVerb word
    → IsNotSpelled line
no_verb line word rest cut none =
    λ verb label numbers words. none verb (one_place 32 _ _ _ _ line cut
    (cut_of line _ _ words.text (verb_lacks verb))).0

neither_word : (rest : List ℕ) → ((word : List ℕ) (after : Option (List ℕ)) → IsCut 32 rest word after → ¬ IsLabel word)
    → IsNoNumerals rest → (label : Option (List ℕ)) (numbers : Numbers)
    → IfSome label IsLabel → Fit numbers → Some rest ≡ words_after label numbers → ⊥
neither_word rest no_label no_numerals None numbers is fits e = no_numerals numbers fits e
neither_word rest no_label no_numerals (Some l) numbers is fits e =
    let text : rest ≡ joined l (numerals numbers) = cc in
    no_label l (numerals numbers) (cut_of rest l (numerals numbers) text (label_lacks l is)) is

pub no_plain : (line : List ℕ) (v : Verb) (rest : List ℕ) → IsCut 32 line (verb_text v) (Some rest)
    → ((word : List ℕ) (after : Option (List ℕ)) → IsCut 32 rest word after → ¬ IsLabel word) → IsNoNumerals rest
    → IsNotSpelled line
no_plain line v rest cut no_label no_numerals = λ verb label numbers words.
    neither_word rest no_label no_numerals label numbers words.label_is words.numbers_fit
    (rest_words line v verb (Some rest) label numbers cut words)

no_numbers_after : (rest word last : List ℕ) → IsCut 32 rest word (Some last) → IsLabel word → IsNoNumerals last
    → (label : Option (List ℕ)) (numbers : Numbers)
    → IfSome label IsLabel → Fit numbers → Some rest ≡ words_after label numbers → ⊥
no_numbers_after rest word last cut is_label no_numerals None numbers is fits e =
    not_numerals word (Some last) numbers fits is_label
    (ap (λ r. Some r) (sym (of_cut rest word (Some last) cut)) ∙ e)
no_numbers_after rest word last cut is_label no_numerals (Some l) numbers is fits e =
    let text : rest ≡ joined l (numerals numbers) = cc in
    no_numerals numbers fits (one_place 32 word l (Some last) (numerals numbers) rest cut
    (cut_of rest l (numerals numbers) text (label_lacks l is))).1

pub no_labelled : (line : List ℕ) (v : Verb) (rest word last : List ℕ) → IsCut 32 line (verb_text v) (Some rest)
    → IsCut 32 rest word (Some last) → IsLabel word → IsNoNumerals last
    → IsNotSpelled line
no_labelled line v rest word last cut cut' is_label no_numerals = λ verb label numbers words.
    no_numbers_after rest word last cut' is_label no_numerals label numbers words.label_is words.numbers_fit
    (rest_words line v verb (Some rest) label numbers cut words)

pub labelled_words : (line : List ℕ) (v : Verb) (rest word : List ℕ) (after : Option (List ℕ)) (numbers : Numbers)
    → IsCut 32 line (verb_text v) (Some rest) → IsCut 32 rest word after → IsLabel word
    → after ≡ numerals numbers → Fit numbers → HasWords line v (Some word) numbers
labelled_words line v rest word after numbers cut cut' is_label is fits = record {
  text =
      of_cut line (verb_text v) (Some rest) cut ∙ ap (λ r. joined (verb_text v) (Some r))
      (of_cut rest word after cut' ∙ ap (λ r. joined word r) is);
  label_is = is_label;
  numbers_fit = fits;
}

-- ---- what a line does not stand for
held_once : (call own : List ℕ) → joined (codes "hold") (Some call) ≡ joined (codes "hold") (Some own) → call ≡ own
held_once call own e = cc

module _ {C : Type 0} (call_of : Row → Option C) (labels : Labels) where
  pub no_call : (line : List ℕ) (v : Verb) (l : Option (List ℕ)) (n : Numbers) (r : Option Row) → HasWords line v l n
      → r ≡ row_of labels v l n
      → IfSome r (λ row. call_of row ≡ None) → IsNoCall call_of labels line
  no_call line v l n r words is none row label call stands =
      let same = same_words line _ _ _ _ _ _ stands.words words in
      let rows : row_of labels stands.verb label stands.numbers ≡ row_of labels v l n =
      ap (λ w. row_of labels w label stands.numbers) same.0 ∙ ap (λ w. row_of labels v w stands.numbers) same.1 ∙ ap
      (λ w. row_of labels v l w) same.2 in
      let found : r ≡ Some row = is ∙ sym rows ∙ stands.row_is in
      let nothing : call_of row ≡ None = subst (λ it. IfSome it (λ one. call_of one ≡ None)) found none in
      none_is_not (sym nothing ∙ stands.call_is)

  held_calls : (line call : List ℕ) → line ≡ joined (codes "hold") (Some call) → IsNoCall call_of labels call
      → (holds : Bool) (own : List ℕ) → HoldsLine holds line own → IsNoCall call_of labels own
  held_calls line call held none true own is = subst (IsNoCall call_of labels) (held_once call own (sym held ∙ is)) none
  held_calls line call held none false own is = λ row label one stands.
      verb_is_no_hold stands.verb (one_place 32 (verb_text stands.verb) (codes "hold") (words_after label stands.numbers)
      (Some call) own
      (cut_of own (verb_text stands.verb) (words_after label stands.numbers) stands.words.text (verb_lacks stands.verb))
      (cut_of own (codes "hold") (Some call) (sym is ∙ held) hold_lacks)).0

  pub bad_held : (line call : List ℕ) → line ≢ codes "wakes" → line ≡ joined (codes "hold") (Some call)
      → IsNoCall call_of labels call → IsBad call_of labels line
  bad_held line call not_wakes held none = record { not_wakes = not_wakes; no_call = held_calls line call held none }

  other_calls : (line : List ℕ) → ((call : List ℕ) → line ≢ joined (codes "hold") (Some call))
      → IsNoCall call_of labels line → (holds : Bool) (own : List ℕ) → HoldsLine holds line own
      → IsNoCall call_of labels own
  other_calls line not_held none true own is = absurd (not_held own is)
  other_calls line not_held none false own is = subst (IsNoCall call_of labels) is none

  pub bad_line : (line : List ℕ) → line ≢ codes "wakes" → ((call : List ℕ) → line ≢ joined (codes "hold") (Some call))
      → IsNoCall call_of labels line → IsBad call_of labels line
  bad_line line not_wakes not_held none = record { not_wakes = not_wakes; no_call = other_calls line not_held none }
