-- Names in a queue, and pairs in an outbox.
use Rattle.std.proofs.Common.{◌≡◌, ◌≢◌, ℕ, Bool, true, false, not, eqb, ◌||◌, List, [], ◌∷◌, ◌++◌, cond, reverse, drop, refl, sym, ap, ◌∙◌}
use Rattle.std.proofs.Common.{arith}
use Rattle.std.proofs.lemmas.Bool.{eq-eqb, ne_eqb, or_parts, or_from, or_right, both_ways, cases_eq}
use Rattle.std.proofs.lemmas.List.{append-nil}
use Rattle.std.proofs.lemmas.List.Elements.{filter-append}
use Rattle.std.proofs.lemmas.Grind.{reverse_onto}
use Rattle.fi_parts.specs.Order.{holds, Apart, without}
use Rattle.fi_parts.specs.Pairs.{has, without_pair, PairsApart}
use Rattle.fi_parts.proofs.Slots.{holds-append, without_absent}
use Rattle.fi_parts.proofs.Pairs.{has-push}

pub holds-push : (k : ℕ) (xs : List ℕ) (x : ℕ) → holds k (xs ++ x ∷ []) ≡ (eqb k x || holds k xs)
holds-push k xs x = grind (arith, holds-append k xs (x ∷ []))

pub reverse_cons : (x : ℕ) (xs : List ℕ) → reverse (x ∷ xs) ≡ reverse xs ++ x ∷ []
reverse_cons x xs = reverse_onto xs x []

pub holds-reverse : (k : ℕ) (xs : List ℕ) → holds k (reverse xs) ≡ holds k xs
holds-reverse k [] = refl
holds-reverse k (x ∷ xs) = ap (holds k) (reverse_cons x xs) ∙ holds-push k (reverse xs) x ∙ ap (λ b. eqb k x || b) (holds-reverse k xs)

eqb_turned : (a b : ℕ) → eqb a b ≡ false → eqb b a ≡ false
eqb_turned a b ne = ne_eqb b a (λ same. both_ways (eqb a b) ne (eq-eqb a b (sym same)))

pub Apart-push : (xs : List ℕ) (x : ℕ) → Apart xs → holds x xs ≡ false → Apart (xs ++ x ∷ [])
Apart-push [] x a off = (refl, tt)
Apart-push (y ∷ ys) x a off =
    let parts = or_parts (eqb x y) (holds x ys) off in
    (holds-push y ys x ∙ or_from _ _ (eqb_turned x y parts.0) a.0, Apart-push ys x a.1 parts.1)

without-push : (x : ℕ) (xs : List ℕ) (y : ℕ) → without x (xs ++ y ∷ []) ≡ without x xs ++ without x (y ∷ [])
without-push x xs y = filter-append _ xs (y ∷ [])

pub reverse-without : (x : ℕ) (xs : List ℕ) → reverse (without x xs) ≡ without x (reverse xs)
reverse-without x [] = refl
reverse-without x (y ∷ ys) = grind (arith, reverse_cons, without-push x (reverse ys) y, reverse-without x ys, append-nil)

pub holds-without_same : (x : ℕ) (xs : List ℕ) → holds x (without x xs) ≡ false
holds-without_same x [] = refl
holds-without_same x (y ∷ ys) = grind (arith, holds-without_same x ys)

pub holds-without_other : (k x : ℕ) (xs : List ℕ) → k ≢ x → holds k (without x xs) ≡ holds k xs
holds-without_other k x [] ne = refl
holds-without_other k x (y ∷ ys) ne = grind (arith, holds-without_other k x ys ne, ne)

pub Apart-without_one : (x : ℕ) (xs : List ℕ) → Apart xs → Apart (without x xs)
Apart-without_one x [] a = tt
Apart-without_one x (y ∷ ys) a = step (Apart-without_one x ys a.1) (eqb x y) refl
  where
    step : Apart (without x ys) → (b : Bool) → eqb x y ≡ b → Apart (cond (not b) (y ∷ without x ys) (without x ys))
    step rest true is = rest
    step rest false is = (holds-without_other y x ys (λ same. both_ways (eqb x y) is (eq-eqb x y (sym same))) ∙ a.0, rest)

module _ {W : Type 0} where
  pub has_pushed : (k : ℕ) (ps : List (ℕ × W)) (x : ℕ) (w : W) → has k (ps ++ (x, w) ∷ []) ≡ (eqb k x || has k ps)
  has_pushed k ps x w = grind (arith, has-push k ps x w)

  pub has-without_same : (x : ℕ) (ps : List (ℕ × W)) → has x (without_pair x ps) ≡ false
  has-without_same x [] = refl
  has-without_same x (p ∷ ps) = grind (arith, has-without_same x ps)

  pub has-drop : (k : ℕ) (ps : List (ℕ × W)) → has k (drop 1 ps) ≡ true → has k ps ≡ true
  has-drop k [] at = at
  has-drop k (p ∷ ps) at = or_right (eqb k p.0) _ at

  pub PairsApart-drop : (ps : List (ℕ × W)) → PairsApart ps → PairsApart (drop 1 ps)
  PairsApart-drop [] a = tt
  PairsApart-drop (p ∷ ps) a = a.1

pub holds-without : (k x : ℕ) (xs : List ℕ) → holds k (without x xs) ≡ true → holds k xs ≡ true
holds-without k x xs at = grind (arith, cases_eq k x, holds-without_same x xs, holds-without_other k x xs, at)

-- what is known of a list that a slot was taken out of
pub ruleset taken_out = (without_absent, holds-without_same)
