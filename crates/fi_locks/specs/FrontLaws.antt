-- Fronts of lists of names, and sums over them.
use Rattle.std.proofs.Common.{◌≡◌, ℕ, ◌+◌, ◌*◌, ◌≤◌, Bool, true, false, not, eqb, cond, List, [], ◌∷◌, ◌++◌, length, sum_by}
use Rattle.std.proofs.Common.{refl, sym, ap, ◌∙◌, inl, inr, ◌⊎◌, arith}
use Rattle.std.proofs.lemmas.Bool.{eqb-true, or_left, or_right, or_cases, both_ways, or_from}
use Rattle.std.proofs.lemmas.List.Sums.{sum_by-cons}
use Rattle.std.proofs.lemmas.List.Elements.{filter-append}
use Rattle.std.proofs.Math.Nat.{mul-le-mul_right}
use Rattle.fi_parts.specs.Order.{holds, Apart, without}
use Rattle.fi_parts.proofs.Slots.{eqb_same, holds-append, without_absent}

pub without-append : (x : ℕ) (xs ys : List ℕ) → without x (xs ++ ys) ≡ without x xs ++ without x ys
without-append x xs ys = filter-append _ xs ys

-- numbers that are the same for those in the list have the same sum
pub sum_held : (f g : ℕ → ℕ) (xs : List ℕ) → ((q : ℕ) → holds q xs ≡ true → f q ≡ g q) → sum_by f xs ≡ sum_by g xs
sum_held f g [] same = refl
sum_held f g (x ∷ xs) same =
    let here : f x ≡ g x = same x (or_left (eqb x x) _ (eqb_same x)) in
    let rest : sum_by f xs ≡ sum_by g xs = sum_held f g xs (λ q at. same q (or_right (eqb q x) _ at)) in
    sum_by-cons f x xs ∙ (λ i. here i + rest i) ∙ sym (sum_by-cons g x xs)

pub sum_without : (f : ℕ → ℕ) (x : ℕ) (xs : List ℕ) → sum_by f (without x xs) ≤ sum_by f xs
sum_without f x [] = omega arith
sum_without f x (y ∷ ys) = step (sum_without f x ys) (eqb x y)
  where
    step : sum_by f (without x ys) ≤ sum_by f ys → (b : Bool) →
        sum_by f (cond (not b) (y ∷ without x ys) (without x ys)) ≤ sum_by f (y ∷ ys)
    step rest true = omega (arith, rest, sum_by-cons f y ys)
    step rest false = omega (arith, rest, sum_by-cons f y ys, sum_by-cons f y (without x ys))

-- the sum without one of the list is smaller by its number
pub sum_without_one : (f : ℕ → ℕ) (x : ℕ) (xs : List ℕ) → Apart xs → holds x xs ≡ true →
    sum_by f (without x xs) + f x ≡ sum_by f xs
sum_without_one f x [] a at = absurd (both_ways false refl at)
sum_without_one f x (y ∷ ys) a at = step (λ there. sum_without_one f x ys a.1 there) (eqb x y) refl
  where
    step : (holds x ys ≡ true → sum_by f (without x ys) + f x ≡ sum_by f ys) → (b : Bool) → eqb x y ≡ b →
        sum_by f (cond (not b) (y ∷ without x ys) (without x ys)) + f x ≡ sum_by f (y ∷ ys)
    step later true is =
        let same : f x ≡ f y = ap f (eqb-true x y is) in
        let off : holds x ys ≡ false = ap (λ k. holds k ys) (eqb-true x y is) ∙ a.0 in
        let rest : sum_by f (without x ys) ≡ sum_by f ys = ap (sum_by f) (without_absent x ys off) in
        omega (arith, same, rest, sum_by-cons f y ys)
    step later false is =
        let there : holds x ys ≡ true =
        elim (or_cases (eqb x y) (holds x ys) at) [ inl e ↦ absurd (both_ways _ is e) | inr r ↦ r ] in
        omega (arith, later there, sum_by-cons f y ys, sum_by-cons f y (without x ys))

length_absent : (x : ℕ) (zs : List ℕ) → holds x zs ≡ false → length zs ≤ length (without x zs)
length_absent x zs off = rw (without_absent x zs off) (omega arith)

pub length_without_one : (x : ℕ) (xs : List ℕ) → Apart xs → length xs ≤ length (without x xs) + 1
length_without_one x [] a = omega arith
length_without_one x (y ∷ ys) a = step (length_without_one x ys a.1) (eqb x y) refl
  where
    step : length ys ≤ length (without x ys) + 1 → (b : Bool) → eqb x y ≡ b →
        length (y ∷ ys) ≤ length (cond (not b) (y ∷ without x ys) (without x ys)) + 1
    step later true is =
        let off : holds x ys ≡ false = ap (λ k. holds k ys) (eqb-true x y is) ∙ a.0 in
        omega (arith, length_absent x ys off)
    step later false is = omega (arith, later)

-- Of two fronts of one list one is a front of the other.
pub fronts : (a b c d : List ℕ) → a ++ b ≡ c ++ d →
    ((more : List ℕ) × (c ≡ a ++ more)) ⊎ ((n : ℕ) × (more : List ℕ) × (a ≡ c ++ n ∷ more) × (d ≡ n ∷ (more ++ b)))
fronts [] b c d e = inl (c, refl)
fronts (x ∷ a) b [] d e = inr (x, a, refl, sym e)
fronts (x ∷ a) b (y ∷ c) d e =
    let head : x ≡ y = cc in
    let tail : a ++ b ≡ c ++ d = cc in
    elim (fronts a b c d tail) [
      | inl m ↦ inl (m.0, (λ i. sym head i ∷ m.1 i))
      | inr m ↦ inr (m.0, m.1, (λ i. head i ∷ m.2 i), m.3)
    ]

-- what stands behind a front is determined
pub same_rest : (a b c : List ℕ) → a ++ b ≡ a ++ c → b ≡ c
same_rest [] b c e = e
same_rest (x ∷ a) b c e = let tail : a ++ b ≡ a ++ c = cc in same_rest a b c tail

pub same_first : (x y : ℕ) (xs ys : List ℕ) → x ∷ xs ≡ y ∷ ys → x ≡ y
same_first x y xs ys e = cc

pub not_empty : (x : ℕ) (xs : List ℕ) → [] ≡ x ∷ xs → ⊥
not_empty x xs e = cc

-- a list that holds a name has a first one
pub some_first : (xs : List ℕ) (q : ℕ) → holds q xs ≡ true → (x : ℕ) × (rest : List ℕ) × (xs ≡ x ∷ rest)
some_first [] q at = absurd (both_ways false refl at)
some_first (x ∷ xs) q at = (x, xs, refl)

pub sum_one : (need : ℕ → ℕ) (only : ℕ) (xs : List ℕ) → ((q : ℕ) → holds q xs ≡ true → need q ≡ only) →
    sum_by need xs ≡ length xs * only
sum_one need only [] all = grind arith
sum_one need only (x ∷ xs) all =
    let here : need x ≡ only = all x (or_left (eqb x x) _ (eqb_same x)) in
    let rest : sum_by need xs ≡ length xs * only = sum_one need only xs (λ q at. all q (or_right (eqb q x) _ at)) in
    sum_by-cons need x xs ∙ (λ i. here i + rest i) ∙ grind arith

pub times : (a n : ℕ) → (a + 1) * n ≡ a * n + n
times a n = grind arith

pub more_times : (a b n : ℕ) → a ≤ b → (a + 1) * n ≤ (b + 1) * n
more_times a b n le = mul-le-mul_right n (omega (arith, le))

pub Apart-join : (xs ys : List ℕ) → Apart xs → Apart ys → ((q : ℕ) → holds q xs ≡ true → holds q ys ≡ false) → Apart (xs ++ ys)
Apart-join [] ys a b off = b
Apart-join (x ∷ xs) ys a b off = (
  holds-append x xs ys ∙ or_from (holds x xs) (holds x ys) a.0 (off x (or_left (eqb x x) _ (eqb_same x))),
  Apart-join xs ys a.1 b (λ q at. off q (or_right (eqb q x) _ at)),
)
