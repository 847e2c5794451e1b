-- How often a pointer stands among places, before and after a change.
use Rattle.std.proofs.Common.{◌≡◌, ℕ, ◌+◌, ◌≤◌, true, false, cond, List, [], ◌∷◌, ◌++◌, Some}
use Rattle.std.proofs.Common.{refl, sym, ap, ◌∙◌, arith}
use Rattle.std.proofs.lemmas.Bool.{cond-true, cond-false}
use denote.RawPtr.{Ptr}
use Rattle.fi_parts.specs.Placed.{same_ptr, at_ptr, with_at, without_at}
use Rattle.fi_parts.specs.BlockOwner.{times}
use Rattle.fi_parts.proofs.Placed.{Cut, cut_at, same_ptr_refl}

-- one, where the pointers are the same
abbrev pub once : Ptr → Ptr → ℕ
once q p = cond (same_ptr q p) 1 0

pub once_same : (p : Ptr) → once p p ≡ 1
once_same p = cond-true (same_ptr p p) 1 0 (same_ptr_refl p)

pub times_nil : (X : Type 0) (p : Ptr) → times {X = X} p [] ≡ 0
unfolding times
times_nil X p = refl

module _ {X : Type 0} where
  pub times_cons : (p : Ptr) (x : Ptr × X) (xs : List (Ptr × X)) → times p (x ∷ xs) ≡ once x.0 p + times p xs
  unfolding times
  times_cons p x xs = refl

  pub times_append : (p : Ptr) (xs ys : List (Ptr × X)) → times p (xs ++ ys) ≡ times p xs + times p ys
  times_append p [] ys = let none = times_nil X p in omega (arith, none)
  times_append p (x ∷ xs) ys = grind (arith, times_cons p, times_append p xs ys)

  -- one among the others
  pub times_cut : (p : Ptr) (xs : List (Ptr × X)) (x : Ptr × X) (ys : List (Ptr × X))
      → times p (xs ++ x ∷ ys) ≡ once x.0 p + times p (xs ++ ys)
  times_cut p xs x ys = grind (arith, times_append p xs, times_cons p)

  -- the one at q is left out
  pub times_without : (p q : Ptr) (xs : List (Ptr × X)) (x : X) → at_ptr xs q ≡ Some x → times p xs ≡ once q p + times p (without_at xs q)
  times_without p q xs x e =
      let cut : Cut xs q x = cut_at xs q x e in
      ap (times p) cut.is ∙ times_cut p cut.front (q, x) cut.back ∙ ap (λ l. once q p + times p l) (sym cut.gone)

  -- another value at q
  pub times_with : (p q : Ptr) (xs : List (Ptr × X)) (x w : X) → at_ptr xs q ≡ Some x → times p (with_at xs q w) ≡ times p xs
  times_with p q xs x w e =
      let cut : Cut xs q x = cut_at xs q x e in
      ap (times p) (cut.set w) ∙ times_cut p cut.front (q, w) cut.back ∙ sym (times_cut p cut.front (q, x) cut.back)
      ∙ ap (times p) (sym cut.is)

  -- what stands there once at least is found
  pub times_found : (q : Ptr) (xs : List (Ptr × X)) → 1 ≤ times q xs → (x : X) × (at_ptr xs q ≡ Some x)
  unfolding times at_ptr
  times_found q [] some = absurd (omega (arith, some))
  times_found q (x ∷ xs) some =
      (elim (same_ptr x.0 q) as (λ y. same_ptr x.0 q ≡ y → (v : X) × (at_ptr (x ∷ xs) q ≡ Some v)) [
        | true ↦ λ e. (x.1, cond-true (same_ptr x.0 q) _ _ e)
        | false ↦ λ e.
            let none : once x.0 q ≡ 0 = cond-false (same_ptr x.0 q) 1 0 e in
            let later = times_found q xs (omega (arith, some, none)) in
            (later.0, cond-false (same_ptr x.0 q) _ _ e ∙ later.1)
      ]) refl

  -- where nothing stands
  pub times_empty : (xs : List (Ptr × X)) → ((p : Ptr) → times p xs ≡ 0) → xs ≡ []
  times_empty [] none = refl
  times_empty (x ∷ xs) none =
      let here = times_cons x.0 x xs in let one = once_same x.0 in
      let all = none x.0 in absurd (omega (arith, here, one, all))

-- no place, and no block
pub shared_none : (X Y : Type 0) (p : Ptr) → times {X = X} p [] + times {X = Unit {0}} p [] ≡ times {X = Y} p []
shared_none X Y p = let one = times_nil X p in let two = times_nil (Unit {0}) p in
    let three = times_nil Y p in omega (arith, one, two, three)

module _ {X Y : Type 0} where
  -- a block is put at a vacant place, or a place is vacated
  pub times_moved : (bs : List (Ptr × X)) (vs : List (Ptr × Y)) (q : Ptr) (x : X) (y : Y) (n : ℕ) (p : Ptr) → at_ptr vs q ≡ Some y
      → times p bs + times p vs ≡ n → times p ((q, x) ∷ bs) + times p (without_at vs q) ≡ n
  times_moved bs vs q x y n p here all = grind (arith, times_cons p (q, x) bs, times_without p q vs y here, all)

  pub times_vacated : (bs : List (Ptr × X)) (vs : List (Ptr × Y)) (q : Ptr) (x : X) (y : Y) (n : ℕ) (p : Ptr) → at_ptr bs q ≡ Some x
      → times p bs + times p vs ≡ n → times p (without_at bs q) + times p ((q, y) ∷ vs) ≡ n
  times_vacated bs vs q x y n p here all = grind (arith, times_cons p (q, y) vs, times_without p q bs x here, all)
