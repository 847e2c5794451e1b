-- The blocks are cut at a pointer.
use Rattle.std.proofs.Common.{◌≡◌, suc, length, Bool, true, false, ◌&&◌, ◌==◌, List, [], ◌∷◌, ◌++◌, Option, Some, None, IsSome, refl, sym}
use Rattle.std.proofs.Common.{ap, ◌∙◌, eqb→eq, T, arith}
use Rattle.std.proofs.lemmas.Bool.{cond-true, cond-false}
use lib.Dec.{eqb_refl}
use denote.RawPtr.{Ptr, block_ptr, null_ptr}
use Rattle.fi_parts.specs.Placed.{same_ptr, at_ptr, with_at, without_at}

true_of : (b : Bool) → T b → b ≡ true
true_of true t = refl
true_of false t = absurd t

pub same_ptr_refl : (p : Ptr) → same_ptr p p ≡ true
same_ptr_refl (block_ptr b o) = λ i. true_of (b == b) (eqb_refl b) i && true_of (o == o) (eqb_refl o) i
same_ptr_refl null_ptr = refl

both : (x y : Bool) → (x && y) ≡ true → T x × T y
both true true e = (tt, tt)
both true false e = cc
both false y e = cc

pub same_ptr_eq : (p q : Ptr) → same_ptr p q ≡ true → p ≡ q
same_ptr_eq (block_ptr b o) (block_ptr c p) e = let t = both (b == c) (o == p) e in λ i. block_ptr (eqb→eq b c t.0 i) (eqb→eq o p t.1 i)
same_ptr_eq (block_ptr b o) null_ptr e = cc
same_ptr_eq null_ptr (block_ptr c p) e = cc
same_ptr_eq null_ptr null_ptr e = refl

module _ {B : Type 0} where
  pub record Cut (bs : List (Ptr × B)) (p : Ptr) (b : B) : Type 0 where
    pub front : List (Ptr × B)
    pub back : List (Ptr × B)
    pub is : bs ≡ front ++ (p, b) ∷ back
    pub set : (w : B) → with_at bs p w ≡ front ++ (p, w) ∷ back
    pub gone : without_at bs p ≡ front ++ back

  pub cut_at : (bs : List (Ptr × B)) (p : Ptr) (b : B) → at_ptr bs p ≡ Some b → Cut bs p b
  unfolding at_ptr with_at without_at
  cut_at [] p b e = cc
  cut_at (x ∷ bs) p b e =
      (elim (same_ptr x.0 p) as (λ y. same_ptr x.0 p ≡ y → Cut (x ∷ bs) p b) [
        | true ↦ λ same.
            let lies : x.0 ≡ p = same_ptr_eq x.0 p same in
            let here : Some x.1 ≡ Some b = sym (cond-true (same_ptr x.0 p) _ _ same) ∙ e in
            let holds : x.1 ≡ b = cc in
            record {
              front = [];
              back = bs;
              is = λ i. (lies i, holds i) ∷ bs;
              set = λ w. cond-true (same_ptr x.0 p) _ _ same ∙ (λ i. (lies i, w) ∷ bs);
              gone = cond-true (same_ptr x.0 p) _ _ same;
            }
        | false ↦ λ other.
            let later = cut_at bs p b (sym (cond-false (same_ptr x.0 p) _ _ other) ∙ e) in
            record {
              front = x ∷ later.front;
              back = later.back;
              is = ap (λ l. x ∷ l) later.is;
              set = λ w. cond-false (same_ptr x.0 p) _ _ other ∙ ap (λ l. x ∷ l) (later.set w);
              gone = cond-false (same_ptr x.0 p) _ _ other ∙ ap (λ l. x ∷ l) later.gone;
            }
      ]) refl

  pub some_of : (o : Option B) → IsSome o → (b : B) × (o ≡ Some b)
  some_of None e = cc
  some_of (Some b) e = (b, refl)

  pub at-with_same : (bs : List (Ptr × B)) (p : Ptr) (w : B) → IsSome (at_ptr bs p) → at_ptr (with_at bs p w) p ≡ Some w
  unfolding at_ptr with_at
  at-with_same [] p w some = cc
  at-with_same (x ∷ bs) p w some = grind (arith, at-with_same bs p w, some)

  pub at-with_other : (bs : List (Ptr × B)) (p : Ptr) (w : B) (q : Ptr) → same_ptr p q ≡ false → at_ptr (with_at bs p w) q ≡ at_ptr bs q
  unfolding at_ptr with_at
  at-with_other [] p w q ne = refl
  at-with_other (x ∷ bs) p w q ne = grind (arith, at-with_other bs p w q ne, same_ptr_eq x.0 p, ne)

  pub at-without_other : (bs : List (Ptr × B)) (p q : Ptr) → same_ptr p q ≡ false → at_ptr (without_at bs p) q ≡ at_ptr bs q
  unfolding at_ptr without_at
  at-without_other [] p q ne = refl
  at-without_other (x ∷ bs) p q ne = grind (arith, at-without_other bs p q ne, same_ptr_eq x.0 p, ne)

  pub length-without_at : (bs : List (Ptr × B)) (p : Ptr) → IsSome (at_ptr bs p) → suc (length (without_at bs p)) ≡ length bs
  unfolding at_ptr without_at
  length-without_at [] p some = cc
  length-without_at (x ∷ bs) p some = grind (arith, length-without_at bs p, some)

  pub length-with_at : (bs : List (Ptr × B)) (p : Ptr) (w : B) → length (with_at bs p w) ≡ length bs
  unfolding with_at
  length-with_at [] p w = refl
  length-with_at (x ∷ bs) p w = grind (arith, length-with_at bs p w)

  pub at-cons_same : (p : Ptr) (b : B) (bs : List (Ptr × B)) → at_ptr ((p, b) ∷ bs) p ≡ Some b
  unfolding at_ptr
  at-cons_same p b bs = cond-true (same_ptr p p) _ _ (same_ptr_refl p)

  pub at-cons_other : (p : Ptr) (b : B) (bs : List (Ptr × B)) (q : Ptr) → same_ptr p q ≡ false → at_ptr ((p, b) ∷ bs) q ≡ at_ptr bs q
  unfolding at_ptr
  at-cons_other p b bs q ne = cond-false (same_ptr p q) _ _ ne
