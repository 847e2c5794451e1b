-- Which pairs stand in an outbox.
use Rattle.std.specs.Prelude.{◌≡◌, ◌≢◌, ◌⊎◌, ℕ, Bool, true, false, if◌then◌else◌, ◌||◌, Option, Some, None, List, [], ◌∷◌, ◌++◌}
use Rattle.std.specs.Prelude.{drop, refl, not, cond, eqb}
use Rattle.std.proofs.Common.{sym, ◌∙◌, ap, inl, inr}
use Rattle.std.proofs.lemmas.Bool.{eq-eqb, ne_eqb, cases_eq, both_ways}
use Rattle.std.specs.Ordering.{nat_cmp}
use Rattle.std.specs.FinMap as finmap
use Rattle.fi_parts.specs.declared.phase.Phase.TheVariants.{Registered}
use Rattle.fi_parts.specs.declared.phase.LiveFuture.{LiveFuture}
use Rattle.fi_parts.specs.Order.{holds}
use Rattle.fi_parts.specs.Pairs.{without_pair, waker_of, oldest}
use Rattle.fi_parts.specs.Waiting.{named, phase_in, pair_of}
use Rattle.fi_parts.specs.WakerHistory.{IsIn}

pub none_some : {X : Type 0} (x : X) → ◌≡◌ {A = Option X} None (Some x) → ⊥
none_some x e = cc

pub some_same : {X : Type 0} (a b : X) → ◌≡◌ {A = Option X} (Some a) (Some b) → a ≡ b
some_same a b e = cc

pub if_true : {X : Type 0} (test : Bool) (x y : X) → test ≡ true → (if test then x else y) ≡ x
if_true test x y is = ap (λ (b : Bool). if b then x else y) is

pub if_false : {X : Type 0} (test : Bool) (x y : X) → test ≡ false → (if test then x else y) ≡ y
if_false test x y is = ap (λ (b : Bool). if b then x else y) is

module _ {X : Type 0} where
  pub in_append_left : (x : X) (xs ys : List X) → IsIn x xs → IsIn x (xs ++ ys)
  in_append_left x [] ys is = absurd is
  in_append_left x (y ∷ xs) ys is = elim is [ inl e ↦ inl e | inr r ↦ inr (in_append_left x xs ys r) ]

  pub in_append_right : (x : X) (xs ys : List X) → IsIn x ys → IsIn x (xs ++ ys)
  in_append_right x [] ys is = is
  in_append_right x (y ∷ xs) ys is = inr (in_append_right x xs ys is)

module _ {W : Type 0} where
  pub in_without : (name other : ℕ) (waker : W) (pairs : List (ℕ × W)) → name ≢ other → IsIn (other, waker) pairs
      → IsIn (other, waker) (without_pair name pairs)
  in_without name other waker [] ne is = absurd is
  in_without name other waker (p ∷ ps) ne is = elim is [
    | inl e ↦
        let off : eqb name p.0 ≡ false = ne_eqb name p.0 (λ same. ne (same ∙ ap (λ (q : ℕ × W). q.0) e)) in
        rw off (inl e)
    | inr r ↦ step (eqb name p.0) (in_without name other waker ps ne r)
  ]
    where
      step : (b : Bool) → IsIn (other, waker) (without_pair name ps)
          → IsIn (other, waker) (cond (not b) (p ∷ without_pair name ps) (without_pair name ps))
      step true there = there
      step false there = inr there

  pub oldest_or_rest : (out : List (ℕ × W)) (x : ℕ × W) → IsIn x out → (oldest out ≡ Some x.1) ⊎ IsIn x (drop 1 out)
  oldest_or_rest [] x is = absurd is
  oldest_or_rest (p ∷ ps) x is = elim is [ inl e ↦ inl (ap (λ (q : ℕ × W). let o : Option W = Some q.1 in o) e) | inr r ↦ inr r ]

module _ {W : Type 0} where
  -- the waker of a name's pair stands in out
  pub in_waker_of : (name : ℕ) (waker : W) (out : List (ℕ × W)) → waker_of name out ≡ Some waker → IsIn (name, waker) out
  in_waker_of name waker [] is = absurd (none_some waker is)
  in_waker_of name waker (p ∷ ps) is = elim (cases_eq name p.0) [
    | inl same ↦
        let here : p.1 ≡ waker = some_same p.1 waker (sym (ap (λ b. cond b (Some p.1) (waker_of name ps)) (eq-eqb name p.0 same)) ∙ is) in
        inl (λ i. (sym same i, here i))
    | inr ne ↦ inr (in_waker_of name waker ps (sym (ap (λ b. cond b (Some p.1) (waker_of name ps)) (ne_eqb name p.0 ne)) ∙ is))
  ]

module _ {D W : Type 0} where
  -- a registered name of a list is named with its waker
  pub in_named : (names : List ℕ) (live : finmap.FinMap nat_cmp (LiveFuture D W)) (q : ℕ) (waker : W) → holds q names ≡ true
      → phase_in (finmap.get live q) ≡ Some (Registered waker) → IsIn (q, waker) (named live names)
  unfolding named
  in_named [] live q waker at is = absurd (both_ways false refl at)
  in_named (n ∷ names) live q waker at is = elim (cases_eq q n) [
    | inl same ↦
        let here : phase_in (finmap.get live n) ≡ Some (Registered waker) = ap (λ (k : ℕ). phase_in (finmap.get live k)) (sym same) ∙ is in
        rw here (inl (λ i. (sym same i, waker)))
    | inr ne ↦ in_append_right (q, waker) (pair_of n (phase_in (finmap.get live n))) (named live names)
        (in_named names live q waker (sym (ap (λ b. b || holds q names) (ne_eqb q n ne)) ∙ at) is)
  ]
