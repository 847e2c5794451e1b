-- What a finite map has under one key after an insert or a remove.
use Rattle.std.proofs.Common.{◌≡◌, ◌≢◌, ℕ, Some, None, refl, sym, inl, inr, ◌∙◌}
use Rattle.std.proofs.lemmas.Bool.{cases_eq, eq-eqb, ne_eqb, cond-true, cond-false}
use Rattle.std.specs.Ordering.{nat_cmp}
use Rattle.std.specs.Cmp.{nat_cmp_total, unsigned_tied}
use Rattle.std.specs.FinMap as map

module _ {T : Type 0} where
  pub get-insert_same : (m : map.FinMap nat_cmp T) (k : ℕ) (v : T) → map.get (map.insert m k v) k ≡ Some v
  get-insert_same m k v = map.get-insert nat_cmp_total m k v k ∙ cond-true _ _ _ (unsigned_tied k k ∙ eq-eqb k k refl)

  pub get-insert_other : (m : map.FinMap nat_cmp T) (k : ℕ) (v : T) (q : ℕ) → q ≢ k → map.get (map.insert m k v) q ≡ map.get m q
  get-insert_other m k v q ne = map.get-insert nat_cmp_total m k v q ∙ cond-false _ _ _ (unsigned_tied q k ∙ ne_eqb q k ne)

  -- two maps with the same under one key, and under the others
  pub same_maps : (m n : map.FinMap nat_cmp T) (k : ℕ) → map.get m k ≡ map.get n k →
      ((q : ℕ) → q ≢ k → map.get m q ≡ map.get n q) → m ≡ n
  same_maps m n k here others = map.same_map nat_cmp_total map.nat_cmp-IsAntisymmetric m n
      (λ q. elim (cases_eq q k) [ inl same ↦ rw same here | inr ne ↦ others q ne ])

  -- what is there already
  pub insert_known : (m : map.FinMap nat_cmp T) (k : ℕ) (v : T) → map.get m k ≡ Some v → map.insert m k v ≡ m
  insert_known m k v is = same_maps _ _ k (get-insert_same m k v ∙ sym is) (λ q ne. get-insert_other m k v q ne)

  pub get-remove_same : (m : map.FinMap nat_cmp T) (k : ℕ) → map.get (map.remove m k) k ≡ None
  get-remove_same m k = map.get-remove nat_cmp_total m k k ∙ cond-true _ _ _ (unsigned_tied k k ∙ eq-eqb k k refl)

  pub get-remove_other : (m : map.FinMap nat_cmp T) (k q : ℕ) → q ≢ k → map.get (map.remove m k) q ≡ map.get m q
  get-remove_other m k q ne = map.get-remove nat_cmp_total m k q ∙ cond-false _ _ _ (unsigned_tied q k ∙ ne_eqb q k ne)
