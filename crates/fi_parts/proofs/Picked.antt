-- What the maps and sets that a store's slots make answer.
use Rattle.std.proofs.Common.{◌≡◌, ◌≢◌, ℕ, zero, suc, ◌+◌, ◌<◌, Bool, true, false, cond, not, ◌&&◌, ◌||◌, List, [], ◌∷◌, get_or}
use Rattle.std.proofs.Common.{Option, Some, None, refl, sym, ap, ◌∙◌, arith, zero-add}
use Rattle.std.proofs.lemmas.Bool.{eq-eqb, ne_eqb}
use Rattle.std.specs.Ordering.{nat_cmp}
use Rattle.std.specs.Cmp.{nat_cmp_total, unsigned_tied}
use Rattle.std.specs.FinMap as map
use Rattle.std.specs.FinSet as set
use Rattle.fi_parts.specs.Picked.{put_if, picked, picked_from, chosen, chosen_from}
pub use Rattle.fi_parts.proofs.FiniteMaps.{get-insert_same, get-insert_other, get-remove_same, get-remove_other}

module _ {Y : Type 0} where
  put_if-here : (m : map.FinMap nat_cmp Y) (k : ℕ) (o : Option Y) → map.get m k ≡ None → map.get (put_if m k o) k ≡ o
  put_if-here m k None none = none
  put_if-here m k (Some y) none = get-insert_same m k y

  put_if-other : (m : map.FinMap nat_cmp Y) (k : ℕ) (o : Option Y) (q : ℕ) → q ≢ k → map.get (put_if m k o) q ≡ map.get m q
  put_if-other m k None q ne = refl
  put_if-other m k (Some y) q ne = get-insert_other m k y q ne

module _ {X Y : Type 0} (pick : X → Option Y) where
  picked_below : (k : ℕ) (slots : List (Option X)) (q : ℕ) → q < k → map.get (picked_from pick k slots) q ≡ None
  unfolding picked_from
  picked_below k [] q below = map.get-empty nat_cmp q
  picked_below k (slot ∷ rest) q below =
      put_if-other (picked_from pick (suc k) rest) k (picked pick slot) q (λ same. omega arith) ∙ picked_below (suc k) rest q (omega arith)

  picked_at : (k : ℕ) (slots : List (Option X)) (i : ℕ) → map.get (picked_from pick k slots) (k + i) ≡ picked pick (get_or slots i None)
  unfolding picked_from
  picked_at k [] i = map.get-empty nat_cmp (k + i)
  picked_at k (slot ∷ rest) zero =
      let same : k + zero ≡ k = omega arith in
      rw same (put_if-here (picked_from pick (suc k) rest) k (picked pick slot) (picked_below (suc k) rest k (omega arith)))
  picked_at k (slot ∷ rest) (suc i) =
      let shift : k + suc i ≡ suc k + i = omega arith in
      put_if-other (picked_from pick (suc k) rest) k (picked pick slot) (k + suc i) (λ same. omega arith) ∙ rw shift
      (picked_at (suc k) rest i)

  pub get-picked : (slots : List (Option X)) (q : ℕ) → map.get (picked_from pick 0 slots) q ≡ picked pick (get_or slots q None)
  get-picked slots q = ap (map.get (picked_from pick 0 slots)) (sym (zero-add q)) ∙ picked_at 0 slots q

  pub picked-empty : (slots : List (Option X)) → slots ≡ [] → picked_from pick 0 slots ≡ map.empty
  unfolding picked_from
  picked-empty slots none = rw none refl

pub contains-insert_same : (s : set.FinSet nat_cmp) (k : ℕ) → set.contains (set.insert s k) k ≡ true
contains-insert_same s k = set.contains-insert nat_cmp_total s k k ∙ ap (λ b. b || set.contains s k) (unsigned_tied k k ∙ eq-eqb k k refl)

pub contains-insert_other : (s : set.FinSet nat_cmp) (k q : ℕ) → q ≢ k → set.contains (set.insert s k) q ≡ set.contains s q
contains-insert_other s k q ne = set.contains-insert nat_cmp_total s k q ∙ ap (λ b. b || set.contains s q)
    (unsigned_tied q k ∙ ne_eqb q k ne)

pub contains-remove_same : (s : set.FinSet nat_cmp) (k : ℕ) → set.contains (set.remove s k) k ≡ false
contains-remove_same s k = set.contains-remove nat_cmp_total s k k ∙ ap (λ b. not b && set.contains s k)
    (unsigned_tied k k ∙ eq-eqb k k refl)

pub contains-remove_other : (s : set.FinSet nat_cmp) (k q : ℕ) → q ≢ k → set.contains (set.remove s k) q ≡ set.contains s q
contains-remove_other s k q ne = set.contains-remove nat_cmp_total s k q ∙ ap (λ b. not b && set.contains s q)
    (unsigned_tied q k ∙ ne_eqb q k ne)

module _ {X : Type 0} (test : X → Bool) where
  insert_here : (b : Bool) (s : set.FinSet nat_cmp) (k : ℕ) → set.contains s k ≡ false → set.contains (cond b (set.insert s k) s) k ≡ b
  insert_here true s k none = contains-insert_same s k
  insert_here false s k none = none

  insert_other : (b : Bool) (s : set.FinSet nat_cmp) (k q : ℕ) → q ≢ k → set.contains (cond b (set.insert s k) s) q ≡ set.contains s q
  insert_other true s k q ne = contains-insert_other s k q ne
  insert_other false s k q ne = refl

  chosen_below : (k : ℕ) (slots : List (Option X)) (q : ℕ) → q < k → set.contains (chosen_from test k slots) q ≡ false
  unfolding chosen_from
  chosen_below k [] q below = set.contains-empty nat_cmp q
  chosen_below k (slot ∷ rest) q below =
      insert_other (chosen test slot) (chosen_from test (suc k) rest) k q (λ same. omega arith) ∙ chosen_below (suc k) rest q (omega arith)

  chosen_at : (k : ℕ) (slots : List (Option X)) (i : ℕ) → set.contains (chosen_from test k slots) (k + i)
      ≡ chosen test (get_or slots i None)
  unfolding chosen_from
  chosen_at k [] i = set.contains-empty nat_cmp (k + i)
  chosen_at k (slot ∷ rest) zero =
      let same : k + zero ≡ k = omega arith in
      rw same (insert_here (chosen test slot) (chosen_from test (suc k) rest) k (chosen_below (suc k) rest k (omega arith)))
  chosen_at k (slot ∷ rest) (suc i) =
      let shift : k + suc i ≡ suc k + i = omega arith in
      insert_other (chosen test slot) (chosen_from test (suc k) rest) k (k + suc i) (λ same. omega arith) ∙ rw shift
      (chosen_at (suc k) rest i)

  pub contains-chosen : (slots : List (Option X)) (q : ℕ) → set.contains (chosen_from test 0 slots) q ≡ chosen test (get_or slots q None)
  contains-chosen slots q = ap (set.contains (chosen_from test 0 slots)) (sym (zero-add q)) ∙ chosen_at 0 slots q

  pub chosen-empty : (slots : List (Option X)) → slots ≡ [] → chosen_from test 0 slots ≡ set.empty
  unfolding chosen_from
  chosen-empty slots none = rw none refl
