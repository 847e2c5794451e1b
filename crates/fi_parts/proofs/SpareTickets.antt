-- The spare tickets of an outbox, which its list has and nobody else.
use Rattle.std.proofs.Common.{◌≡◌, ℕ, true, false, not, eqb, ◌&&◌, List, [], ◌∷◌, ◌++◌, drop, refl, sym, ap, subst, ◌∙◌, arith}
use Rattle.std.proofs.lemmas.Bool.{eq-eqb, cases_eq, both_ways, or_left, or_right, or_parts, and_from, not_from_false, false_from_ne_true}
use Rattle.std.proofs.lemmas.List.{append-nil}
use Rattle.std.specs.Ordering.{nat_cmp}
use Rattle.std.specs.Cmp.{nat_cmp_total}
use Rattle.std.specs.FinSet as set
use Rattle.fi_parts.specs.Order.{holds}
use Rattle.fi_parts.specs.Pairs.{OutboxModel, with_tickets, has, without_pair}
use Rattle.fi_parts.specs.OutboxList.{tickets_left, IsSpare}
use Rattle.fi_parts.proofs.Pairs.{contains_inserted, contains_removed, has-push, has-without}
use Rattle.fi_parts.proofs.Queues.{holds-push, Apart-push}
use Rattle.fi_parts.proofs.Slots.{Apart-front, apart_middle}

same_tickets : (a b : set.FinSet nat_cmp) → ((q : ℕ) → set.contains a q ≡ set.contains b q) → a ≡ b
same_tickets a b same = set.same_set nat_cmp_total set.nat_cmp-IsAntisymmetric _ _ same

-- who has a ticket: who is in the list, and not spare
pub contains_left : (ts : set.FinSet nat_cmp) (xs : List ℕ) (t : ℕ)
    → set.contains (tickets_left ts xs) t ≡ (not (holds t xs) && set.contains ts t)
unfolding tickets_left
contains_left ts [] t = refl
contains_left ts (x ∷ xs) t = grind (arith, contains_left (set.remove ts x) xs t, contains_removed ts x t)

pub left_none : (ts : set.FinSet nat_cmp) → tickets_left ts [] ≡ ts
unfolding tickets_left
left_none ts = refl

-- a ticket that somebody has is one of the list's, and not spare
pub taken : (ts : set.FinSet nat_cmp) (xs : List ℕ) (t : ℕ) → set.contains (tickets_left ts xs) t ≡ true
    → (holds t xs ≡ false) × (set.contains ts t ≡ true)
taken ts xs t at = let e = contains_left ts xs t in (grind (arith, e, at), grind (arith, e, at))

pub in_list : (ts : set.FinSet nat_cmp) (xs : List ℕ) (t : ℕ) → set.contains (tickets_left ts xs) t ≡ true → set.contains ts t ≡ true
in_list ts xs t at = (taken ts xs t at).1

pub not_left : (ts : set.FinSet nat_cmp) (xs : List ℕ) (t : ℕ) → set.contains ts t ≡ false → set.contains (tickets_left ts xs) t ≡ false
not_left ts xs t off = grind (arith, contains_left ts xs t, off)

pub left_from : (ts : set.FinSet nat_cmp) (xs : List ℕ) (t : ℕ) → holds t xs ≡ false → set.contains ts t ≡ true
    → set.contains (tickets_left ts xs) t ≡ true
left_from ts xs t off at = contains_left ts xs t ∙ and_from (not (holds t xs)) (set.contains ts t) (not_from_false (holds t xs) off) at

-- what was claimed of the list is claimed of what is left
pub left_inserted : (ts : set.FinSet nat_cmp) (xs : List ℕ) (t : ℕ) → holds t xs ≡ false
    → tickets_left (set.insert ts t) xs ≡ set.insert (tickets_left ts xs) t
left_inserted ts xs t off = same_tickets _ _ (λ q. grind (arith, contains_left, contains_inserted, cases_eq q t, off))

-- what is given back to the list is given back to what is left
pub left_removed : (ts : set.FinSet nat_cmp) (xs : List ℕ) (t : ℕ) → tickets_left (set.remove ts t) xs ≡ set.remove (tickets_left ts xs) t
left_removed ts xs t = same_tickets _ _ (λ q. grind (arith, contains_left, contains_removed))

-- a spare ticket more is one less that somebody has
pub left_pushed : (ts : set.FinSet nat_cmp) (xs : List ℕ) (t : ℕ) → tickets_left ts (xs ++ t ∷ []) ≡ set.remove (tickets_left ts xs) t
left_pushed ts xs t = same_tickets _ _ (λ q. grind (arith, contains_left, holds-push, contains_removed))

-- one spare ticket less is one more that somebody has
pub left_popped : (ts : set.FinSet nat_cmp) (xs : List ℕ) (x : ℕ) → holds x xs ≡ false → set.contains ts x ≡ true
    → tickets_left ts xs ≡ set.insert (tickets_left ts (xs ++ x ∷ [])) x
left_popped ts xs x off at =
    same_tickets _ _ (λ q. grind (arith, contains_left, holds-push, contains_inserted, cases_eq q x, off, at))

module _ {W : Type 0} where
  -- the spare tickets after each change of the list
  pub none_spare : (ts : set.FinSet nat_cmp) (ps : List (ℕ × W)) → IsSpare ts ps []
  none_spare ts ps = record {
    held = λ x at. absurd (both_ways false refl at);
    idle = λ x at. absurd (both_ways false refl at);
    once = tt;
  }

  pub not_spare : (ts : set.FinSet nat_cmp) (ps : List (ℕ × W)) (xs : List ℕ) (t : ℕ) → IsSpare ts ps xs → set.contains ts t ≡ false
      → holds t xs ≡ false
  not_spare ts ps xs t spare off = false_from_ne_true (holds t xs) (λ at. both_ways (set.contains ts t) off (spare.held t at))

  pub spare_inserted : (ts : set.FinSet nat_cmp) (ps : List (ℕ × W)) (xs : List ℕ) (t : ℕ) → IsSpare ts ps xs
      → IsSpare (set.insert ts t) ps xs
  spare_inserted ts ps xs t spare = record {
    held = λ x at. contains_inserted ts t x ∙ or_right (eqb x t) _ (spare.held x at);
    idle = spare.idle;
    once = spare.once;
  }

  pub spare_removed : (ts : set.FinSet nat_cmp) (ps : List (ℕ × W)) (xs : List ℕ) (t : ℕ) → IsSpare ts ps xs
      → set.contains (tickets_left ts xs) t ≡ true → IsSpare (set.remove ts t) ps xs
  spare_removed ts ps xs t spare at = record {
    held = λ x here. grind (arith, contains_removed ts t x, cases_eq x t, taken ts xs t at, here, spare.held x);
    idle = spare.idle;
    once = spare.once;
  }

  pub spare_pushed : (ts ts' : set.FinSet nat_cmp) (ps ps' : List (ℕ × W)) (xs : List ℕ) (t : ℕ) (w : W) → ts' ≡ ts
      → ps' ≡ ps ++ (t, w) ∷ [] → IsSpare ts ps xs → set.contains (tickets_left ts xs) t ≡ true → IsSpare ts' ps' xs
  spare_pushed ts ts' ps ps' xs t w tickets pairs spare at = rw (tickets, pairs) (record {
    held = spare.held;
    idle = λ x here. grind (arith, has-push x ps t w, cases_eq x t, taken ts xs t at, here, spare.idle x);
    once = spare.once;
  })

  pub spare_without : (ts ts' : set.FinSet nat_cmp) (ps ps' : List (ℕ × W)) (xs : List ℕ) (t : ℕ) → ts' ≡ ts → ps' ≡ without_pair t ps
      → IsSpare ts ps xs → IsSpare ts' ps' xs
  spare_without ts ts' ps ps' xs t tickets pairs spare = rw (tickets, pairs) (record {
    held = spare.held;
    idle =
        λ x here. false_from_ne_true (has x (without_pair t ps)) (λ at. both_ways (has x ps) (spare.idle x here) (has-without t x ps at));
    once = spare.once;
  })

  pub spare_dropped : (ts ts' : set.FinSet nat_cmp) (ps ps' : List (ℕ × W)) (xs : List ℕ) → ts' ≡ ts → ps' ≡ drop 1 ps → IsSpare ts ps xs
      → IsSpare ts' ps' xs
  spare_dropped ts ts' [] ps' xs tickets pairs spare = rw (tickets, pairs) spare
  spare_dropped ts ts' (p ∷ ps) ps' xs tickets pairs spare = rw (tickets, pairs) (record {
    held = spare.held;
    idle = λ x here. (or_parts (eqb x p.0) (has x ps) (spare.idle x here)).1;
    once = spare.once;
  })

  -- a ticket that is given back is a spare one
  pub spare_kept : (ts : set.FinSet nat_cmp) (ps : List (ℕ × W)) (xs : List ℕ) (t : ℕ) → IsSpare ts ps xs
      → set.contains (tickets_left ts xs) t ≡ true → has t ps ≡ false → IsSpare ts ps (xs ++ t ∷ [])
  spare_kept ts ps xs t spare at off = record {
    held = λ x here. grind (arith, holds-push x xs t, cases_eq x t, taken ts xs t at, here, spare.held x);
    idle = λ x here. grind (arith, holds-push x xs t, cases_eq x t, off, here, spare.idle x);
    once = Apart-push xs t spare.once (taken ts xs t at).0;
  }

  -- the youngest spare one is claimed
  pub spare_claimed : (ts : set.FinSet nat_cmp) (ps : List (ℕ × W)) (xs : List ℕ) (x : ℕ) → IsSpare ts ps (xs ++ x ∷ []) → IsSpare ts ps xs
  spare_claimed ts ps xs x spare = record {
    held = λ k here. spare.held k (holds-push k xs x ∙ or_right (eqb k x) _ here);
    idle = λ k here. spare.idle k (holds-push k xs x ∙ or_right (eqb k x) _ here);
    once = Apart-front xs (x ∷ []) spare.once;
  }

  -- who has a pair is no spare ticket
  pub left_live : (ts : set.FinSet nat_cmp) (ps : List (ℕ × W)) (xs : List ℕ) → IsSpare ts ps xs
      → ((t : ℕ) → has t ps ≡ true → set.contains ts t ≡ true) → (t : ℕ) → has t ps ≡ true → set.contains (tickets_left ts xs) t ≡ true
  left_live ts ps xs spare live t at = grind (arith, contains_left ts xs t, spare.idle t, live t, at)

  -- an outbox as it is seen, where its list is this
  abbrev pub left_of : OutboxModel W → List ℕ → OutboxModel W
  left_of b xs = record { tickets = tickets_left b.tickets xs; pairs = b.pairs; visits = b.visits }

  -- a ticket was claimed of the list
  pub record LeftClaimed (b n : OutboxModel W) (xs : List ℕ) (t : ℕ) : Type 0 where
    pub held : IsSpare n.tickets n.pairs xs
    pub view : left_of n xs ≡ with_tickets (left_of b xs) (set.insert (tickets_left b.tickets xs) t)
    pub live : set.contains (tickets_left n.tickets xs) t ≡ true

  pub LeftClaimed-at : (b n : OutboxModel W) (xs : List ℕ) (t : ℕ) → IsSpare b.tickets b.pairs xs
      → set.contains b.tickets t ≡ false → n ≡ with_tickets b (set.insert b.tickets t) → LeftClaimed b n xs t
  LeftClaimed-at b n xs t spare off is =
      let left = left_inserted b.tickets xs t (not_spare b.tickets b.pairs xs t spare off) in
      rw is (record {
        held = spare_inserted b.tickets b.pairs xs t spare;
        view = λ i. record { tickets = left i; pairs = b.pairs; visits = b.visits };
        live = grind (arith, left, contains_inserted (tickets_left b.tickets xs) t t);
      })

  -- a ticket was given back to the list
  pub record LeftFreed (b n : OutboxModel W) (xs : List ℕ) (t : ℕ) : Type 0 where
    pub held : IsSpare n.tickets n.pairs xs
    pub view : left_of n xs ≡ with_tickets (left_of b xs) (set.remove (tickets_left b.tickets xs) t)

  pub LeftFreed-at : (b n : OutboxModel W) (xs : List ℕ) (t : ℕ) → IsSpare b.tickets b.pairs xs
      → set.contains (tickets_left b.tickets xs) t ≡ true → n ≡ with_tickets b (set.remove b.tickets t) → LeftFreed b n xs t
  LeftFreed-at b n xs t spare at is =
      let left = left_removed b.tickets xs t in
      rw is (record {
        held = spare_removed b.tickets b.pairs xs t spare at;
        view = λ i. record { tickets = left i; pairs = b.pairs; visits = b.visits };
      })

  -- a ticket is spare now
  pub left_kept : (b : OutboxModel W) (xs : List ℕ) (t : ℕ) → left_of b (xs ++ t ∷ [])
      ≡ with_tickets (left_of b xs) (set.remove (tickets_left b.tickets xs) t)
  left_kept b xs t =
      let left = left_pushed b.tickets xs t in
      λ i. record { tickets = left i; pairs = b.pairs; visits = b.visits }

  -- a spare ticket is somebody's now
  pub record SpareClaimed (b : OutboxModel W) (was xs : List ℕ) (x : ℕ) : Type 0 where
    pub held : IsSpare b.tickets b.pairs xs
    pub view : left_of b xs ≡ with_tickets (left_of b was) (set.insert (tickets_left b.tickets was) x)
    pub was_free : set.contains (tickets_left b.tickets was) x ≡ false
    pub live : set.contains (tickets_left b.tickets xs) x ≡ true
    pub idle : has x b.pairs ≡ false

  pub SpareClaimed-at : (b : OutboxModel W) (was xs : List ℕ) (x : ℕ) → was ≡ xs ++ x ∷ [] → IsSpare b.tickets b.pairs was
      → SpareClaimed b was xs x
  SpareClaimed-at b was xs x is spare =
      let all = subst (IsSpare b.tickets b.pairs) is spare in
      let here = holds-push x xs x ∙ or_left (eqb x x) (holds x xs) (eq-eqb x x refl) in
      let off : holds x xs ≡ false = ap (holds x) (sym (append-nil xs)) ∙ apart_middle xs x [] all.once in
      let left = left_popped b.tickets xs x off (all.held x here) in
      rw is (record {
        held = spare_claimed b.tickets b.pairs xs x all;
        view = λ i. record { tickets = left i; pairs = b.pairs; visits = b.visits };
        was_free = grind (arith, contains_left b.tickets (xs ++ x ∷ []) x, here);
        live = left_from b.tickets xs x off (all.held x here);
        idle = all.idle x here;
      })
