-- What the first seat of the heap says of the futures.
use Rattle.std.proofs.Common.{◌≡◌, ◌≢◌, ◌≤◌, ◌<◌, ℕ, true, false, ◌&&◌, nat_lt, nat_le, ◌==◌, cond, Option, Some, None, unwrap_or}
use Rattle.std.proofs.Common.{refl, sym, ap, ◌∙◌, inl, inr, arith}
use Rattle.std.proofs.lemmas.Bool.{cases_Bool, ltb-false, leb-true, le-leb, both_ways, false_from_ne_true, and_parts}
use Rattle.std.proofs.lemmas.Option.{same_Some}
use Rattle.std.specs.FinMap as map
use Rattle.std.specs.FinSet as set
use Rattle.fi_parts.specs.declared.phase.LiveFuture.{LiveFuture}
use Rattle.fi_parts.specs.HeapModel.{HeapModel, value_under}
use Rattle.fi_parts.specs.Waiting.{Waiters, Waiting, phase_in, asks_in, is_registered}
use Rattle.fi_parts.specs.declared.deadlines.Deadline.{Deadline}
use Rattle.fi_parts.specs.Deadlines.{expiry_of, is_entered, IsLeastDue, NoneDue}
use Rattle.fi_parts.specs.Seats.{deadlines_of, due_of, AreSeated, IsFirst}
use Rattle.fi_parts.proofs.Seats.{unseated_in, get-unseated, phase-unseated}
use Rattle.std.specs.Ordering.{nat_cmp, ordering_then}
use Rattle.std.specs.declared.cmp.Ordering.TheVariants.{Less, Equal, Greater}
use Rattle.fi_parts.specs.declared.deadlines.Due.{Due}

-- what is not less has no earlier expiry
pub no_later : (later due : Due) → ordering_then (nat_cmp later.expiry due.expiry) (nat_cmp later.name due.name) ≢ Less →
    due.expiry ≤ later.expiry
no_later later due apart = elim (cases_Bool (nat_lt later.expiry due.expiry)) [
  | inl earlier ↦ absurd (apart (ap (λ b. ordering_then (cond b Less (cond (later.expiry == due.expiry) Equal Greater))
      (nat_cmp later.name due.name)) earlier))
  | inr not_earlier ↦ ltb-false later.expiry due.expiry not_earlier
]

module _ {W : Type 0} (w : Waiting Deadline W) (heap : HeapModel Due) (was : AreSeated w.side.live heap) where
  abbrev pub seen : Waiters ℕ W
  seen = (deadlines_of w).side

  registered_here : (q : ℕ) → is_entered seen q ≡ true → (g : LiveFuture Deadline W) × (map.get w.side.live q ≡ Some g) ×
      (is_registered (Some g.phase) ≡ true)
  registered_here q is = each (map.get w.side.live q) refl (ap is_registered (sym (phase-unseated w.side.live q)) ∙ is)
    where
      each : (o : Option (LiveFuture Deadline W)) → map.get w.side.live q ≡ o → is_registered (phase_in o) ≡ true
          → (g : LiveFuture Deadline W) × (map.get w.side.live q ≡ Some g) × (is_registered (Some g.phase) ≡ true)
      each None at h = absurd (both_ways false refl h)
      each (Some g) at h = (g, at, h)

  expiry_at : (q : ℕ) (g : LiveFuture Deadline W) → map.get w.side.live q ≡ Some g → expiry_of seen q ≡ g.asks.expiry
  expiry_at q g is = ap (λ o. unwrap_or (asks_in o) 0) (get-unseated w.side.live q ∙ ap unseated_in is)

  pub none_entered : heap.members ≡ set.empty → (q : ℕ) → is_entered seen q ≡ false
  none_entered empty q = false_from_ne_true _ (λ is.
      let g = registered_here q is in
      both_ways _ (ap (λ m. set.contains m g.0.asks.seat.0) empty ∙ set.contains-empty nat_cmp g.0.asks.seat.0) (was.taken q g.0 g.1 ∙ g.2))

  pub none_due : (now : ℕ) → ((q : ℕ) → is_entered seen q ≡ false) → NoneDue now seen
  none_due now none q = ap (λ b. b && nat_le (expiry_of seen q) now) (none q)

  module _ (seat : ℕ) (due : Due) (first : IsFirst heap seat due) where
    -- the future of the first seat
    pub its_future : (f : LiveFuture Deadline W) × (map.get w.side.live due.name ≡ Some f) × (f.asks.seat.0 ≡ seat)
    its_future = was.owned seat due first.value

    pub first_entered : is_entered seen due.name ≡ true
    first_entered =
        let f = its_future in
        ap is_registered (phase-unseated w.side.live due.name ∙ ap phase_in f.1) ∙ sym (was.taken due.name f.0 f.1) ∙
        ap (set.contains heap.members) f.2 ∙ first.member

    pub first_expiry : expiry_of seen due.name ≡ due.expiry
    first_expiry =
        let f = its_future in
        expiry_at due.name f.0 f.1 ∙ ap (λ (d : Due). d.expiry) (same_Some (due_of f.0 due.name) due (sym (was.seated due.name f.0 f.1) ∙
        ap (value_under heap) f.2 ∙ first.value))

    pub least : (other : ℕ) → is_entered seen other ≡ true → due.expiry ≤ expiry_of seen other
    least other is =
        let g = registered_here other is in
        rw (expiry_at other g.0 g.1) (first.least g.0.asks.seat.0 (due_of g.0 other) (was.taken other g.0 g.1 ∙
        g.2) (was.seated other g.0 g.1))

    pub is_least : (now : ℕ) → due.expiry ≤ now → IsLeastDue now seen due.name
    is_least now come = record {
      due = λ i. first_entered i && come_now i;
      least = λ other is. rw first_expiry (least other is);
    }
      where
        come_now : nat_le (expiry_of seen due.name) now ≡ true
        come_now = ap (λ n. nat_le n now) first_expiry ∙ le-leb due.expiry now come

    pub none_come : (now : ℕ) → now < due.expiry → NoneDue now seen
    none_come now later q = false_from_ne_true _ (λ is.
        let parts = and_parts (is_entered seen q) (nat_le (expiry_of seen q) now) is in
        let come : expiry_of seen q ≤ now = leb-true (expiry_of seen q) now parts.1 in
        let after : due.expiry ≤ expiry_of seen q = least q parts.0 in
        omega arith)
