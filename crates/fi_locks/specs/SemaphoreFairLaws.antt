-- The calls on a fair semaphore leave no wake owed.
use Rattle.std.specs.Prelude.{◌≡◌, ◌≢◌, ◌+◌, ◌<◌, ◌≤◌, ◌==◌, ◌⊎◌, ℕ, nat_le, eqb, not, Bool, true, false, if◌then◌else◌}
use Rattle.std.specs.Prelude.{Option, Some, List, [], ◌∷◌, ◌++◌, sum_by, refl}
use Rattle.std.proofs.Common.{ap, subst, sym, ◌∙◌, inl, inr, arith}
use Rattle.std.proofs.lemmas.Bool.{both_ways, cases_Bool, le-leb, lt-leb, eqb-true, eq-eqb}
use Rattle.std.proofs.lemmas.Bool.{and_parts, and_cases, or_left, or_cases, or_parts, not-true}
use Rattle.std.proofs.lemmas.List.Sums.{sum_by-cons, sum_by-append}
use Rattle.fi_parts.specs.declared.phase.Phase.{Phase}
use Rattle.fi_parts.specs.declared.phase.Phase.TheVariants.{Registered}
use Rattle.fi_parts.specs.Order.{holds, Apart, without}
use Rattle.fi_parts.specs.Places.{is_told}
use Rattle.fi_parts.specs.Waiting.{Waiters, Waiting, phase_of}
use Rattle.fi_parts.proofs.Queues.{holds-without_same}
use Rattle.fi_parts.proofs.Slots.{in_neither}
use Rattle.fi_parts.proofs.Waiting.{Becomes}
use Rattle.fi_locks.specs.FrontLaws.{sum_held, sum_without_one, fronts, same_first, not_empty}
use Rattle.fi_locks.specs.Semaphore.{Permits, SemaphoreMachine, is_empty, can_take, need_of, IsSound, Tells, OwesNoWakeFair}
use Rattle.fi_locks.specs.SemaphoreSoundLaws.{Changes, told_now, needs_now}
use Rattle.fi_locks.specs.ToldFutures.{IsToldFront}
use Rattle.fi_locks.specs.ToldFuturesLaws.{not_in_front, front_still, front_registered, same_told}

-- what it means that permits are granted at once
pub taken_fairly : (permits : Permits) (queue : List ℕ) (n : ℕ) → permits.is_fair ≡ true → can_take permits queue n ≡ true →
    (queue ≡ []) ⊎ (n ≡ 0)
taken_fairly permits queue n fair takes =
    elim (or_cases (not permits.is_fair) _ (and_parts (nat_le n permits.free) _ takes).1) [
      | inl unfair ↦ absurd (both_ways _ (not-true permits.is_fair unfair) fair)
      | inr rest ↦ elim (or_cases (is_empty queue) (n == 0) rest) [
        | inl empty ↦ inl (none queue empty)
        | inr zero_need ↦ inr (eqb-true n 0 zero_need)
      ]
    ]
  where
    none : (xs : List ℕ) → is_empty xs ≡ true → xs ≡ []
    none [] e = refl
    none (x ∷ xs) e = absurd (both_ways false refl e)

module _ {W : Type 0} where
  -- who is first in a queue stands in it
  pub first_held : (side : Waiters ℕ W) (next : ℕ) (later : List ℕ) → side.queue ≡ next ∷ later → holds next side.queue ≡ true
  first_held side next later is = ap (holds next) is ∙ or_left (eqb next next) _ (eq-eqb next next refl)

  -- one that is not queued is not the first
  pub not_first : (side : Waiters ℕ W) (name next : ℕ) (later : List ℕ) → holds name side.queue ≡ false → side.queue ≡ next ∷ later →
      next ≢ name
  not_first side name next later off is same = both_ways _ off (ap (λ n. holds n side.queue) (sym same) ∙ first_held side next later is)

  -- Queue and told futures are as before, those queued need what they needed, and as many permits are free.
  pub fair_still : (old new : Waiters ℕ W) (free : ℕ) → OwesNoWakeFair free old → new.queue ≡ old.queue →
      ((q : ℕ) → is_told (phase_of new q) ≡ is_told (phase_of old q)) →
      ((q : ℕ) → holds q old.queue ≡ true → need_of new q ≡ need_of old q) → OwesNoWakeFair free new
  fair_still old new free was queue same needs = record {
    told = was.told;
    rest = was.rest;
    front = front_still old new was.told was.rest was.front queue same;
    fits = rw (sum_held (need_of new) (need_of old) was.told (λ q at. needs q (in_queue q at))) was.fits;
    oldest = λ next later is.
        let before = sym queue ∙ is in
        same next ∙ was.oldest next later before ∙ ap (λ n. nat_le n free) (sym (needs next (first_held old next later before)));
  }
    where
      in_queue : (q : ℕ) → holds q was.told ≡ true → holds q old.queue ≡ true
      in_queue q at = elim (cases_Bool (holds q old.queue)) [
        | inl there ↦ there
        | inr off ↦ absurd (both_ways _ (not_in_front old was.told was.rest q was.front off) at)
      ]

  -- Nobody is queued, and the same are told: nobody.
  pub fair_empty : (old new : Waiters ℕ W) (free free_now : ℕ) → OwesNoWakeFair free old → old.queue ≡ [] → new.queue ≡ old.queue →
      ((q : ℕ) → is_told (phase_of new q) ≡ is_told (phase_of old q)) → OwesNoWakeFair free_now new
  fair_empty old new free free_now was empty queue same = record {
    told = [];
    rest = [];
    front = record {
      is_front = queue ∙ empty;
      all = λ q. same q ∙ was.front.all q ∙ not_in_front old was.told was.rest q was.front (ap (holds q) empty);
    };
    fits = omega arith;
    oldest = λ next later is. absurd (not_empty next later (sym (queue ∙ empty) ∙ is));
  }

  -- One name changed that was not queued.
  pub fair_changed : (old new : Waiters ℕ W) (name : ℕ) (phase : Option (Phase W)) (free : ℕ) → OwesNoWakeFair free old →
      holds name old.queue ≡ false → new.queue ≡ old.queue → Changes old new name phase → is_told phase ≡ false →
      OwesNoWakeFair free new
  fair_changed old new name phase free was off queue c not_told =
      fair_still old new free was queue
      (same_told old new name phase c.becomes not_told (was.front.all name ∙ not_in_front old was.told was.rest name was.front off))
      (λ q at. c.needs q (λ e. both_ways _ off (subst (λ (n : ℕ). holds n old.queue ≡ true) e at)))

  -- One that is not granted registers: it is the oldest only if its need is not free.
  pub fair_registered : (old : SemaphoreMachine W) (new : Waiters ℕ W) (name : ℕ) (waker : W) → old.own.is_fair ≡ true →
      OwesNoWakeFair old.own.free old.waiting.side → holds name old.waiting.side.queue ≡ false →
      Becomes old.waiting.side new name (Some (Registered waker)) → new.queue ≡ old.waiting.side.queue ++ name ∷ [] →
      ((q : ℕ) → need_of new q ≡ need_of old.waiting.side q) →
      can_take old.own old.waiting.side.queue (need_of old.waiting.side name) ≡ false → OwesNoWakeFair old.own.free new
  fair_registered old new name waker fair was off b queue needs lacks = record {
    told = was.told;
    rest = was.rest ++ name ∷ [];
    front = front_registered side new name waker was.told was.rest was.front b off queue;
    fits = rw (sum_held (need_of new) (need_of side) was.told (λ q at. needs q)) was.fits;
    oldest = λ next later is. oldest_at side.queue refl next later (sym queue ∙ is);
  }
    where
      side : Waiters ℕ W
      side = old.waiting.side

      oldest_at : (names : List ℕ) → side.queue ≡ names → (next : ℕ) (later : List ℕ) → side.queue ++ name ∷ [] ≡ next ∷ later →
          is_told (phase_of new next) ≡ nat_le (need_of new next) old.own.free
      oldest_at [] empty next later is =
          let here : name ≡ next = same_first name next [] later (ap (λ xs. xs ++ name ∷ []) (sym empty) ∙ is) in
          let unfree : nat_le (need_of side name) old.own.free ≡ false =
          elim (and_cases (nat_le (need_of side name) old.own.free) _ lacks) [
            | inl over ↦ over
            | inr taken ↦ absurd (both_ways _ (or_parts (not old.own.is_fair) _ taken).1
                (or_left (is_empty side.queue) _ (ap is_empty empty)))
          ] in
          subst (λ (n : ℕ). is_told (phase_of new n) ≡ nat_le (need_of new n) old.own.free) here
          (ap is_told b.here ∙ sym (ap (λ n. nat_le n old.own.free) (needs name) ∙ unfree))
      oldest_at (y ∷ ys) queued next later is =
          let here : y ≡ next = same_first y next (ys ++ name ∷ []) later (ap (λ xs. xs ++ name ∷ []) (sym queued) ∙ is) in
          let was_first : side.queue ≡ next ∷ ys = queued ∙ ap (λ n. n ∷ ys) here in
          let ne = not_first side name next ys off was_first in
          ap is_told (b.others next ne) ∙ was.oldest next ys was_first ∙ ap (λ n. nat_le n old.own.free) (sym (needs next))

  -- A telling round, where the told were a front whose needs together are free.
  module _ (old new : SemaphoreMachine W) (told rest : List ℕ) (sound : IsSound old) (fair : old.own.is_fair ≡ true)
      (front_was : IsToldFront old.waiting.side told rest) (fits : sum_by (need_of old.waiting.side) told ≤ old.own.free)
      (did : Tells old new) where
    abbrev need : ℕ → ℕ
    need = need_of old.waiting.side

    abbrev front : List ℕ
    front = did.0

    abbrev later : List ℕ
    later = did.2.1.0

    queue_kept : new.waiting.side.queue ≡ old.waiting.side.queue
    queue_kept = ap (λ (w : Waiting ℕ W). w.side.queue) did.2.1.2 ∙ keeps old.own.is_fair fair
      where
        keeps : (b : Bool) → b ≡ true → (if b then old.waiting.side.queue else later) ≡ old.waiting.side.queue
        keeps true is = refl
        keeps false is = absurd (both_ways false refl is)

    -- those told before stand in the front
    within : (q : ℕ) → holds q front ≡ false → holds q told ≡ false
    within q off = elim (fronts told rest front later (sym front_was.is_front ∙ did.2.1.1)) [
      | inl more ↦ (in_neither q told more.0 (sym (ap (holds q) more.1) ∙ off)).0
      | inr more ↦ absurd (too_much more.0 more.1
          (did.1.longest more.0 (more.1 ++ rest) (did.2.1.1 ∙ ap (λ xs. front ++ xs) more.3))
          (subst (λ xs. sum_by need xs ≤ old.own.free) more.2 fits))
    ]
      where
        too_much : (n : ℕ) (more : List ℕ) → old.own.free < sum_by need front + need n →
            sum_by need (front ++ n ∷ more) ≤ old.own.free → ⊥
        too_much n more over small = omega (arith, over, small, sum_by-append need front (n ∷ more), sum_by-cons need n more)

    -- the front is what is told then
    pub front_is_told : IsToldFront new.waiting.side front later
    front_is_told = record { is_front = queue_kept ∙ did.2.1.1; all = all }
      where
        all : (q : ℕ) → is_told (phase_of new.waiting.side q) ≡ holds q front
        all q =
            let now = told_now old new sound did in
            elim (cases_Bool (holds q front)) [
              | inl at ↦ ap is_told (now.these q at) ∙ sym at
              | inr off ↦ ap is_told (now.others q off) ∙ front_was.all q ∙ within q off ∙ sym off
            ]

    pub front_needs : sum_by (need_of new.waiting.side) front ≡ sum_by need front
    front_needs = sum_held (need_of new.waiting.side) need front (λ q at. needs_now old new did q)

    -- No wake is owed then.
    pub fair_tells : OwesNoWakeFair old.own.free new.waiting.side
    fair_tells = record {
      told = front;
      rest = later;
      front = front_is_told;
      fits = rw front_needs did.1.fits;
      oldest = λ next others is.
          front_is_told.all next
          ∙ first front later next others did.2.1.1 did.1.fits (λ n ns e. did.1.longest n ns (did.2.1.1 ∙ ap (λ xs. front ++ xs) e))
          (sym queue_kept ∙ is)
          ∙ ap (λ n. nat_le n old.own.free) (sym (needs_now old new did next));
    }
      where
        first : (front later : List ℕ) (next : ℕ) (others : List ℕ) → old.waiting.side.queue ≡ front ++ later →
            sum_by need front ≤ old.own.free →
            ((n : ℕ) (ns : List ℕ) → later ≡ n ∷ ns → old.own.free < sum_by need front + need n) →
            old.waiting.side.queue ≡ next ∷ others → holds next front ≡ nat_le (need next) old.own.free
        first [] later next others split fits longest is =
            sym (lt-leb (need next) old.own.free (omega (arith, longest next others (sym split ∙ is))))
        first (y ∷ ys) later next others split fits longest is =
            let same : y ≡ next = same_first y next (ys ++ later) others (sym split ∙ is) in
            let small : need y ≤ old.own.free = omega (arith, fits, sum_by-cons need y ys) in
            or_left (eqb next y) _ (eq-eqb next y (sym same))
            ∙ sym (le-leb (need next) old.own.free (subst (λ (n : ℕ). need n ≤ old.own.free) same small))

  -- The needs of the told are together free: a told future's need, and the others' with it.
  pub told_fits : (side : Waiters ℕ W) (name free : ℕ) (told rest : List ℕ) → IsToldFront side told rest → Apart told →
      sum_by (need_of side) told ≤ free → is_told (phase_of side name) ≡ true →
      sum_by (need_of side) (without name told) + need_of side name ≤ free
  told_fits side name free told rest front once fits is =
      omega (arith, fits, sum_without_one (need_of side) name told once (sym (front.all name) ∙ is))

  -- One that was queued left the queue, and is not told now: the others that are told need no more than before.
  pub less_told : (old new : Waiters ℕ W) (name : ℕ) (told : List ℕ) → ((q : ℕ) → q ≢ name → need_of new q ≡ need_of old q) →
      sum_by (need_of new) (without name told) ≡ sum_by (need_of old) (without name told)
  less_told old new name told needs =
      sum_held (need_of new) (need_of old) (without name told)
      (λ q at. needs q (λ e. both_ways _ (holds-without_same name told) (subst (λ (n : ℕ). holds n (without name told) ≡ true) e at)))
