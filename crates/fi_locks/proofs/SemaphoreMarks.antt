-- The calls on a semaphore keep the marks of its queue.
use Rattle.std.proofs.Common.{◌≡◌, ◌≢◌, ℕ, ◌+◌, ◌-◌, ◌≤◌, ◌&&◌, Bool, true, false, eqb, List, [], ◌∷◌, ◌++◌, Option, Some, None}
use Rattle.std.proofs.Common.{MatchOption, sum_by, refl, sym, ap, subst, ◌∙◌, inl, inr, arith}
use Rattle.std.specs.Option.{option_or}
use Rattle.std.specs.Ordering.{nat_cmp}
use Rattle.std.specs.FinMap as map
use Rattle.std.proofs.lemmas.Bool.{both_ways, or_left, ne_eqb, false_from_ne_true}
use Rattle.fi_parts.specs.declared.errors.Slot.{Slot}
use Rattle.fi_parts.specs.declared.phase.Phase.{Phase}
use Rattle.fi_parts.specs.declared.phase.Phase.TheVariants.{Fresh, Registered, Told, Ended}
use Rattle.fi_parts.specs.Effects.{TakesEffect}
use Rattle.fi_parts.specs.Effects.WaiterEffect.{Inserts, Registers, KeepsWaiting, Ends, EndsPlaced, Removes}
use Rattle.fi_parts.specs.Machine.{phase_at}
use Rattle.fi_parts.specs.Order.{holds, Apart, without}
use Rattle.fi_parts.specs.Places.{is_told}
use Rattle.fi_parts.specs.Waiting.{Waiters, Waiting, phase_in, phase_of, is_queued}
use Rattle.fi_parts.proofs.Effects.{untold}
use Rattle.fi_parts.proofs.Slots.{eqb_same, holds-append, without_absent, without_first, Apart-front, Apart-back, Apart-disjoint}
use Rattle.fi_parts.proofs.Waiting.{Becomes}
use Rattle.fi_locks.specs.FrontLaws.{sum_held, sum_without_one, not_empty}
use Rattle.fi_locks.specs.Semaphore.{Permits, SemaphoreMachine, opened, need_of, can_take, IsSound}
use Rattle.fi_locks.specs.SemaphoreMarks.{IsFirst, MarksFair, MarksIf, MarksWithout, MarksWithoutIf, left_promised, promised_without}
use Rattle.fi_locks.specs.SemaphoreFairLaws.{taken_fairly, less_told}
use Rattle.fi_locks.specs.SemaphoreLaws.{queue_to, unqueued}
use Rattle.fi_locks.specs.SemaphoreSoundLaws.{after, same_need, other_need_inserted, other_need_removed}
use Rattle.fi_locks.specs.ToldFutures.{IsToldFront}
use Rattle.fi_locks.specs.ToldFuturesLaws.{front_still, front_without, front_registered, same_told}

-- who was first stays so where one goes to the end, and that one is first of an empty list
first_with : (first : Option Slot) (slot : Slot) (rest : List ℕ) → IsFirst first rest →
    IsFirst (option_or first (Some slot)) (rest ++ slot.0 ∷ [])
first_with None slot rest is = ([], ap (λ xs. xs ++ slot.0 ∷ []) is)
first_with (Some first) slot rest is = (is.0 ++ slot.0 ∷ [], ap (λ xs. xs ++ slot.0 ∷ []) is.1)

-- the list without a name that is not the first
first_still : (first : Option Slot) (name : ℕ) (rest : List ℕ) → IsFirst first rest → MatchOption first (Unit {0}) (λ slot. slot.0 ≢ name) →
    IsFirst first (without name rest)
first_still None name rest is ne = ap (without name) is
first_still (Some first) name rest is ne =
    (without name is.0, ap (without name) is.1 ∙ rw (ne_eqb name first.0 (λ e. ne (sym e))) refl)

module _ {W : Type 0} where
  pub marks_fair : (is_fair : Bool) (free promised : ℕ) (untold : Option Slot) (side : Waiters ℕ W) → is_fair ≡ true →
      MarksIf is_fair free promised untold side → MarksFair free promised untold side
  marks_fair is_fair free promised untold side fair was = subst (λ b. MarksIf b free promised untold side) fair was

  pub marks_unfair : (is_fair : Bool) (free promised : ℕ) (untold : Option Slot) (side : Waiters ℕ W) → is_fair ≡ false →
      MarksIf is_fair free promised untold side → promised ≡ 0
  marks_unfair is_fair free promised untold side unfair was = subst (λ b. MarksIf b free promised untold side) unfair was

  told_queued : (side : Waiters ℕ W) (told rest : List ℕ) → IsToldFront side told rest → (q : ℕ) → holds q told ≡ true →
      holds q side.queue ≡ true
  told_queued side told rest front q at = ap (holds q) front.is_front ∙ holds-append q told rest ∙ or_left _ _ at

  -- Queue and told futures are as before, those queued need what they needed, and what a fair one promises is free. (An unfair one
  -- promises nothing.)
  marks_still : (is_fair : Bool) (free free_now promised : ℕ) (untold : Option Slot) (old new : Waiters ℕ W) →
      MarksIf is_fair free promised untold old → new.queue ≡ old.queue →
      ((q : ℕ) → is_told (phase_of new q) ≡ is_told (phase_of old q)) →
      ((q : ℕ) → holds q old.queue ≡ true → need_of new q ≡ need_of old q) →
      (is_fair ≡ true → MarksFair free promised untold old → promised ≤ free_now) → MarksIf is_fair free_now promised untold new
  marks_still true free free_now promised untold old new was queue told needs fits = record {
    told = was.told;
    rest = was.rest;
    front = front_still old new was.told was.rest was.front queue told;
    sums = sum_held (need_of new) (need_of old) was.told (λ q at. needs q (told_queued old was.told was.rest was.front q at)) ∙ was.sums;
    fits = fits refl was;
    first = was.first;
  }
  marks_still false free free_now promised untold old new was queue told needs fits = was

  -- where permits are granted to one that does not wait, what is promised is free still
  promised_still : (permits : Permits) (side : Waiters ℕ W) (n promised : ℕ) (untold : Option Slot) → permits.is_fair ≡ true →
      can_take permits side.queue n ≡ true → MarksFair permits.free promised untold side → promised ≤ permits.free - n
  promised_still permits side n promised untold fair takes was = elim (taken_fairly permits side.queue n fair takes) [
    | inl empty ↦ omega (arith, sym was.sums ∙ ap (sum_by (need_of side)) (none was.told was.rest (sym was.front.is_front ∙ empty)))
    | inr zero_need ↦ omega (arith, zero_need, was.fits)
  ]
    where
      none : (xs ys : List ℕ) → xs ++ ys ≡ [] → xs ≡ []
      none [] ys e = refl
      none (x ∷ xs) ys e = absurd (not_empty x (xs ++ ys) (sym e))

  pub marks_taken : (permits : Permits) (n promised : ℕ) (untold : Option Slot) (side : Waiters ℕ W) →
      can_take permits side.queue n ≡ true → MarksIf permits.is_fair permits.free promised untold side →
      MarksIf permits.is_fair (permits.free - n) promised untold side
  marks_taken permits n promised untold side takes was =
      marks_still permits.is_fair permits.free (permits.free - n) promised untold side side was refl (λ q. refl) (λ q at. refl)
      (λ fair marks. promised_still permits side n promised untold fair takes marks)

  module _ (old : SemaphoreMachine W) (name promised : ℕ) (untold_slot : Option Slot) (new : Waiting ℕ W) (sound : IsSound old)
      (was : MarksIf old.own.is_fair old.own.free promised untold_slot old.waiting.side) where
    pub marks_made : (need : ℕ) → TakesEffect (Inserts name need) old.waiting new →
        MarksIf old.own.is_fair old.own.free promised untold_slot new.side
    marks_made need taken =
        let b = after (Inserts name need) old new sound tt taken in
        let off = unqueued old name sound (ap (is_queued old.own.is_fair) taken.0) in
        marks_still old.own.is_fair old.own.free old.own.free promised untold_slot old.waiting.side new.side was (queue_to new _ taken.1)
        (same_told old.waiting.side new.side name (Some Fresh) b refl (ap is_told taken.0))
        (λ q at. other_need_inserted name need old.waiting new taken q
        (λ e. both_ways _ off (subst (λ (n : ℕ). holds n old.waiting.side.queue ≡ true) e at))) (λ fair marks. marks.fits)

    -- a fresh one registers
    pub marks_registered : (slot : Slot) (waker : W) → slot.0 ≡ name → phase_at old name ≡ Some Fresh →
        TakesEffect (Registers name waker) old.waiting new →
        MarksIf old.own.is_fair old.own.free promised (option_or untold_slot (Some slot)) new.side
    marks_registered slot waker same stood taken = each old.own.is_fair was
      where
        each : (b : Bool) → MarksIf b old.own.free promised untold_slot old.waiting.side →
            MarksIf b old.own.free promised (option_or untold_slot (Some slot)) new.side
        each true marks =
            let side = old.waiting.side in
            let b = after (Registers name waker) old new sound (untold old.own.is_fair (phase_at old name) (ap is_told stood)) taken in
            let off = unqueued old name sound (ap (is_queued old.own.is_fair) stood) in
            let needs = same_need (Registers name waker) old.waiting new taken (λ q. refl) in
            record {
              told = marks.told;
              rest = marks.rest ++ name ∷ [];
              front = front_registered side new.side name waker marks.told marks.rest marks.front b off (queue_to new _ taken.1);
              sums = sum_held (need_of new.side) (need_of side) marks.told (λ q at. needs q) ∙ marks.sums;
              fits = marks.fits;
              first = subst (λ n. IsFirst (option_or untold_slot (Some slot)) (marks.rest ++ n ∷ [])) same
                  (first_with untold_slot slot marks.rest marks.first);
            }
        each false none = none

    -- a fresh one is granted what it needs
    pub marks_ended : phase_at old name ≡ Some Fresh →
        can_take old.own old.waiting.side.queue (need_of old.waiting.side name) ≡ true → TakesEffect (Ends name) old.waiting new →
        MarksIf old.own.is_fair (old.own.free - need_of old.waiting.side name) promised untold_slot new.side
    marks_ended stood takes taken =
        let side = old.waiting.side in
        let need = need_of side name in
        let b = after (Ends name) old new sound (untold old.own.is_fair (phase_at old name) (ap is_told stood)) taken in
        let needs = same_need (Ends name) old.waiting new taken (λ q. refl) in
        marks_still old.own.is_fair old.own.free (old.own.free - need) promised untold_slot side new.side was (queue_to new _ taken.1)
        (same_told side new.side name (Some Ended) b refl (ap is_told stood)) (λ q at. needs q)
        (λ fair marks. promised_still old.own side need promised untold_slot fair takes marks)

    -- a registered one keeps waiting
    pub marks_stay : (before waker : W) → phase_at old name ≡ Some (Registered before) →
        TakesEffect (KeepsWaiting name waker) old.waiting new → MarksIf old.own.is_fair old.own.free promised untold_slot new.side
    marks_stay before waker stood taken =
        let b = after (KeepsWaiting name waker) old new sound tt taken in
        let needs = same_need (KeepsWaiting name waker) old.waiting new taken (λ q. refl) in
        marks_still old.own.is_fair old.own.free old.own.free promised untold_slot old.waiting.side new.side was (queue_to new _ taken.1)
        (same_told old.waiting.side new.side name (Some (Registered waker)) b refl (ap is_told stood)) (λ q at. needs q)
        (λ fair marks. marks.fits)

  -- A name left the queue that the marks leave out.
  marks_left : (is_fair : Bool) (old new : Waiters ℕ W) (name : ℕ) (phase : Option (Phase W)) (free promised : ℕ) (untold : Option Slot) →
      MarksWithoutIf is_fair name free promised untold old → Becomes old new name phase → is_told phase ≡ false →
      new.queue ≡ without name old.queue → ((q : ℕ) → q ≢ name → need_of new q ≡ need_of old q) →
      MarksIf is_fair free promised untold new
  marks_left true old new name phase free promised untold was b not_told queue needs = record {
    told = without name was.told;
    rest = without name was.rest;
    front = front_without old new name phase was.told was.rest was.front b not_told queue;
    sums = less_told old new name was.told needs ∙ was.sums;
    fits = was.fits;
    first = was.first;
  }
  marks_left false old new name phase free promised untold was b not_told queue needs = was

  module _ (free free_now promised : ℕ) (untold : Option Slot) (side : Waiters ℕ W) (name : ℕ) (once : Apart side.queue)
      (was : MarksFair free promised untold side) where
    once_here : Apart (was.told ++ was.rest)
    once_here = subst Apart was.front.is_front once

    -- of a told one: what it needs is promised no longer
    pub told_need : is_told (phase_of side name) ≡ true → sum_by (need_of side) (without name was.told) + need_of side name ≡ promised
    told_need is =
        sum_without_one (need_of side) name was.told (Apart-front was.told was.rest once_here) (sym (was.front.all name) ∙ is) ∙ was.sums

    pub marks_without_told : is_told (phase_of side name) ≡ true → promised - need_of side name ≤ free_now →
        MarksWithout name free_now (promised - need_of side name) untold side
    marks_without_told is fits = record {
      told = was.told;
      rest = was.rest;
      front = was.front;
      sums = omega (arith, told_need is);
      fits = fits;
      first = subst (IsFirst untold) (sym (without_absent name was.rest
          (Apart-disjoint was.told was.rest once_here name (sym (was.front.all name) ∙ is)))) was.first;
    }

    -- of one that is not told: the told are as they were
    pub without_same : is_told (phase_of side name) ≡ false → sum_by (need_of side) (without name was.told) ≡ promised
    without_same off = ap (sum_by (need_of side)) (without_absent name was.told (sym (was.front.all name) ∙ off)) ∙ was.sums

    pub marks_without_other : is_told (phase_of side name) ≡ false → MatchOption untold (Unit {0}) (λ slot. slot.0 ≢ name) →
        MarksWithout name free promised untold side
    marks_without_other off ne = record {
      told = was.told;
      rest = was.rest;
      front = was.front;
      sums = without_same off;
      fits = was.fits;
      first = first_still untold name was.rest was.first ne;
    }

    -- of the oldest that is not told: the next younger one is that now
    module _ (slot : Slot) (is : untold ≡ Some slot) (same : slot.0 ≡ name) where
      here : (later : List ℕ) × (was.rest ≡ slot.0 ∷ later)
      here = subst (λ o. IsFirst o was.rest) is was.first

      split : was.rest ≡ name ∷ here.0
      split = here.1 ∙ ap (λ n. n ∷ here.0) same

      pub first_untold : is_told (phase_of side name) ≡ false
      first_untold = false_from_ne_true _ (λ told.
          both_ways _ (Apart-disjoint was.told was.rest once_here name (sym (was.front.all name) ∙ told))
          (ap (holds name) split ∙ or_left (eqb name name) _ (eqb_same name)))

      pub marks_without_first : (next : Option Slot) →
          ((front rest : List ℕ) → side.queue ≡ front ++ slot.0 ∷ rest → IsFirst next rest) → MarksWithout name free promised next side
      marks_without_first next younger = record {
        told = was.told;
        rest = was.rest;
        front = was.front;
        sums = without_same first_untold;
        fits = was.fits;
        first = subst (IsFirst next) (sym (ap (without name) split ∙ without_first name here.0
            (subst Apart split (Apart-back was.told was.rest once_here))))
            (younger was.told here.0 (was.front.is_front ∙ ap (λ xs. was.told ++ xs) here.1));
      }

  module _ (old : SemaphoreMachine W) (name promised : ℕ) (untold_slot : Option Slot) (new : Waiting ℕ W) (sound : IsSound old) where
    -- a told one is granted what it needs
    pub marks_told_ended : phase_at old name ≡ Some Told →
        MarksIf old.own.is_fair old.own.free promised untold_slot old.waiting.side → TakesEffect (EndsPlaced name) old.waiting new →
        MarksIf old.own.is_fair (old.own.free - need_of old.waiting.side name)
        (left_promised (old.own.is_fair && true) promised (need_of old.waiting.side name)) untold_slot new.side
    marks_told_ended stood was taken = each old.own.is_fair was
      where
        each : (b : Bool) → MarksIf b old.own.free promised untold_slot old.waiting.side →
            MarksIf b (old.own.free - need_of old.waiting.side name)
            (left_promised (b && true) promised (need_of old.waiting.side name)) untold_slot new.side
        each true marks =
            let side = old.waiting.side in
            let needs = same_need (EndsPlaced name) old.waiting new taken (λ q. refl) in
            marks_left true side new.side name (Some Ended) _ _ untold_slot
            (marks_without_told old.own.free (old.own.free - need_of side name) promised untold_slot side name sound.waiters.ordered.once
            marks (ap is_told stood) (omega (arith, marks.fits))) (after (EndsPlaced name) old new sound tt taken) refl
            (queue_to new _ taken.1) (λ q ne. needs q)
        each false none = none

    pub marks_removed : MarksWithoutIf old.own.is_fair name old.own.free promised untold_slot old.waiting.side →
        TakesEffect (Removes name) old.waiting new → MarksIf old.own.is_fair old.own.free promised untold_slot new.side
    marks_removed was taken =
        marks_left old.own.is_fair old.waiting.side new.side name None old.own.free promised untold_slot was
        (after (Removes name) old new sound tt taken) refl (queue_to new _ taken.1)
        (λ q ne. other_need_removed name old.waiting new taken q ne)

    -- a told one of a fair semaphore finds its need free
    pub told_need_free : old.own.is_fair ≡ true → is_told (phase_at old name) ≡ true →
        MarksIf old.own.is_fair old.own.free promised untold_slot old.waiting.side → need_of old.waiting.side name ≤ promised
    told_need_free fair is was =
        let marks = marks_fair old.own.is_fair old.own.free promised untold_slot old.waiting.side fair was in
        omega (arith, told_need old.own.free old.own.free promised untold_slot old.waiting.side name sound.waiters.ordered.once marks is)

  -- The marks without a name that is about to leave the queue of a fair semaphore.
  module _ (old : SemaphoreMachine W) (name promised : ℕ) (untold_slot : Option Slot) (sound : IsSound old)
      (fair : old.own.is_fair ≡ true) (was : MarksIf old.own.is_fair old.own.free promised untold_slot old.waiting.side) where
    marks : MarksFair old.own.free promised untold_slot old.waiting.side
    marks = marks_fair old.own.is_fair old.own.free promised untold_slot old.waiting.side fair was

    by_told : (untold : Option Slot) → ((told : Bool) → is_told (phase_at old name) ≡ told →
        MarksWithout name old.own.free (left_promised told promised (need_of old.waiting.side name)) untold old.waiting.side) →
        MarksWithoutIf old.own.is_fair name old.own.free
        (promised_without old.own.is_fair promised old.waiting.side name) untold old.waiting.side
    by_told untold each =
        subst (λ b. MarksWithoutIf b name old.own.free (promised_without b promised old.waiting.side name) untold old.waiting.side)
        (sym fair) (each (is_told (phase_at old name)) refl)

    -- whether or not it is told: where it is not the oldest that isn't
    pub unmark_kept : MatchOption untold_slot (Unit {0}) (λ slot. slot.0 ≢ name) →
        MarksWithoutIf old.own.is_fair name old.own.free
        (promised_without old.own.is_fair promised old.waiting.side name) untold_slot old.waiting.side
    unmark_kept ne = by_told untold_slot each
      where
        each : (told : Bool) → is_told (phase_at old name) ≡ told →
            MarksWithout name old.own.free (left_promised told promised (need_of old.waiting.side name)) untold_slot old.waiting.side
        each true is =
            marks_without_told old.own.free old.own.free promised untold_slot old.waiting.side name sound.waiters.ordered.once marks is
            (omega (arith, marks.fits))
        each false is =
            marks_without_other old.own.free old.own.free promised untold_slot old.waiting.side name sound.waiters.ordered.once marks is ne

    -- where it is that one: the next younger one is that now
    pub unmark_passed : (slot : Slot) (next : Option Slot) → untold_slot ≡ Some slot → slot.0 ≡ name →
        ((front rest : List ℕ) → old.waiting.side.queue ≡ front ++ slot.0 ∷ rest → IsFirst next rest) →
        MarksWithoutIf old.own.is_fair name old.own.free
        (promised_without old.own.is_fair promised old.waiting.side name) next old.waiting.side
    unmark_passed slot next at same younger = by_told next each
      where
        each : (told : Bool) → is_told (phase_at old name) ≡ told →
            MarksWithout name old.own.free (left_promised told promised (need_of old.waiting.side name)) next old.waiting.side
        each true is = absurd (both_ways _ (first_untold old.own.free old.own.free promised untold_slot old.waiting.side name
            sound.waiters.ordered.once marks slot at same) is)
        each false is = marks_without_first old.own.free old.own.free promised untold_slot old.waiting.side name
            sound.waiters.ordered.once marks slot at same next younger

pub marks_opened : (W : Type 0) (is_fair : Bool) (permits : ℕ) →
    MarksIf is_fair permits 0 None (opened {W = W} is_fair permits).waiting.side
marks_opened W true permits = record {
  told = [];
  rest = [];
  front = record { is_front = refl; all = λ q. ap (λ o. is_told (phase_in o)) (map.get-empty nat_cmp q) };
  sums = refl;
  fits = omega arith;
  first = refl;
}
marks_opened W false permits = refl
