-- How far a telling round has come, as it walks the queue.
use Rattle.std.proofs.Common.{◌≡◌, ◌≢◌, ℕ, ◌+◌, ◌-◌, ◌≤◌, ◌<◌, Bool, true, false, eqb, cond, if◌then◌else◌, List, [], ◌∷◌, ◌++◌, length}
use Rattle.std.proofs.Common.{sum_by, Option, Some, None, append_assoc, refl, sym, ap, subst, ◌∙◌, arith}
use Rattle.std.specs.Prelude.{unwrap_or}
use Rattle.std.proofs.lemmas.Bool.{both_ways, cond-true, cond-false, eq-eqb, ne_eqb, or_left, or_right}
use Rattle.std.proofs.lemmas.List.Sums.{sum_by_push}
use Rattle.std.specs.Ordering.{nat_cmp}
use Rattle.std.specs.FinMap as map
use Rattle.std.proofs.lemmas.List.{append-nil}
use Rattle.fi_parts.specs.declared.errors.Slot.{Slot}
use Rattle.fi_parts.specs.declared.phase.LiveFuture.{LiveFuture}
use Rattle.fi_parts.specs.declared.phase.Phase.{Phase}
use Rattle.fi_parts.specs.declared.phase.Phase.TheVariants.{Told}
use Rattle.fi_parts.specs.Order.{holds, Apart}
use Rattle.fi_parts.specs.Places.{is_told}
use Rattle.fi_parts.specs.PlaceRules.{queued_rule}
use Rattle.fi_parts.specs.Waiting.{Waiting, phase_in, phase_of, is_queued, with_phases, pair_of, named, IsOrderedBy, told_one, front_told}
use Rattle.fi_parts.proofs.Slots.{eqb_same, holds-append}
use Rattle.fi_parts.proofs.Told.{with_phase-same, front_told-step, front_told-none}
use Rattle.fi_parts.proofs.Notified.{ordered-notified, may_notify-front}
use Rattle.fi_parts.proofs.Waiting.{asks-with_phases}
use Rattle.fi_locks.specs.FrontLaws.{same_rest, same_first, not_empty}
use Rattle.fi_locks.specs.Semaphore.{SemaphoreMachine, need_of, IsLongestFit, IsSound, Tells}
use Rattle.fi_locks.specs.SemaphoreFairLaws.{front_is_told, front_needs}
use Rattle.fi_locks.specs.SemaphoreMarks.{IsFirst, IsStopped, MarksIf, Walk}
use Rattle.fi_locks.specs.ToldFutures.{IsToldFront}
use Rattle.fi_locks.proofs.SemaphoreMarks.{marks_fair, marks_unfair}

-- to tell those told already changes nothing

with_phases-same : {D W : Type 0} (live : map.FinMap nat_cmp (LiveFuture D W)) (names : List ℕ) (phase : Phase W) →
    ((q : ℕ) → holds q names ≡ true → phase_in (map.get live q) ≡ Some phase) → with_phases live names phase ≡ live
unfolding with_phases
with_phases-same live [] phase all = refl
with_phases-same live (n ∷ names) phase all =
    ap (λ l. with_phases l names phase) (with_phase-same live n phase (all n (or_left (eqb n n) _ (eqb_same n))))
    ∙ with_phases-same live names phase (λ q at. all q (or_right (eqb q n) _ at))

named-told : {D W : Type 0} (live : map.FinMap nat_cmp (LiveFuture D W)) (names : List ℕ) →
    ((q : ℕ) → holds q names ≡ true → phase_in (map.get live q) ≡ Some Told) → named live names ≡ []
unfolding named
named-told live [] all = refl
named-told live (n ∷ names) all =
    ap (λ p. pair_of n p ++ named live names) (all n (or_left (eqb n n) _ (eqb_same n)))
    ∙ named-told live names (λ q at. all q (or_right (eqb q n) _ at))

pub told_is : {W : Type 0} (p : Option (Phase W)) → is_told p ≡ true → p ≡ Some Told
told_is None h = absurd (both_ways false refl h)
told_is (Some Told) h = refl
told_is (Some p) h = absurd (both_ways false refl h)

-- the names from this one on
abbrev from : ℕ → List ℕ → List ℕ
from x [] = []
from x (y ∷ ys) = cond (eqb x y) (y ∷ ys) (from x ys)

from_at : (xs : List ℕ) (x : ℕ) (ys : List ℕ) → Apart (xs ++ x ∷ ys) → from x (xs ++ x ∷ ys) ≡ x ∷ ys
from_at [] x ys a = cond-true (eqb x x) _ _ (eqb_same x)
from_at (y ∷ xs) x ys a =
    let other : x ≢ y = λ e. both_ways _ a.0
    (holds-append y xs (x ∷ ys) ∙ or_right (holds y xs) _ (or_left (eqb y x) _ (eq-eqb y x (sym e)))) in
    cond-false (eqb x y) _ _ (ne_eqb x y other) ∙ from_at xs x ys a.1

-- how many a walk that has come here still meets
abbrev pub ahead : Option Slot → List ℕ → ℕ
ahead None queue = 0
ahead (Some slot) queue = length (from slot.0 queue)

module _ {W : Type 0} where
  abbrev at_now : SemaphoreMachine W → Waiting ℕ W → SemaphoreMachine W
  at_now old now = record { own = old.own; waiting = now }

  -- A walk begins behind those told already.
  pub walk_starts_fair : (old : SemaphoreMachine W) (promised : ℕ) (untold : Option Slot) → old.own.is_fair ≡ true →
      MarksIf old.own.is_fair old.own.free promised untold old.waiting.side →
      Walk old.own.is_fair old.own.free old.waiting old.waiting (old.own.free - promised) untold
  walk_starts_fair old promised untold fair was =
      let side = old.waiting.side in
      let marks = marks_fair old.own.is_fair old.own.free promised untold side fair was in
      let told : (q : ℕ) → holds q marks.told ≡ true → phase_of side q ≡ Some Told = λ q at.
      told_is (phase_of side q) (marks.front.all q ∙ at) in
      let live : with_phases side.live marks.told Told ≡ side.live = with_phases-same side.live marks.told Told told in
      let out : old.waiting.out ++ named side.live marks.told ≡ old.waiting.out =
      ap (λ ps. old.waiting.out ++ ps) (named-told side.live marks.told told) ∙ append-nil old.waiting.out in
      record {
        front = marks.told;
        rest = marks.rest;
        split = marks.front.is_front;
        told = λ i. record {
          side = record { live = sym live i; queue = keeps old.own.is_fair fair marks.rest i };
          out = sym out i;
        };
        left = omega (arith, marks.sums, marks.fits);
        at = marks.first;
      }
    where
      keeps : (b : Bool) → b ≡ true → (rest : List ℕ) → old.waiting.side.queue ≡ (if b then old.waiting.side.queue else rest)
      keeps true is rest = refl
      keeps false is rest = absurd (both_ways false refl is)

  pub walk_starts_unfair : (old : SemaphoreMachine W) (promised : ℕ) (untold next : Option Slot) → old.own.is_fair ≡ false →
      MarksIf old.own.is_fair old.own.free promised untold old.waiting.side → IsFirst next old.waiting.side.queue →
      Walk old.own.is_fair old.own.free old.waiting old.waiting (old.own.free - promised) next
  walk_starts_unfair old promised untold next unfair was at =
      let none = marks_unfair old.own.is_fair old.own.free promised untold old.waiting.side unfair was in
      record {
        front = [];
        rest = old.waiting.side.queue;
        split = refl;
        told = sym (front_told-none (is_queued old.own.is_fair) (queued_rule old.own.is_fair) old.own.is_fair old.waiting);
        left = omega (arith, none);
        at = at;
      }

module _ {W : Type 0} (keeps : Bool) (free : ℕ) (start : Waiting ℕ W) where
  same_need : (now : Waiting ℕ W) (available : ℕ) (next : Option Slot) → Walk keeps free start now available next → (q : ℕ) →
      need_of now.side q ≡ need_of start.side q
  same_need now available next w q =
      ap (λ (v : Waiting ℕ W). need_of v.side q) w.told
      ∙ ap (λ o. unwrap_or o 0) (asks-with_phases Told w.front start.side.live q)

  -- the next one needs more than what is left, as it did at the start
  pub walk_stops : (now : Waiting ℕ W) (available : ℕ) (next : Option Slot) (slot : Slot) →
      Walk keeps free start now available next → available < need_of now.side slot.0 → available < need_of start.side slot.0
  walk_stops now available next slot w over =
      subst (λ (n : ℕ). available < n) (same_need now available next w slot.0) over

  -- the next one in the queue as it is now
  queue_now : (now : Waiting ℕ W) (available : ℕ) (next : Option Slot) (slot : Slot) → next ≡ Some slot →
      (w : Walk keeps free start now available next) →
      (front : List ℕ) × (later : List ℕ) × (w.rest ≡ slot.0 ∷ later) × (now.side.queue ≡ front ++ slot.0 ∷ later)
  queue_now now available next slot is w = each keeps refl
    where
      here : (later : List ℕ) × (w.rest ≡ slot.0 ∷ later)
      here = subst (λ o. IsFirst o w.rest) is w.at

      queue : now.side.queue ≡ (if keeps then start.side.queue else w.rest)
      queue = ap (λ (v : Waiting ℕ W). v.side.queue) w.told

      each : (b : Bool) → keeps ≡ b →
          (front : List ℕ) × (later : List ℕ) × (w.rest ≡ slot.0 ∷ later) × (now.side.queue ≡ front ++ slot.0 ∷ later)
      each true e = (
        w.front,
        here.0,
        here.1,
        queue ∙ ap (λ (b : Bool). if b then start.side.queue else w.rest) e ∙ w.split ∙ ap (λ xs. w.front ++ xs) here.1,
      )
      each false e = ([], here.0, here.1, queue ∙ ap (λ (b : Bool). if b then start.side.queue else w.rest) e ∙ here.1)

  pub walk_queued : (now : Waiting ℕ W) (available : ℕ) (next : Option Slot) (slot : Slot) → next ≡ Some slot →
      Walk keeps free start now available next → holds slot.0 now.side.queue ≡ true
  walk_queued now available next slot is w =
      let q = queue_now now available next slot is w in
      ap (holds slot.0) q.3 ∙ holds-append slot.0 q.0 (slot.0 ∷ q.1)
      ∙ or_right (holds slot.0 q.0) _ (or_left (eqb slot.0 slot.0) _ (eqb_same slot.0))

  module _ (ordered : IsOrderedBy (is_queued keeps) start.side start.out) where
    pub walk_ordered : (now : Waiting ℕ W) (available : ℕ) (next : Option Slot) → Walk keeps free start now available next →
        IsOrderedBy (is_queued keeps) now.side now.out
    walk_ordered now available next w =
        subst (λ (v : Waiting ℕ W). IsOrderedBy (is_queued keeps) v.side v.out) (sym w.told)
        (ordered-notified (is_queued keeps) (queued_rule keeps) Told w.front (if keeps then start.side.queue else w.rest) start refl ordered
        (may_notify-front (is_queued keeps) (queued_rule keeps) Told keeps w.front w.rest start refl ordered w.split))

    pub walk_on : (now : Waiting ℕ W) (available : ℕ) (next : Option Slot) (slot : Slot) (after : Option Slot) → next ≡ Some slot →
        Walk keeps free start now available next → need_of now.side slot.0 ≤ available →
        ((front rest : List ℕ) → now.side.queue ≡ front ++ slot.0 ∷ rest → IsFirst after rest) →
        Walk keeps free start (told_one keeps now slot.0) (available - need_of now.side slot.0) after
    walk_on now available next slot after is w fits younger =
        let q = queue_now now available next slot is w in
        let split : start.side.queue ≡ w.front ++ slot.0 ∷ q.1 = w.split ∙ ap (λ xs. w.front ++ xs) q.2 in
        let now_is : now ≡ front_told keeps start w.front (slot.0 ∷ q.1) = w.told ∙ ap (front_told keeps start w.front) q.2 in
        record {
          front = w.front ++ slot.0 ∷ [];
          rest = q.1;
          split = split ∙ sym (append_assoc w.front (slot.0 ∷ []) q.1);
          told = ap (λ (v : Waiting ℕ W). told_one keeps v slot.0) now_is
              ∙ front_told-step (is_queued keeps) (queued_rule keeps) keeps start w.front slot.0 q.1 ordered split;
          left = omega (arith, w.left, fits, same_need now available next w slot.0, sum_by_push (need_of start.side) w.front slot.0);
          at = younger q.0 q.1 q.3;
        }

    ahead_some : (now : Waiting ℕ W) (available : ℕ) (next : Option Slot) (slot : Slot) → next ≡ Some slot →
        (w : Walk keeps free start now available next) → length (from slot.0 now.side.queue) ≡ length w.rest
    ahead_some now available next slot is w =
        let q = queue_now now available next slot is w in
        ap (λ xs. length (from slot.0 xs)) q.3
        ∙ ap length (from_at q.0 slot.0 q.1 (subst Apart q.3 (walk_ordered now available next w).once)) ∙ ap length (sym q.2)

    pub ahead_is : (now : Waiting ℕ W) (available : ℕ) (next : Option Slot) → (w : Walk keeps free start now available next) →
        ahead next now.side.queue ≡ length w.rest
    ahead_is now available None w = ap length (sym w.at)
    ahead_is now available (Some slot) w = ahead_some now available (Some slot) slot refl w

    pub walk_smaller : (now : Waiting ℕ W) (available : ℕ) (next : Option Slot) (slot : Slot) (after : Option Slot) → next ≡ Some slot →
        (w : Walk keeps free start now available next) → (fits : need_of now.side slot.0 ≤ available) →
        (younger : (front rest : List ℕ) → now.side.queue ≡ front ++ slot.0 ∷ rest → IsFirst after rest) →
        ahead after (told_one keeps now slot.0).side.queue < ahead next now.side.queue
    unfolding queue_now walk_on
    walk_smaller now available next slot after is w fits younger =
        let q = queue_now now available next slot is w in
        let more : ahead after (told_one keeps now slot.0).side.queue ≡ length q.1 =
        ahead_is (told_one keeps now slot.0) (available - need_of now.side slot.0) after
        (walk_on now available next slot after is w fits younger) in
        let rest : length w.rest ≡ length (slot.0 ∷ q.1) = ap length q.2 in
        omega (arith, more, ahead_is now available next w, rest)

module _ {W : Type 0} (old : SemaphoreMachine W) (now : Waiting ℕ W) (available : ℕ) (next : Option Slot)
    (w : Walk old.own.is_fair old.own.free old.waiting now available next) (stopped : IsStopped old.waiting.side available next) where
  walk_longest : IsLongestFit (need_of old.waiting.side) old.own.free old.waiting.side.queue w.front
  walk_longest = record {
    fits = omega (arith, w.left);
    longest = λ n later is. each next w.at stopped n later (same_rest w.front w.rest (n ∷ later) (sym w.split ∙ is));
  }
    where
      each : (first : Option Slot) → IsFirst first w.rest → IsStopped old.waiting.side available first → (n : ℕ) (later : List ℕ) →
          w.rest ≡ n ∷ later → old.own.free < sum_by (need_of old.waiting.side) w.front + need_of old.waiting.side n
      each None none stopped n later is = absurd (not_empty n later (sym none ∙ is))
      each (Some slot) here stopped n later is =
          let same : slot.0 ≡ n = same_first slot.0 n here.0 later (sym here.1 ∙ is) in
          let over : available < need_of old.waiting.side n = subst (λ (k : ℕ). available < need_of old.waiting.side k) same stopped in
          omega (arith, w.left, over)

  -- A walk that has stopped is a telling round.
  pub walk_tells : Tells old (at_now old now)
  walk_tells = (w.front, walk_longest, (refl, (w.rest, w.split, w.told)))

  -- and the marks then are those of its end
  pub walk_marks : IsSound old → old.own.is_fair ≡ true → (promised : ℕ) (untold : Option Slot) →
      MarksIf old.own.is_fair old.own.free promised untold old.waiting.side →
      MarksIf old.own.is_fair old.own.free (old.own.free - available) next now.side
  unfolding walk_tells
  walk_marks sound fair promised untold was =
      let marks = marks_fair old.own.is_fair old.own.free promised untold old.waiting.side fair was in
      let fits : sum_by (need_of old.waiting.side) marks.told ≤ old.own.free = omega (arith, marks.sums, marks.fits) in
      let new : SemaphoreMachine W = at_now old now in
      let front : IsToldFront now.side w.front w.rest = front_is_told old new marks.told marks.rest sound fair marks.front
      fits walk_tells in
      let needs : sum_by (need_of now.side) w.front ≡ sum_by (need_of old.waiting.side) w.front =
      front_needs old new marks.told marks.rest sound fair marks.front fits walk_tells in
      subst (λ b. MarksIf b old.own.free (old.own.free - available) next now.side) (sym fair) (record {
        told = w.front;
        rest = w.rest;
        front = front;
        sums = needs ∙ left (sum_by (need_of old.waiting.side) w.front) w.left;
        fits = omega arith;
        first = w.at;
      })
    where
      left : (sum : ℕ) → sum + available ≡ old.own.free → sum ≡ old.own.free - available
      left sum is = omega (arith, is)
