-- Each call on a semaphore is a line of its table, and keeps a semaphore sound that owes no wake.
use Rattle.std.specs.Prelude.{◌≡◌, ◌≢◌, ◌+◌, ◌-◌, ◌^◌, ◌<◌, ◌≤◌, ◌==◌, ℕ, zero, suc, nat_le, nat_lt, not, Bool, true, false, if◌then◌else◌}
use Rattle.std.specs.Prelude.{Option, Some, None, List, [], sum_by, refl}
use Rattle.std.proofs.Common.{ap, subst, sym, ◌∙◌, inl, inr, arith}
use Rattle.std.proofs.lemmas.Bool.{both_ways, leb-true, leb-false, le-leb, ltb-false, and_parts, and_cases, and_from}
use Rattle.std.proofs.lemmas.Bool.{or_right, or_parts, not-true, not-false, false_from_ne_true}
use Rattle.std.specs.Ordering.{nat_cmp}
use Rattle.std.specs.FinMap as map
use Rattle.futures.specs.declared.task.Poll.{Poll}
use Rattle.futures.specs.declared.task.Poll.TheVariants.{Ready}
use Rattle.fi_parts.specs.declared.phase.Phase.{Phase}
use Rattle.fi_parts.specs.declared.phase.Phase.TheVariants.{Fresh, Registered, Told, Ended}
use Rattle.fi_parts.specs.Effects.{WaiterEffect, TakesEffect}
use Rattle.fi_parts.specs.Effects.WaiterEffect.{NoChange, Inserts, Registers, KeepsWaiting, Ends, EndsPlaced, Removes, NotifiesFront}
use Rattle.fi_parts.specs.Effects.WaiterEffect.{PopsOldest, AndThen}
use Rattle.fi_parts.specs.Machine.{phase_at, StepsTo}
use Rattle.fi_parts.specs.MachineTable.{AllowsEffect, LacksAfter, TableLine, PollLine, poll_change, waker_change}
use Rattle.fi_parts.specs.Order.{holds, without}
use Rattle.fi_parts.specs.Places.{is_told}
use Rattle.fi_parts.specs.PlaceRules.{queued_rule}
use Rattle.fi_parts.specs.Waiting.{Waiters, Waiting, phase_in, phase_of, is_queued, is_registered}
use Rattle.fi_parts.specs.WakerHistory.{gives}
use Rattle.fi_parts.specs.WakerHistory.WakerChange.{Leaves, NoEffect}
use Rattle.fi_parts.proofs.Effects.{untold, untold_if_leaving}
use Rattle.fi_parts.proofs.Machines.{line, ends, ends_placed, registers, stays, polls_and_then, pops, added}
use Rattle.fi_parts.proofs.Slots.{without_absent}
use Rattle.fi_parts.proofs.Waiting.{Becomes}
use Rattle.fi_locks.specs.declared.semaphore.asked.Asked.{Asked}
use Rattle.fi_locks.specs.declared.semaphore.asked.Asked.TheVariants.{NoNeed, OneNeed, MixedNeeds}
use Rattle.fi_locks.specs.FrontLaws.{sum_without, not_empty}
use Rattle.fi_locks.specs.Semaphore.{Permits, SemaphoreMachine, asked_after, granted, can_take, opened, need_of, can_be_polled, is_granted}
use Rattle.fi_locks.specs.Semaphore.{at_own, Tells, StepsTelling, Makes, PollsAs, Polls, cancel_tells, Cancels, TriesAcquire, Releases}
use Rattle.fi_locks.specs.Semaphore.{GivesBack, Disarms, Wakes, is_wait_phase, IsSound, OwesNoWakeFair, OwesNoWakeUnfair, OwesNoWakeIf}
use Rattle.fi_locks.specs.Semaphore.{OwesNoWake}
use Rattle.fi_locks.specs.SemaphoreSoundLaws.{rules, no_lack, Changes, same_need, other_need_inserted, other_need_removed}
use Rattle.fi_locks.specs.SemaphoreSoundLaws.{told_waits, registered_waits, waiters_after, sound_phase, sound_permits, sound_inserted}
use Rattle.fi_locks.specs.SemaphoreSoundLaws.{counted_still, after, sound_ended, sound_removed, sound_tells, sound_opened}
use Rattle.fi_locks.specs.SemaphoreFairLaws.{taken_fairly, fair_still, fair_empty, fair_changed}
use Rattle.fi_locks.specs.SemaphoreFairLaws.{fair_registered, fair_tells, told_fits, less_told}
use Rattle.fi_locks.specs.SemaphoreUnfairLaws.{one_need, none_waits, unfair_still, still_registered, unfair_told_granted}
use Rattle.fi_locks.specs.SemaphoreUnfairLaws.{unfair_registered, unfair_tells}
use Rattle.fi_locks.specs.ToldFutures.{AreTold, IsToldFront}
use Rattle.fi_locks.specs.ToldFuturesLaws.{front_without, front_once, same_told, told_without}

-- permits that are granted are free
pub taken_are_free : (permits : Permits) (queue : List ℕ) (n : ℕ) → can_take permits queue n ≡ true → n ≤ permits.free
taken_are_free permits queue n takes = leb-true n permits.free (and_parts (nat_le n permits.free) _ takes).0

-- who isn't granted permits needs some
refused_needs : (permits : Permits) (queue : List ℕ) (n : ℕ) → can_take permits queue n ≡ false → 0 < n
refused_needs permits queue zero lacks =
    absurd (both_ways _ lacks (and_from (nat_le 0 permits.free) _ (le-leb 0 permits.free (omega arith))
    (or_right (not permits.is_fair) _ (or_right _ (0 == 0) refl))))
refused_needs permits queue (suc n) lacks = omega arith

-- in an unfair semaphore, because they are not free
refused_unfairly : (permits : Permits) (queue : List ℕ) (n : ℕ) → permits.is_fair ≡ false → can_take permits queue n ≡ false →
    permits.free < n
refused_unfairly permits queue n unfair lacks = elim (and_cases (nat_le n permits.free) _ lacks) [
  | inl over ↦ leb-false n permits.free over
  | inr taken ↦ absurd (both_ways _ unfair (not-false permits.is_fair (or_parts (not permits.is_fair) _ taken).0))
]

less_none : (free n : ℕ) → n ≡ 0 → free ≡ free - n
less_none free n none = omega (arith, none)

module _ {W : Type 0} where
  abbrev pub Holds : SemaphoreMachine W → Type 0
  Holds state = IsSound state × OwesNoWake state

  owes_cases : (is_fair : Bool) (asked : Asked) (free : ℕ) (side : Waiters ℕ W) → (is_fair ≡ true → OwesNoWakeFair free side) →
      ((only : ℕ) → is_fair ≡ false → asked ≡ OneNeed only → OwesNoWakeUnfair free only side) → OwesNoWakeIf is_fair asked free side
  owes_cases true asked free side fair unfair = fair refl
  owes_cases false NoNeed free side fair unfair = tt
  owes_cases false (OneNeed only) free side fair unfair = unfair only refl refl
  owes_cases false MixedNeeds free side fair unfair = tt

  pub owes_fair : (state : SemaphoreMachine W) → state.own.is_fair ≡ true → OwesNoWake state →
      OwesNoWakeFair state.own.free state.waiting.side
  owes_fair state fair was =
      subst (λ b. OwesNoWakeIf b state.own.asked state.own.free state.waiting.side) fair was

  owes_unfair : (state : SemaphoreMachine W) (only : ℕ) → state.own.is_fair ≡ false → state.own.asked ≡ OneNeed only →
      OwesNoWake state → OwesNoWakeUnfair state.own.free only state.waiting.side
  owes_unfair state only unfair asked was =
      subst (λ a. OwesNoWakeIf false a state.own.free state.waiting.side) asked
      (subst (λ b. OwesNoWakeIf b state.own.asked state.own.free state.waiting.side) unfair was)

  -- What was asked for stays: fair or unfair, no wake is owed if none was.
  holds_by : (old : SemaphoreMachine W) (permits : Permits) (new : Waiting ℕ W) → OwesNoWake old → IsSound (at_own permits new) →
      permits.is_fair ≡ old.own.is_fair → permits.asked ≡ old.own.asked →
      (old.own.is_fair ≡ true → OwesNoWakeFair old.own.free old.waiting.side → OwesNoWakeFair permits.free new.side) →
      ((only : ℕ) → old.own.is_fair ≡ false → old.own.asked ≡ OneNeed only → OwesNoWakeUnfair old.own.free only old.waiting.side →
      OwesNoWakeUnfair permits.free only new.side) → Holds (at_own permits new)
  holds_by old permits new was sound same_kind same_asked fair unfair = (
    sound,
    owes_cases permits.is_fair permits.asked permits.free new.side
        (λ is. let was_fair = sym same_kind ∙ is in fair was_fair (owes_fair old was_fair was))
        (λ only is one.
        let was_unfair = sym same_kind ∙ is in
        let was_one = sym same_asked ∙ one in
        unfair only was_unfair was_one (owes_unfair old only was_unfair was_one was)),
  )

  -- After a telling round no wake is owed.
  holds_told : (old new : SemaphoreMachine W) → IsSound old → Tells old new →
      (old.own.is_fair ≡ true → (told : List ℕ) × (rest : List ℕ) × IsToldFront old.waiting.side told rest
      × (sum_by (need_of old.waiting.side) told ≤ old.own.free)) →
      ((only : ℕ) → old.own.is_fair ≡ false → old.own.asked ≡ OneNeed only → (told : List ℕ) × AreTold old.waiting.side told) → Holds new
  holds_told old new sound did fair unfair = (
    sound_tells old new sound did,
    subst (λ (permits : Permits). OwesNoWakeIf permits.is_fair permits.asked permits.free new.waiting.side) (sym did.2.0)
        (owes_cases old.own.is_fair old.own.asked old.own.free new.waiting.side
        (λ is. let front = fair is in fair_tells old new front.0 front.1 sound is front.2 front.3 did)
        (λ only is one. let told = unfair only is one in unfair_tells old new only told.0 sound is one told.1 did)),
  )

  to_new : (permits : Permits) (new : SemaphoreMachine W) → new.own ≡ permits → Holds (at_own permits new.waiting) → Holds new
  to_new permits new same held = subst (λ p. Holds (at_own p new.waiting)) (sym same) held

  pub queue_to : (new is : Waiting ℕ W) → new ≡ is → new.side.queue ≡ is.side.queue
  queue_to new is same = ap (λ (w : Waiting ℕ W). w.side.queue) same

  -- one whose phase has no place is not queued
  pub unqueued : (old : SemaphoreMachine W) (name : ℕ) → IsSound old → is_queued old.own.is_fair (phase_at old name) ≡ false →
      holds name old.waiting.side.queue ≡ false
  unqueued old name was off = was.waiters.ordered.queued name ∙ off

  -- The lines of the table.

  -- a step, with or without a telling round after it
  telling_line : (tells : Bool) (permits : Permits) (effect : WaiterEffect ℕ W) (old new : SemaphoreMachine W) →
      permits.is_fair ≡ old.own.is_fair → AllowsEffect (queued_rule old.own.is_fair) is_wait_phase old.waiting effect →
      LacksAfter no_lack old.own permits old.waiting.side effect → StepsTelling tells old permits effect new →
      TableLine (rules old.own.is_fair) (waker_change effect) old new
  telling_line true permits effect old new fair allows lack did =
      line (rules old.own.is_fair) permits (AndThen effect (NotifiesFront permits.is_fair did.2.0)) old new
      (did.2.2.0, (did.0, did.1, did.2.2.1)) (allows, λ mid taken. (refl, sym fair), refl) (λ asks. tt)
  telling_line false permits effect old new fair allows lack did = line (rules old.own.is_fair) permits effect old new did allows lack

  pub inserted : (old new : SemaphoreMachine W) (name need : ℕ) → Makes old need name new →
      TableLine (rules old.own.is_fair) (Leaves name) old new
  inserted old new name need did =
      line (rules old.own.is_fair) (record old.own { asked = asked_after old.own.asked need }) (Inserts name need) old new did tt
      (λ asks lack. tt)

  pub cancelled : (old new : SemaphoreMachine W) (name : ℕ) → Cancels old name new → TableLine (rules old.own.is_fair) (Leaves name) old new
  cancelled old new name did =
      telling_line (cancel_tells old.own.is_fair (phase_at old name)) old.own (Removes name) old new refl tt (λ asks lack. tt) did

  pub tried : (old new : SemaphoreMachine W) (n : ℕ) (granting : Bool) → TriesAcquire old n granting new →
      TableLine (rules old.own.is_fair) NoEffect old new
  tried old new n granting did =
      line (rules old.own.is_fair) (if granting then granted old.own n else old.own) NoChange old new did.1 tt (λ asks lack. tt)

  pub released : (old new : SemaphoreMachine W) (n : ℕ) → Releases old n new → TableLine (rules old.own.is_fair) NoEffect old new
  released old new n did =
      telling_line (nat_lt 0 n) (record old.own { free = old.own.free + n }) NoChange old new refl tt (λ asks lack. tt) did.1

  pub given_back : (old new : SemaphoreMachine W) (n : ℕ) → GivesBack old n new → TableLine (rules old.own.is_fair) NoEffect old new
  given_back old new n did =
      telling_line (nat_lt 0 n) (record old.own { free = old.own.free + n; held = old.own.held - n }) NoChange old new refl tt
      (λ asks lack. tt) did.1

  pub disarmed : (old new : SemaphoreMachine W) (n : ℕ) → Disarms old n new → TableLine (rules old.own.is_fair) NoEffect old new
  disarmed old new n did =
      line (rules old.own.is_fair) (record old.own { held = old.own.held - n }) NoChange old new did.1 tt (λ asks lack. tt)

  pub popped : (old new : SemaphoreMachine W) (waker : Option W) → Wakes old waker new →
      TableLine (rules old.own.is_fair) (gives waker) old new
  popped old new waker did = pops (rules old.own.is_fair) waker old new did

  pub makes_pollable : (old : SemaphoreMachine W) (name need : ℕ) (new : SemaphoreMachine W) → Makes old need name new →
      can_be_polled (phase_at new name) ≡ true
  makes_pollable old name need new did =
      ap can_be_polled (added (rules old.own.is_fair) (record old.own { asked = asked_after old.own.asked need }) name need old new did)

  module _ (old : SemaphoreMachine W) (name need : ℕ) (waker : W) (answer : Poll ℕ) (new : SemaphoreMachine W) where
    told_line : (tells : Bool) → (answer ≡ Ready need) × StepsTelling tells old (granted old.own need) (EndsPlaced name) new →
        IsSound old → PollLine (rules old.own.is_fair) name (poll_change name waker answer) old new
    told_line true did was =
        polls_and_then (rules old.own.is_fair) (granted old.own need) (EndsPlaced name) (NotifiesFront old.own.is_fair did.1.2.0) name
        old new was.waiters (did.1.2.2.0, (did.1.0, did.1.1, did.1.2.2.1)) (tt, λ mid taken. (refl, refl), refl) (λ asks. tt) refl
        (ap (poll_change name waker) (sym did.0)) (λ q. refl)
    told_line false did was = ends_placed (rules old.own.is_fair) (granted old.own need) name waker old new did (λ asks lack. tt)

    line_as : (phase : Option (Phase W)) (granting : Bool) → phase_at old name ≡ phase → IsSound old →
        PollsAs phase granting need old name waker answer new →
        PollLine (rules old.own.is_fair) name (poll_change name waker answer) old new
    line_as (Some Fresh) true is was did =
        ends (rules old.own.is_fair) (granted old.own need) name waker old new did
        (untold old.own.is_fair (phase_at old name) (ap is_told is)) (λ asks lack. tt)
    line_as (Some Fresh) false is was did =
        registers (rules old.own.is_fair) old.own name waker old new did
        (untold old.own.is_fair (phase_at old name) (ap is_told is)) tt (λ asks lack. tt)
    line_as (Some (Registered before)) true is was did =
        ends_placed (rules old.own.is_fair) (granted old.own need) name waker old new did (λ asks lack. tt)
    line_as (Some (Registered before)) false is was did = stays (rules old.own.is_fair) old.own name waker old new did (λ asks lack. tt)
    line_as (Some Told) true is was did = told_line old.own.is_fair did was
    line_as (Some Told) false is was did =
        registers (rules old.own.is_fair) old.own name waker old new (did.1, did.2)
        (untold_if_leaving old.own.is_fair (phase_at old name) did.0) tt (λ asks lack. tt)
    line_as phase granting is was did = absurd did

  pub polled : (old : SemaphoreMachine W) (name : ℕ) (waker : W) (answer : Poll ℕ) (new : SemaphoreMachine W) → IsSound old →
      Polls old name waker answer new → PollLine (rules old.own.is_fair) name (poll_change name waker answer) old new
  polled old name waker answer new was did =
      line_as old name (need_of old.waiting.side name) waker answer new (phase_at old name)
      (is_granted (phase_at old name) old (need_of old.waiting.side name)) refl was did

  -- What the calls keep.

  pub opened_holds : (is_fair : Bool) (permits : ℕ) → permits < 2 ^ 64 → Holds (opened {W = W} is_fair permits)
  opened_holds is_fair permits counted =
      let sound = sound_opened {W = W} is_fair permits counted in
      let side = (opened {W = W} is_fair permits).waiting.side in (
        sound,
        owes_cases is_fair NoNeed permits side
            (λ is. record {
              told = [];
              rest = [];
              front = record { is_front = refl; all = λ q. none_told q };
              fits = omega arith;
              oldest = λ next later none. absurd (not_empty next later none);
            })
            (λ only is one. absurd (no_number only one)),
      )
    where
      none_told : (q : ℕ) → is_told (phase_of (opened {W = W} is_fair permits).waiting.side q) ≡ false
      none_told q = ap (λ o. is_told (phase_in o)) (map.get-empty nat_cmp q)

      no_number : (only : ℕ) → NoNeed ≡ OneNeed only → ⊥
      no_number only e = cc

  -- One name changed that was not queued, and is not told now; a fair semaphore has as many free permits as before, an unfair one
  -- no more.
  quietly : (old : SemaphoreMachine W) (permits : Permits) (new : Waiting ℕ W) (name : ℕ) (phase : Option (Phase W)) → OwesNoWake old →
      IsSound (at_own permits new) → permits.is_fair ≡ old.own.is_fair → permits.asked ≡ old.own.asked →
      Changes old.waiting.side new.side name phase → is_told phase ≡ false → is_told (phase_at old name) ≡ false →
      (is_registered phase ≡ true → is_registered (phase_at old name) ≡ true) →
      (old.own.is_fair ≡ true → (permits.free ≡ old.own.free) × (new.side.queue ≡ old.waiting.side.queue)
      × (holds name old.waiting.side.queue ≡ false)) →
      permits.free ≤ old.own.free → Holds (at_own permits new)
  quietly old permits new name phase was sound kind asked c not_told was_not registered fair less =
      holds_by old permits new was sound kind asked
      (λ is owed. let same = fair is in
      subst (λ free. OwesNoWakeFair free new.side) (sym same.0)
      (fair_changed old.waiting.side new.side name phase old.own.free owed same.2 same.1 c not_told))
      (λ only unfair one owed. unfair_still old.waiting.side new.side old.own.free permits.free only owed less
      (same_told old.waiting.side new.side name phase c.becomes not_told was_not)
      (still_registered old.waiting.side new.side name phase c.becomes registered))

  pub try_holds : (old new : SemaphoreMachine W) (n : ℕ) (granting : Bool) → Holds old → TriesAcquire old n granting new → Holds new
  try_holds old new n true was did =
      let permits = granted old.own n in
      let takes : can_take old.own old.waiting.side.queue n ≡ true = sym did.0 in
      let fits = taken_are_free old.own old.waiting.side.queue n takes in
      let sides : new.waiting.side ≡ old.waiting.side = ap (λ (w : Waiting ℕ W). w.side) did.1.1 in
      let sound = sound_permits old permits new.waiting was.0 refl refl (counted_still old.own.free old.own.held n was.0.counted fits) sides
      (waiters_after NoChange old new.waiting was.0 tt did.1.1) in
      let queue = ap (λ (s : Waiters ℕ W). s.queue) sides in
      let told : (q : ℕ) → is_told (phase_at new q) ≡ is_told (phase_at old q) = λ q. ap (λ s. is_told (phase_of s q)) sides in
      to_new permits new did.1.0 (holds_by old permits new.waiting was.1 sound refl refl
      (λ fair owed. elim (taken_fairly old.own old.waiting.side.queue n fair takes) [
        | inl empty ↦ fair_empty old.waiting.side new.waiting.side old.own.free permits.free owed empty queue told
        | inr none ↦ subst (λ free. OwesNoWakeFair free new.waiting.side) (less_none old.own.free n none)
            (fair_still old.waiting.side new.waiting.side old.own.free owed queue told (λ q at. ap (λ s. need_of s q) sides))
      ])
      (λ only unfair one owed. unfair_still old.waiting.side new.waiting.side old.own.free permits.free only owed (omega arith) told
      (λ q is. sym (ap (λ s. is_registered (phase_of s q)) sides) ∙ is)))
  try_holds old new n false was did =
      subst Holds (sym (λ i. record { own = did.1.0 i; waiting = did.1.1 i })) was

  -- The permits changed, and nobody; as many are free.
  permits_hold : (old : SemaphoreMachine W) (permits : Permits) (new : SemaphoreMachine W) → Holds old →
      permits.is_fair ≡ old.own.is_fair → permits.asked ≡ old.own.asked → permits.free + permits.held < 2 ^ 64 →
      permits.free ≡ old.own.free → StepsTo old permits NoChange new → Holds new
  permits_hold old permits new was kind asked counted free did =
      let sides : new.waiting.side ≡ old.waiting.side = ap (λ (w : Waiting ℕ W). w.side) did.1 in
      let sound = sound_permits old permits new.waiting was.0 kind asked counted sides
      (waiters_after NoChange old new.waiting was.0 tt did.1) in
      let told : (q : ℕ) → is_told (phase_at new q) ≡ is_told (phase_at old q) = λ q. ap (λ s. is_told (phase_of s q)) sides in
      to_new permits new did.0 (holds_by old permits new.waiting was.1 sound kind asked
      (λ fair owed. subst (λ f. OwesNoWakeFair f new.waiting.side) (sym free)
      (fair_still old.waiting.side new.waiting.side old.own.free owed (ap (λ (s : Waiters ℕ W). s.queue) sides) told
      (λ q at. ap (λ s. need_of s q) sides)))
      (λ only unfair one owed. unfair_still old.waiting.side new.waiting.side old.own.free permits.free only owed (omega (arith, free)) told
      (λ q is. sym (ap (λ s. is_registered (phase_of s q)) sides) ∙ is)))

  -- No fewer permits are free, and a telling round follows.
  telling_more : (old : SemaphoreMachine W) (permits : Permits) (new : SemaphoreMachine W) → Holds old →
      permits.is_fair ≡ old.own.is_fair → permits.asked ≡ old.own.asked → permits.free + permits.held < 2 ^ 64 →
      old.own.free ≤ permits.free → StepsTelling true old permits NoChange new → Holds new
  telling_more old permits new was kind asked counted more did =
      let mid : SemaphoreMachine W = at_own permits did.0 in
      let sides : did.0.side ≡ old.waiting.side = ap (λ (w : Waiting ℕ W). w.side) did.1 in
      let sound = sound_permits old permits did.0 was.0 kind asked counted sides (waiters_after NoChange old did.0 was.0 tt did.1) in
      holds_told mid new sound did.2
      (λ is.
      let owed = owes_fair old (sym kind ∙ is) was.1 in (
        owed.told,
        owed.rest,
        subst (λ s. IsToldFront s owed.told owed.rest) (sym sides) owed.front,
        subst (λ s. sum_by (need_of s) owed.told ≤ permits.free) (sym sides) (omega (arith, owed.fits, more)),
      ))
      (λ only is one.
      let owed = owes_unfair old only (sym kind ∙ is) (sym asked ∙ one) was.1 in
      (owed.told, subst (λ s. AreTold s owed.told) (sym sides) owed.are))

  -- n more are free, or none
  released_hold : (old : SemaphoreMachine W) (permits : Permits) (n : ℕ) (new : SemaphoreMachine W) (tells : Bool) → nat_lt 0 n ≡ tells →
      Holds old → permits.is_fair ≡ old.own.is_fair → permits.asked ≡ old.own.asked → permits.free + permits.held < 2 ^ 64 →
      permits.free ≡ old.own.free + n → StepsTelling tells old permits NoChange new → Holds new
  released_hold old permits n new true is was kind asked counted free did =
      telling_more old permits new was kind asked counted (omega (arith, free)) did
  released_hold old permits n new false is was kind asked counted free did =
      permits_hold old permits new was kind asked counted (omega (arith, free, ltb-false 0 n is)) did

  pub release_holds : (old new : SemaphoreMachine W) (n : ℕ) → Holds old → Releases old n new → Holds new
  release_holds old new n was did =
      released_hold old (record old.own { free = old.own.free + n }) n new (nat_lt 0 n) refl was refl refl (omega (arith, did.0)) refl did.1

  pub give_back_holds : (old new : SemaphoreMachine W) (n : ℕ) → Holds old → GivesBack old n new → Holds new
  give_back_holds old new n was did =
      released_hold old (record old.own { free = old.own.free + n; held = old.own.held - n }) n new (nat_lt 0 n) refl was refl refl
      (omega (arith, did.0, was.0.counted)) refl did.1

  pub disarm_holds : (old new : SemaphoreMachine W) (n : ℕ) → Holds old → Disarms old n new → Holds new
  disarm_holds old new n was did =
      permits_hold old (record old.own { held = old.own.held - n }) new was refl refl (omega (arith, was.0.counted)) refl did.1

  pub wake_holds : (old new : SemaphoreMachine W) (waker : Option W) → Holds old → Wakes old waker new → Holds new
  wake_holds old new waker was did =
      let sides : new.waiting.side ≡ old.waiting.side = ap (λ (w : Waiting ℕ W). w.side) did.1.1 in
      let sound = sound_permits old old.own new.waiting was.0 refl refl was.0.counted sides
      (waiters_after (PopsOldest waker) old new.waiting was.0 tt did.1) in
      to_new old.own new did.0
      (sound, subst (λ s. OwesNoWakeIf old.own.is_fair old.own.asked old.own.free s) (sym sides) was.1)

  -- A making: what was asked for may change.
  module _ (old : SemaphoreMachine W) (name need : ℕ) (new : Waiting ℕ W) (was : Holds old)
      (taken : TakesEffect (Inserts name need) old.waiting new) where
    made_becomes : Becomes old.waiting.side new.side name (Some Fresh)
    made_becomes = after (Inserts name need) old new was.0 tt taken

    made_kept : (only : ℕ) → OwesNoWakeUnfair old.own.free only old.waiting.side → OwesNoWakeUnfair old.own.free only new.side
    made_kept only owed =
        unfair_still old.waiting.side new.side old.own.free old.own.free only owed (omega arith)
        (same_told old.waiting.side new.side name (Some Fresh) made_becomes refl (ap is_told taken.0))
        (still_registered old.waiting.side new.side name (Some Fresh) made_becomes (λ h. absurd (both_ways false refl h)))

    -- the first future that needs anything
    made_first : (only : ℕ) → old.own.asked ≡ NoNeed → OwesNoWakeUnfair old.own.free only new.side
    made_first only none = record {
      told = [];
      are = record {
        once = tt;
        all = λ q.
            same_told old.waiting.side new.side name (Some Fresh) made_becomes refl (ap is_told taken.0) q
            ∙ false_from_ne_true _ (λ at. none_waits old q was.0 none (told_waits (phase_at old q) at));
      };
      enough = λ q is.
          absurd (none_waits old q was.0 none (registered_waits true (phase_at old q)
          (still_registered old.waiting.side new.side name (Some Fresh) made_becomes (λ h. absurd (both_ways false refl h)) q is)));
    }

    made_owes : (asked : Asked) (n only : ℕ) → old.own.asked ≡ asked → old.own.is_fair ≡ false → asked_after asked n ≡ OneNeed only →
        OwesNoWakeUnfair old.own.free only new.side
    made_owes asked zero only here is one = made_kept only (owes_unfair old only is (here ∙ one) was.1)
    made_owes NoNeed (suc n) only here is one = made_first only here
    made_owes (OneNeed m) (suc n) only here is one = same (m == suc n) here is one
      where
        mixed : MixedNeeds ≡ OneNeed only → ⊥
        mixed e = cc

        same : (b : Bool) → old.own.asked ≡ OneNeed m → old.own.is_fair ≡ false →
            (if b then OneNeed m else MixedNeeds) ≡ OneNeed only → OwesNoWakeUnfair old.own.free only new.side
        same true here is one = made_kept only (owes_unfair old only is (here ∙ one) was.1)
        same false here is one = absurd (mixed one)
    made_owes MixedNeeds (suc n) only here is one = absurd (mixed one)
      where
        mixed : MixedNeeds ≡ OneNeed only → ⊥
        mixed e = cc

    made_holds : Holds (at_own (record old.own { asked = asked_after old.own.asked need }) new)
    made_holds = (
      sound_inserted old new name need was.0 taken made_becomes,
      owes_cases old.own.is_fair (asked_after old.own.asked need) old.own.free new.side
          (λ fair. fair_changed old.waiting.side new.side name (Some Fresh) old.own.free (owes_fair old fair was.1)
          (unqueued old name was.0 (ap (is_queued old.own.is_fair) taken.0))
          (queue_to new _ taken.1)
          (record { becomes = made_becomes; needs = λ q ne. other_need_inserted name need old.waiting new taken q ne }) refl)
          (λ only unfair one. made_owes old.own.asked need only refl unfair one),
    )

  pub make_holds : (old new : SemaphoreMachine W) (name need : ℕ) → Holds old → Makes old need name new → Holds new
  make_holds old new name need was did =
      to_new (record old.own { asked = asked_after old.own.asked need }) new did.0 (made_holds old name need new.waiting was did.1)

  -- A cancel.
  module _ (old : SemaphoreMachine W) (name : ℕ) (mid : Waiting ℕ W) (was : Holds old)
      (taken : TakesEffect (Removes name) old.waiting mid) where
    gone : Becomes old.waiting.side mid.side name None
    gone = after (Removes name) old mid was.0 tt taken

    gone_needs : (q : ℕ) → q ≢ name → need_of mid.side q ≡ need_of old.waiting.side q
    gone_needs q ne = other_need_removed name old.waiting mid taken q ne

    gone_queue : mid.side.queue ≡ without name old.waiting.side.queue
    gone_queue = queue_to mid _ taken.1

    -- that a telling round follows
    cancel_told : (new : SemaphoreMachine W) → Tells (at_own old.own mid) new → Holds new
    cancel_told new did =
        holds_told (at_own old.own mid) new (sound_removed old mid name was.0 taken gone) did
        (λ fair.
        let owed = owes_fair old fair was.1 in (
          without name owed.told,
          without name owed.rest,
          front_without old.waiting.side mid.side name None owed.told owed.rest owed.front gone refl gone_queue,
          rw (less_told old.waiting.side mid.side name owed.told gone_needs)
              (omega (arith, owed.fits, sum_without (need_of old.waiting.side) name owed.told)),
        ))
        (λ only unfair one.
        let owed = owes_unfair old only unfair one was.1 in
        (without name owed.told, told_without old.waiting.side mid.side name None owed.told owed.are gone refl))

    -- a cancel that no round follows is of one that was not told, and in a fair semaphore not queued
    quiet_cancel : (is_fair : Bool) (phase : Option (Phase W)) → cancel_tells is_fair phase ≡ false →
        (is_told phase ≡ false) × (is_fair ≡ true → is_queued is_fair phase ≡ false)
    quiet_cancel is_fair (Some (Registered w)) h = (refl, λ is. absurd (both_ways _ h is))
    quiet_cancel is_fair (Some Told) h = absurd (both_ways true h refl)
    quiet_cancel is_fair phase h = (refl, λ is. refl)

    cancel_quiet : cancel_tells old.own.is_fair (phase_at old name) ≡ false → Holds (at_own old.own mid)
    cancel_quiet is =
        let quiet = quiet_cancel old.own.is_fair (phase_at old name) is in
        quietly old old.own mid name None was.1 (sound_removed old mid name was.0 taken gone) refl refl
        (record { becomes = gone; needs = gone_needs }) refl quiet.0 (λ h. absurd (both_ways false refl h))
        (λ fair. let off = unqueued old name was.0 (quiet.1 fair) in
        (refl, gone_queue ∙ without_absent name old.waiting.side.queue off, off)) (omega arith)

  pub cancel_holds : (old new : SemaphoreMachine W) (name : ℕ) → Holds old → Cancels old name new → Holds new
  cancel_holds old new name was did = each (cancel_tells old.own.is_fair (phase_at old name)) refl did
    where
      each : (tells : Bool) → cancel_tells old.own.is_fair (phase_at old name) ≡ tells →
          StepsTelling tells old old.own (Removes name) new → Holds new
      each true is did = cancel_told old name did.0 was did.1 new did.2
      each false is did = to_new old.own new did.0 (cancel_quiet old name new.waiting was did.1 is)

  -- A poll.
  module _ (old : SemaphoreMachine W) (name : ℕ) (waker : W) (new : SemaphoreMachine W) (was : Holds old) where
    abbrev need : ℕ
    need = need_of old.waiting.side name

    -- One that was not told is granted what it needs, and was not queued in a fair semaphore.
    fresh_granted : phase_at old name ≡ Some Fresh → can_take old.own old.waiting.side.queue need ≡ true →
        StepsTo old (granted old.own need) (Ends name) new → Holds new
    fresh_granted stood takes did =
        let permits = granted old.own need in
        let b = after (Ends name) old new.waiting was.0 (untold old.own.is_fair (phase_at old name) (ap is_told stood)) did.1 in
        let needs = same_need (Ends name) old.waiting new.waiting did.1 (λ q. refl) in
        let fits = taken_are_free old.own old.waiting.side.queue need takes in
        let sound = sound_phase old permits new.waiting name (Some Ended) was.0 refl refl
        (waiters_after (Ends name) old new.waiting was.0 (untold old.own.is_fair (phase_at old name) (ap is_told stood)) did.1)
        (counted_still old.own.free old.own.held need was.0.counted fits) b needs (λ at. absurd (both_ways false refl at)) in
        let queue : new.waiting.side.queue ≡ old.waiting.side.queue = queue_to new.waiting _ did.1.1 in
        let told = same_told old.waiting.side new.waiting.side name (Some Ended) b refl (ap is_told stood) in
        to_new permits new did.0 (holds_by old permits new.waiting was.1 sound refl refl
        (λ fair owed. elim (taken_fairly old.own old.waiting.side.queue need fair takes) [
          | inl empty ↦ fair_empty old.waiting.side new.waiting.side old.own.free permits.free owed empty queue told
          | inr none ↦ subst (λ free. OwesNoWakeFair free new.waiting.side) (less_none old.own.free need none)
              (fair_still old.waiting.side new.waiting.side old.own.free owed queue told (λ q at. needs q))
        ])
        (λ only unfair one owed. unfair_still old.waiting.side new.waiting.side old.own.free permits.free only owed (omega arith) told
        (still_registered old.waiting.side new.waiting.side name (Some Ended) b (λ h. absurd (both_ways false refl h)))))

    fresh_registered : phase_at old name ≡ Some Fresh → can_take old.own old.waiting.side.queue need ≡ false →
        StepsTo old old.own (Registers name waker) new → Holds new
    fresh_registered stood lacks did =
        let allows = untold old.own.is_fair (phase_at old name) (ap is_told stood) in
        let b = after (Registers name waker) old new.waiting was.0 allows did.1 in
        let needs = same_need (Registers name waker) old.waiting new.waiting did.1 (λ q. refl) in
        let some = refused_needs old.own old.waiting.side.queue need lacks in
        let sound = sound_phase old old.own new.waiting name (Some (Registered waker)) was.0 refl refl
        (waiters_after (Registers name waker) old new.waiting was.0 allows did.1) was.0.counted b needs (λ at. some) in
        to_new old.own new did.0 (holds_by old old.own new.waiting was.1 sound refl refl
        (λ fair owed. fair_registered old new.waiting.side name waker fair owed
        (unqueued old name was.0 (ap (is_queued old.own.is_fair) stood)) b (queue_to new.waiting _ did.1.1) needs lacks)
        (λ only unfair one owed. unfair_registered old.waiting.side new.waiting.side old.own.free only name waker owed b
        (subst (λ n. old.own.free < n) (one_need old only name was.0 one some)
        (refused_unfairly old.own old.waiting.side.queue need unfair lacks))))

    -- a registered one of an unfair semaphore
    registered_granted : (before : W) → phase_at old name ≡ Some (Registered before) → old.own.is_fair ≡ false → need ≤ old.own.free →
        StepsTo old (granted old.own need) (EndsPlaced name) new → Holds new
    registered_granted before stood unfair fits did =
        let permits = granted old.own need in
        let needs = same_need (EndsPlaced name) old.waiting new.waiting did.1 (λ q. refl) in
        to_new permits new did.0 (quietly old permits new.waiting name (Some Ended) was.1
        (sound_ended old new.waiting name was.0 did.1 fits) refl refl
        (record { becomes = after (EndsPlaced name) old new.waiting was.0 tt did.1; needs = λ q ne. needs q }) refl
        (ap is_told stood) (λ h. absurd (both_ways false refl h))
        (λ fair. absurd (both_ways _ unfair fair)) (omega arith))

    registered_stays : (before : W) → phase_at old name ≡ Some (Registered before) → StepsTo old old.own (KeepsWaiting name waker) new →
        Holds new
    registered_stays before stood did =
        let b = after (KeepsWaiting name waker) old new.waiting was.0 tt did.1 in
        let needs = same_need (KeepsWaiting name waker) old.waiting new.waiting did.1 (λ q. refl) in
        let sound = sound_phase old old.own new.waiting name (Some (Registered waker)) was.0 refl refl
        (waiters_after (KeepsWaiting name waker) old new.waiting was.0 tt did.1) was.0.counted b needs
        (λ at. was.0.needs name (ap (is_queued true) stood)) in
        let told = same_told old.waiting.side new.waiting.side name (Some (Registered waker)) b refl (ap is_told stood) in
        to_new old.own new did.0 (holds_by old old.own new.waiting was.1 sound refl refl
        (λ fair owed. fair_still old.waiting.side new.waiting.side old.own.free owed (queue_to new.waiting _ did.1.1) told
        (λ q at. needs q))
        (λ only unfair one owed. unfair_still old.waiting.side new.waiting.side old.own.free old.own.free only owed (omega arith) told
        (still_registered old.waiting.side new.waiting.side name (Some (Registered waker)) b (λ h. ap is_registered stood))))

    -- a told one

    told_granted : (is_fair : Bool) → old.own.is_fair ≡ is_fair → phase_at old name ≡ Some Told → need ≤ old.own.free →
        StepsTelling is_fair old (granted old.own need) (EndsPlaced name) new → Holds new
    told_granted true fair stood fits did =
        let mid = did.0 in
        let b = after (EndsPlaced name) old mid was.0 tt did.1 in
        let needs = same_need (EndsPlaced name) old.waiting mid did.1 (λ q. refl) in
        let owed = owes_fair old fair was.1 in
        let all = told_fits old.waiting.side name old.own.free owed.told owed.rest owed.front
        (front_once old.waiting.side owed.told owed.rest owed.front was.0.waiters.ordered.once) owed.fits (ap is_told stood) in
        holds_told (at_own (granted old.own need) mid) new (sound_ended old mid name was.0 did.1 fits) did.2
        (λ is. (
          without name owed.told,
          without name owed.rest,
          front_without old.waiting.side mid.side name (Some Ended) owed.told owed.rest owed.front b refl (queue_to mid _ did.1.1),
          rw (less_told old.waiting.side mid.side name owed.told (λ q ne. needs q)) (omega (arith, all)),
        ))
        (λ only unfair one. absurd (both_ways _ unfair fair))
    told_granted false unfair stood fits did =
        let permits = granted old.own need in
        let b = after (EndsPlaced name) old new.waiting was.0 tt did.1 in
        to_new permits new did.0 (holds_by old permits new.waiting was.1 (sound_ended old new.waiting name was.0 did.1 fits) refl refl
        (λ fair owed. absurd (both_ways _ unfair fair))
        (λ only is one owed.
        let same : need ≡ only = one_need old only name was.0 one (was.0.needs name (ap (is_queued true) stood)) in
        subst (λ n. OwesNoWakeUnfair (old.own.free - n) only new.waiting.side) (sym same)
        (unfair_told_granted old.waiting.side new.waiting.side old.own.free only name (Some Ended) owed b refl refl
        (subst (λ n. n ≤ old.own.free) same fits))))

    told_registered : phase_at old name ≡ Some Told → nat_le need old.own.free ≡ false → old.own.is_fair ≡ false →
        StepsTo old old.own (Registers name waker) new → Holds new
    told_registered stood lacks unfair did =
        let allows = untold_if_leaving old.own.is_fair (phase_at old name) unfair in
        let b = after (Registers name waker) old new.waiting was.0 allows did.1 in
        let needs = same_need (Registers name waker) old.waiting new.waiting did.1 (λ q. refl) in
        let over : old.own.free < need = leb-false need old.own.free lacks in
        let some = was.0.needs name (ap (is_queued true) stood) in
        let sound = sound_phase old old.own new.waiting name (Some (Registered waker)) was.0 refl refl
        (waiters_after (Registers name waker) old new.waiting was.0 allows did.1) was.0.counted b needs (λ at. some) in
        to_new old.own new did.0 (holds_by old old.own new.waiting was.1 sound refl refl
        (λ fair owed. absurd (both_ways _ unfair fair))
        (λ only is one owed. unfair_registered old.waiting.side new.waiting.side old.own.free only name waker owed b
        (subst (λ n. old.own.free < n) (one_need old only name was.0 one some) over)))

    poll_as : (phase : Option (Phase W)) (granting : Bool) (answer : Poll ℕ) → phase_at old name ≡ phase →
        is_granted phase old need ≡ granting → PollsAs phase granting need old name waker answer new → Holds new
    poll_as (Some Fresh) true answer stood takes did = fresh_granted stood takes did.1
    poll_as (Some Fresh) false answer stood lacks did = fresh_registered stood lacks did.1
    poll_as (Some (Registered before)) true answer stood takes did =
        let parts = and_parts (not old.own.is_fair) _ takes in
        registered_granted before stood (not-true old.own.is_fair parts.0) (leb-true need old.own.free parts.1) did.1
    poll_as (Some (Registered before)) false answer stood lacks did = registered_stays before stood did.1
    poll_as (Some Told) true answer stood takes did =
        told_granted old.own.is_fair refl stood (leb-true need old.own.free takes) did.1
    poll_as (Some Told) false answer stood lacks did = told_registered stood lacks did.0 did.2
    poll_as phase granting answer stood is did = absurd did

  pub poll_holds : (old : SemaphoreMachine W) (name : ℕ) (waker : W) (answer : Poll ℕ) (new : SemaphoreMachine W) → Holds old →
      Polls old name waker answer new → Holds new
  poll_holds old name waker answer new was did =
      poll_as old name waker new was (phase_at old name) (is_granted (phase_at old name) old (need_of old.waiting.side name)) answer refl
      refl did
