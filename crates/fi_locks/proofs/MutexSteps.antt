-- What each call on a mutex does to its value and its queue, and whose turn a grant is.
use Rattle.std.specs.Prelude.{◌≡◌, ◌&&◌, ◌⊎◌, not, ℕ, Bool, true, false, if◌then◌else◌, Option, Some, None, is_some}
use Rattle.std.specs.Prelude.{Result, Ok, Err, List, [], ◌∷◌, ◌++◌, refl}
use Rattle.std.proofs.Common.{ap, sym, ◌∙◌, inl, inr}
use Rattle.std.proofs.lemmas.Bool.{both_ways}
use Rattle.futures.specs.declared.task.Poll.TheVariants.{Ready, Pending}
use Rattle.fi_parts.specs.declared.phase.Phase.{Phase}
use Rattle.fi_parts.specs.declared.phase.Phase.TheVariants.{Fresh, Registered, Told}
use Rattle.fi_parts.specs.Effects.{WaiterEffect, TakesEffect, first_of}
use Rattle.fi_parts.specs.Effects.WaiterEffect.{Registers, KeepsWaiting, NotifiesFront}
use Rattle.fi_parts.specs.Machine.{phase_at, StepsTo}
use Rattle.fi_parts.specs.Order.{holds, without}
use Rattle.fi_parts.specs.Places.{is_told}
use Rattle.fi_parts.specs.Waiting.{Waiting, is_queued}
use Rattle.fi_parts.proofs.PairsWithin.{if_true, if_false}
use Rattle.fi_locks.specs.Mutex.{MutexMachine, held, freed, is_empty, is_free, queue_of, for_newcomer, for_registered, GrantsOr, PollsAs}
use Rattle.fi_locks.specs.Mutex.{Polls, CancelsAs, Cancels, TriesFor, TriesLock, UnlocksFrom, Unlocks, IsSound}
use Rattle.fi_locks.specs.MutexLaws.{IsWell, some_for_newcomer, some_for_registered, told_is}

module _ {T : Type 0} where
  value_for_newcomer : (is_fair : Bool) (queue : List ℕ) (value : Option T) (given : T) →
      (if is_fair && not (is_empty queue) then None else value) ≡ Some given → value ≡ Some given
  value_for_newcomer true [] value given is = is
  value_for_newcomer true (x ∷ xs) value given is = absurd (cc)
  value_for_newcomer false queue value given is = is

  value_for_registered : (is_fair : Bool) (value : Option T) (given : T) → (if is_fair then None else value) ≡ Some given →
      value ≡ Some given
  value_for_registered true value given is = absurd (cc)
  value_for_registered false value given is = is

-- This value was granted to the future of this name, if one had it.
pub record Granted {T W : Type 0} (old new : MutexMachine T W) (name : ℕ) (value : T) : Type 0 where
  pub there : old.own.value ≡ Some value
  pub own : new.own ≡ held old.own
  pub queue : queue_of new ≡ without name (queue_of old)

module _ {T W : Type 0} (old new : MutexMachine T W) where
  abbrev queue_in : Waiting (Unit {0}) W → List ℕ
  queue_in waiting = waiting.side.queue

  -- in a fair mutex those who are told keep their places
  queue_told : (mid : Waiting (Unit {0}) W) (front : List ℕ) → old.own.is_fair ≡ true →
      TakesEffect (NotifiesFront old.own.is_fair front) mid new.waiting → queue_of new ≡ mid.side.queue
  queue_told mid front fair did =
      ap queue_in did.2 ∙ if_true old.own.is_fair mid.side.queue did.0 fair

  module _ (name : ℕ) (waker : W) where
    granted_from : (waits : WaiterEffect (Unit {0}) W) (given : Option T) (value : T) →
        ((v : T) → given ≡ Some v → old.own.value ≡ Some v) → GrantsOr waits given old name (Ready value) new →
        Granted old new name value
    granted_from waits (Some v) value there did =
        let same : v ≡ value = cc did.0 in
        record { there = there v refl ∙ ap (λ (x : T). Some x) same; own = did.1.0; queue = ap queue_in did.1.1.1 }
    granted_from waits None value there did = absurd (cc did.0)

    granted_as : (phase : Option (Phase W)) (value : T) → PollsAs phase old name waker (Ready value) new →
        Granted old new name value
    granted_as (Some Fresh) value did =
        granted_from (Registers name waker) (for_newcomer old) value
        (value_for_newcomer old.own.is_fair (queue_of old) old.own.value) did
    granted_as (Some (Registered before)) value did =
        granted_from (KeepsWaiting name waker) (for_registered old) value (value_for_registered old.own.is_fair old.own.value) did
    granted_as (Some Told) value did = granted_from (Registers name waker) old.own.value value (λ v is. is) did.1
    granted_as phase value did = absurd did

    pub granted : (value : T) → Polls old name waker (Ready value) new → Granted old new name value
    granted value did = granted_as (phase_at old name) value did

    -- A fair mutex is granted to the oldest of its queue, or to a newcomer if nobody is queued.
    module _ (was : IsWell old) (fair : old.own.is_fair ≡ true) (value : T) where
      abbrev InTurn : Type 0
      InTurn = (queue_of old ≡ []) ⊎ (holds name (first_of (queue_of old)) ≡ true)

      newcomer_in_turn : (given : Option T) → for_newcomer old ≡ given →
          GrantsOr (Registers name waker) given old name (Ready value) new →
          InTurn
      newcomer_in_turn (Some v) for_it did = inl (some_for_newcomer old.own.is_fair (queue_of old) old.own.value v for_it fair)
      newcomer_in_turn None for_it did = absurd (cc did.0)

      registered_in_turn : (given : Option T) → for_registered old ≡ given →
          GrantsOr (KeepsWaiting name waker) given old name (Ready value) new → InTurn
      registered_in_turn (Some v) for_it did = absurd (some_for_registered old.own.is_fair old.own.value v for_it fair)
      registered_in_turn None for_it did = absurd (cc did.0)

      in_turn_as : (phase : Option (Phase W)) → phase_at old name ≡ phase → PollsAs phase old name waker (Ready value) new →
          InTurn
      in_turn_as (Some Fresh) is did = newcomer_in_turn (for_newcomer old) refl did
      in_turn_as (Some (Registered before)) is did = registered_in_turn (for_registered old) refl did
      in_turn_as (Some Told) is did = inr (told_is old was name (ap is_told is) fair).1
      in_turn_as phase is did = absurd did

      pub granted_in_turn : Polls old name waker (Ready value) new → InTurn
      granted_in_turn did = in_turn_as (phase_at old name) refl did

    -- a pending poll

    pending_from : (waits : WaiterEffect (Unit {0}) W) (given : Option T) → GrantsOr waits given old name Pending new →
        StepsTo old old.own waits new
    pending_from waits (Some v) did = absurd (cc did.0)
    pending_from waits None did = did.1

    pending_own_as : (phase : Option (Phase W)) → PollsAs phase old name waker Pending new → new.own ≡ old.own
    pending_own_as (Some Fresh) did = (pending_from (Registers name waker) (for_newcomer old) did).0
    pending_own_as (Some (Registered before)) did = (pending_from (KeepsWaiting name waker) (for_registered old) did).0
    pending_own_as (Some Told) did = (pending_from (Registers name waker) old.own.value did.1).0
    pending_own_as phase did = absurd did

    pub pending_own : Polls old name waker Pending new → new.own ≡ old.own
    pending_own did = pending_own_as (phase_at old name) did

    -- of a fair mutex: who is queued stays so, and another goes to the end of the queue
    module _ (sound : IsSound old) (fair : old.own.is_fair ≡ true) where
      abbrev Queued : Type 0
      Queued = queue_of new ≡ (if holds name (queue_of old) then queue_of old else queue_of old ++ name ∷ [])

      queued_if : (phase : Option (Phase W)) → phase_at old name ≡ phase →
          holds name (queue_of old) ≡ is_queued old.own.is_fair phase
      queued_if phase is = sound.ordered.queued name ∙ ap (is_queued old.own.is_fair) is

      held_and_told : (given : Option T) → old.own.value ≡ given → (old.own.is_fair ≡ true → is_free old ≡ true) →
          GrantsOr (Registers name waker) given old name Pending new → ⊥
      held_and_told (Some v) is free did = cc did.0
      held_and_told None is free did = both_ways (is_free old) (ap is_some is) (free fair)

      pending_as : (phase : Option (Phase W)) → phase_at old name ≡ phase → PollsAs phase old name waker Pending new → Queued
      pending_as (Some Fresh) is did =
          ap queue_in (pending_from (Registers name waker) (for_newcomer old) did).1.1
          ∙ sym (if_false (holds name (queue_of old)) (queue_of old) (queue_of old ++ name ∷ []) (queued_if (Some Fresh) is))
      pending_as (Some (Registered before)) is did =
          ap queue_in (pending_from (KeepsWaiting name waker) (for_registered old) did).1.1
          ∙ sym (if_true (holds name (queue_of old)) (queue_of old) (queue_of old ++ name ∷ []) (queued_if (Some
          (Registered before)) is))
      pending_as (Some Told) is did = absurd (held_and_told old.own.value refl did.0 did.1)
      pending_as phase is did = absurd did

      pub pending_queue : Polls old name waker Pending new → Queued
      pending_queue did = pending_as (phase_at old name) refl did

  cancelled_as : (name : ℕ) (phase : Option (Phase W)) → old.own.is_fair ≡ true → CancelsAs phase old name new →
      queue_of new ≡ without name (queue_of old)
  cancelled_as name (Some Told) fair did =
      queue_told did.1.0 (first_of (without name (queue_of old))) fair did.1.2 ∙ ap queue_in did.1.1.1
  cancelled_as name phase fair did = ap queue_in did.1.1

  pub cancelled_queue : (name : ℕ) → old.own.is_fair ≡ true → Cancels old name new → queue_of new ≡ without name (queue_of old)
  cancelled_queue name fair did = cancelled_as name (phase_at old name) fair did

  -- a lock that was tried

  taken_from : (given : Option T) (value : T) → for_newcomer old ≡ given → TriesFor given old (Some value) new →
      (old.own.value ≡ Some value) × (new.own ≡ held old.own)
  taken_from (Some v) value is did =
      let same : v ≡ value = cc did.0 in (
        value_for_newcomer old.own.is_fair (queue_of old) old.own.value v is ∙ ap (λ (x : T). Some x) same,
        did.1.0,
      )
  taken_from None value is did = absurd (cc did.0)

  pub taken : (value : T) → TriesLock old (Some value) new → (old.own.value ≡ Some value) × (new.own ≡ held old.own)
  taken value did = taken_from (for_newcomer old) value refl did

  alone_from : (given : Option T) (value : T) → for_newcomer old ≡ given → old.own.is_fair ≡ true →
      TriesFor given old (Some value) new →
      queue_of old ≡ []
  alone_from (Some v) value is fair did = some_for_newcomer old.own.is_fair (queue_of old) old.own.value v is fair
  alone_from None value is fair did = absurd (cc did.0)

  pub taken_alone : (value : T) → old.own.is_fair ≡ true → TriesLock old (Some value) new → queue_of old ≡ []
  taken_alone value fair did = alone_from (for_newcomer old) value refl fair did

  nothing_from : (given : Option T) → TriesFor given old None new → new.own ≡ old.own
  nothing_from (Some v) did = absurd (cc did.0)
  nothing_from None did = did.1.0

  pub nothing_taken : TriesLock old None new → new.own ≡ old.own
  nothing_taken did = nothing_from (for_newcomer old) did

  tried_from : (given answer : Option T) → TriesFor given old answer new → queue_of new ≡ queue_of old
  tried_from (Some v) answer did = ap queue_in did.1.1
  tried_from None answer did = ap queue_in did.1.1

  pub tried_queue : (answer : Option T) → TriesLock old answer new → queue_of new ≡ queue_of old
  tried_queue answer did = tried_from (for_newcomer old) answer did

  -- an unlock

  put_back_from : (there : Option T) (value : T) → old.own.value ≡ there → UnlocksFrom there old value (Ok tt) new →
      (old.own.value ≡ None) × (new.own ≡ freed old.own value)
  put_back_from None value is did = (is, did.1.0)
  put_back_from (Some v) value is did = absurd (cc did.0)

  pub put_back : (value : T) → Unlocks old value (Ok tt) new → (old.own.value ≡ None) × (new.own ≡ freed old.own value)
  put_back value did = put_back_from old.own.value value refl did

  handed_back_from : (there : Option T) (value given : T) → old.own.value ≡ there → UnlocksFrom there old value (Err given) new →
      (is_some old.own.value ≡ true) × (new.own ≡ old.own)
  handed_back_from None value given is did = absurd (cc did.0)
  handed_back_from (Some v) value given is did = (ap is_some is, did.1.0)

  pub handed_back : (value given : T) → Unlocks old value (Err given) new → (is_some old.own.value ≡ true) × (new.own ≡ old.own)
  handed_back value given did = handed_back_from old.own.value value given refl did

  unlocked_from : (there : Option T) (value : T) (answer : Result (Unit {0}) T) → old.own.is_fair ≡ true →
      UnlocksFrom there old value answer new → queue_of new ≡ queue_of old
  unlocked_from None value answer fair did = queue_told old.waiting (first_of (queue_of old)) fair did.1.1
  unlocked_from (Some v) value answer fair did = ap queue_in did.1.1

  pub unlocked_queue : (value : T) (answer : Result (Unit {0}) T) → old.own.is_fair ≡ true → Unlocks old value answer new →
      queue_of new ≡ queue_of old
  unlocked_queue value answer fair did = unlocked_from old.own.value value answer fair did
