use Rattle.std.proofs.Common.{◌≡◌, ◌∙◌, ℕ, true, false, Option, Some, None, Ok, Err, Result, refl, sym, ap, subst, rules, is_some}
use Rattle.futures.specs.declared.task.Poll.{Poll}
use Rattle.futures.specs.declared.task.Poll.TheVariants.{Ready, Pending}
use Rattle.fi_parts.specs.Effects.{WaiterEffect, TakesEffect}
use Rattle.fi_parts.specs.Effects.WaiterEffect.{EndsPlaced, KeepsWaiting, Registers}
use Rattle.fi_parts.specs.Machine.{phase_at, displaced_at}
use Rattle.fi_parts.specs.Polled.{LeavesWhere}
use Rattle.fi_parts.specs.Waiting.{phase_in, phase_of}
use Rattle.fi_parts.specs.declared.errors.Fault.{Fault}
use Rattle.fi_parts.specs.declared.phase.Phase.{Phase}
use Rattle.fi_parts.specs.declared.phase.Phase.TheVariants.{Fresh, Registered, Told, Complete, Ended}
use Rattle.fi_parts.proofs.FiniteMaps.{get-remove_same}
use Rattle.fi_locks.specs.Leaving.{IsLeftIf, PollsAndLeaves}
use Rattle.fi_locks.specs.Mutex.{MutexMachine, GrantsOr, PollsAs, Polls, CancelsAs, Cancels, can_be_polled, for_newcomer, for_registered}
use Rattle.fi_locks.proofs.Leaving.{has_ended}
use Rattle.fi_sync.specs.Waiting as waiting
use Rattle.fi_sync.specs.Waiting.{is_final, CancelsAt, IsTakenOutIf, PollsAt}
use Rattle.fi_sync.proofs.mutex.counted.CountedMutexPollSlotMutexLock.poll_slot.Goals as goal
use Rattle.fi_sync.proofs.mutex.counted.CountedMutexPollSlotMutexLock.poll_slot.Goals.{in-Ok+in-Ready, in-Ok+in-Pending, in-Err-NoFuture}
use Rattle.fi_sync.proofs.mutex.counted.CountedMutexPollSlotMutexLock.poll_slot.Goals.{in-Err-WouldWait+in-Some-1, in-Err-WouldWait+in-None-1}

module _ {T W : Type 0} (old : MutexMachine T W) (name : ℕ) (waker : W) where
  pollable : (phase : Option (Phase W)) (answer : Poll T) (mid : MutexMachine T W) → PollsAs phase old name waker answer mid →
      can_be_polled phase ≡ true
  pollable (Some Fresh) answer mid did = refl
  pollable (Some (Registered before)) answer mid did = refl
  pollable (Some Told) answer mid did = refl
  pollable (Some Complete) answer mid did = absurd did
  pollable (Some Ended) answer mid did = absurd did
  pollable None answer mid did = absurd did

  abbrev IsGrant : Poll T → Type 0
  IsGrant (Ready value) = Unit {0}
  IsGrant Pending = ⊥

  granted : (waits : WaiterEffect (Unit {0}) W) (offered : Option T) (value : T) (mid : MutexMachine T W) →
      GrantsOr waits offered old name (Ready value) mid → TakesEffect (EndsPlaced name) old.waiting mid.waiting
  granted waits (Some found) value mid did = did.1.1
  granted waits None value mid did = absurd (subst IsGrant did.0 tt)

  ends_it : (phase : Option (Phase W)) (value : T) (mid : MutexMachine T W) → PollsAs phase old name waker (Ready value) mid →
      TakesEffect (EndsPlaced name) old.waiting mid.waiting
  ends_it (Some Fresh) value mid did = granted (Registers name waker) (for_newcomer old) value mid did
  ends_it (Some (Registered before)) value mid did = granted (KeepsWaiting name waker) (for_registered old) value mid did
  ends_it (Some Told) value mid did = granted (Registers name waker) old.own.value value mid did.1
  ends_it (Some Complete) value mid did = absurd did
  ends_it (Some Ended) value mid did = absurd did
  ends_it None value mid did = absurd did

-- A future that has ended and was removed can be cancelled no more.
taken_out : {T W : Type 0} (mid new : MutexMachine T W) (name : ℕ) → phase_at mid name ≡ Some Ended → IsLeftIf true Cancels name mid new →
    IsTakenOutIf (CancelsAt Cancels) true name mid new
taken_out mid new name over did left after then =
    let removed = subst (λ phase. CancelsAs phase mid name new) over did.1 in
    let gone : phase_at new name ≡ None = ap (λ w. phase_of w.side name) removed.1.1 ∙ ap phase_in (get-remove_same mid.waiting.side.live name) in
    let nothing = subst (λ phase. LeavesWhere (is_some phase) (Cancels new name after) (displaced_at new name) new left after) gone then in
    rw did.0 (subst (Cancels mid name) (sym nothing.0) did.1, nothing.1 ∙ sym did.2)

module _ {T W : Type 0} (old new : MutexMachine T W) (name : ℕ) (waker : W) where
  abbrev Did : Poll (Result T Fault) → Type 0
  Did answer = waiting.PollsAs true (PollsAt can_be_polled Polls) (CancelsAt Cancels) is_final old name waker answer new

  locks : (value : T) → PollsAndLeaves true Polls Cancels old name waker (Ready value) new → Did (Ready (Ok value))
  locks value did =
      let can = pollable old name waker (phase_at old name) (Ready value) did.0 did.1 in
      let over = has_ended old.waiting did.0.waiting name (ends_it old name waker (phase_at old name) value did.0 did.1) in
      (did.0, rw can did.1, taken_out did.0 new name over did.2)

  waits : PollsAndLeaves true Polls Cancels old name waker Pending new → Did Pending
  waits did = let can = pollable old name waker (phase_at old name) Pending did.0 did.1 in (did.0, rw can did.1, did.2)

  refused : can_be_polled (phase_at old name) ≡ false → new ≡ old → Did (Ready (Err Fault.NoSlot))
  refused off same = (old, rw off (refl, refl), same)

pub returns-clause-polled : goal.returns-clause-polled
returns-clause-polled g c =
    let old = c.self.inside.state in
    let name = c.args.slot.0 in
    let waker = c.args.waker in
    let new = c.poll_and_leave.new.self in elim c.match-poll_and_leave.branch [
      | in-Ok+in-Ready w ↦
          let did = subst (λ answer. PollsAndLeaves true Polls Cancels old name waker answer new) w.in-Ready.is w.in-Ok.ensures.polled in
          rw w.result-is (rw w.self-inside-is (rw (← c.self.view_is) (locks old new name waker w.in-Ready.value did)))
      | in-Ok+in-Pending w ↦
          let did = subst (λ answer. PollsAndLeaves true Polls Cancels old name waker answer new) w.in-Pending.is w.in-Ok.ensures.polled in
          rw w.result-is (rw w.self-inside-is (rw (← c.self.view_is) (waits old new name waker did)))
      | in-Err-NoFuture w ↦
          let off : can_be_polled (phase_at old name) ≡ false = search rules in
          rw w.result-is (rw w.no_slot.ensures (rw w.self-inside-is (rw (← c.self.view_is)
          (refused old new name waker off w.in-Err-NoFuture.ensures.unchanged))))
      | in-Err-WouldWait+in-Some-1 w ↦ rw w.result-is tt
      | in-Err-WouldWait+in-None-1 w ↦ rw w.result-is tt
    ]
