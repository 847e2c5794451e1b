-- What the runs of a mutex keep.
use Rattle.std.specs.Prelude.{◌≡◌, Bool, true, Option, Some, None, Ok, Err, List, [], ◌∷◌}
use Rattle.std.specs.Prelude.{refl}
use Rattle.std.proofs.Common.{sym, ◌∙◌, ap, subst}
use Rattle.futures.specs.declared.task.Poll.TheVariants as polled
use Rattle.fi_parts.specs.declared.errors.Fault.TheVariants.{NotHeld}
use Rattle.fi_parts.specs.Waiting.{Waiting}
use Rattle.fi_parts.proofs.WakerHistories.{line_keeps_wakers, kept_at_first}
use Rattle.fi_locks.specs.Mutex.{MutexMachine, MutexData, queue_of, IsSound, OwesNoWake}
use Rattle.fi_locks.specs.MutexLaws as laws
use Rattle.fi_locks.specs.MutexLaws.{MutexLine, rules}
use Rattle.fi_locks.proofs.MutexSteps as steps
use Rattle.fi_run.specs.declared.answer.Answer.{Answer}
use Rattle.fi_run.specs.declared.answer.Answer.TheVariants.{Made, Pending, Item, Nothing, Done, Flag, Woken, Back, Refused}
use Rattle.fi_run.specs.declared.mutex.MutexCall.{MutexCall}
use Rattle.fi_run.specs.declared.mutex.MutexCall.TheVariants.{Lock, Poll, Cancel, TryLock, Unlock, IsLocked, NextWake}
use Rattle.fi_run.specs.Outgoing.{TakesOldest, machine_outgoing}
use Rattle.fi_run.specs.OutgoingLaws.{pops_oldest}
use Rattle.fi_run.specs.WakerChanges.{on_wakers}
use Rattle.fi_run.specs.Mutex.{Opens, Step}
use Rattle.fi_run.specs.MutexHistory.{value_step, IsGrantOf, waiting_step, IsInTurn}
use Rattle.fi_run.specs.MutexHistory.{subject, HistoryHolds}

module _ {T W : Type 0} where
  -- Each step is a line of the table.
  is_line : (old : MutexMachine T W) (call : MutexCall T W) (answer : Answer T W) (new : MutexMachine T W) →
      IsSound old × OwesNoWake old → Step old call answer new → MutexLine (on_wakers (subject call) answer) old new
  is_line old call (Refused fault) new was did = laws.unchanged_well old new was did.1
  is_line old Lock (Made slot) new was did = laws.made old new was slot.0 did
  is_line old (Poll slot waker) Pending new was did = laws.polled old slot.0 waker polled.Pending new was did
  is_line old (Poll slot waker) (Item value) new was did = laws.polled old slot.0 waker (polled.Ready value) new was did
  is_line old (Cancel slot) Done new was did = laws.cancelled old new was slot.0 did
  is_line old TryLock (Item value) new was did = laws.tried old new was (Some value) did
  is_line old TryLock Nothing new was did = laws.tried old new was None did
  is_line old (Unlock value) Done new was did = laws.unlocked old new was value (Ok tt) did
  is_line old (Unlock value) (Back given NotHeld) new was did = laws.unlocked old new was value (Err value) did.1
  is_line old IsLocked (Flag flag) new was did = laws.unchanged_well old new was did.1
  is_line old NextWake (Woken waker) new was did = laws.woken old new was waker did
  is_line old call answer new was did = absurd did

  pub mutex_keeps : (old : MutexMachine T W) (call : MutexCall T W) (answer : Answer T W) (new : MutexMachine T W) →
      IsSound old → OwesNoWake old → Step old call answer new → IsSound new × OwesNoWake new
  mutex_keeps old call answer new sound no_wake did =
      laws.stays_well old new (is_line old call answer new (sound, no_wake) did) (sound, no_wake)

  pub mutex_starts : (opening : T × Bool) (state : MutexMachine T W) → Opens opening state → IsSound state × OwesNoWake state
  mutex_starts opening state opens =
      subst (λ (s : MutexMachine T W). IsSound s × OwesNoWake s) (sym opens) (laws.opened_well opening.0 opening.1)

  module _ (old new : MutexMachine T W) where
    abbrev value_in : MutexData T → Option T
    value_in own = own.value

    same_value : new.own ≡ old.own → old.own.value ≡ new.own.value
    same_value own = sym (ap value_in own)

    unchanged_value : new ≡ old → old.own.value ≡ new.own.value
    unchanged_value same = sym (ap (λ (m : MutexMachine T W). m.own.value) same)

    unchanged_queue : new ≡ old → queue_of old ≡ queue_of new
    unchanged_queue same = sym (ap (λ (m : MutexMachine T W). queue_of m) same)

    -- the value after a step
    value_is : (call : MutexCall T W) (answer : Answer T W) → Step old call answer new →
        value_step call answer old.own.value ≡ new.own.value
    value_is call (Refused fault) did = unchanged_value did.1
    value_is Lock (Made slot) did = same_value did.0
    value_is (Poll slot waker) Pending did = same_value (steps.pending_own old new slot.0 waker did)
    value_is (Poll slot waker) (Item value) did = sym (ap value_in (steps.granted old new slot.0 waker value did).own)
    value_is (Cancel slot) Done did = same_value (laws.cancel_keeps_own old new slot.0 did)
    value_is TryLock (Item value) did = sym (ap value_in (steps.taken old new value did).1)
    value_is TryLock Nothing did = same_value (steps.nothing_taken old new did)
    value_is (Unlock value) Done did = sym (ap value_in (steps.put_back old new value did).1)
    value_is (Unlock value) (Back given NotHeld) did = same_value (steps.handed_back old new value value did.1).1
    value_is IsLocked (Flag flag) did = unchanged_value did.1
    value_is NextWake (Woken waker) did = same_value did.0
    value_is call answer did = absurd did

    -- a grant hands out the value that is there
    grants_value : (call : MutexCall T W) (answer : Answer T W) → Step old call answer new → IsGrantOf old.own.value call answer
    grants_value call (Refused fault) did = tt
    grants_value (Poll slot waker) (Item value) did = (steps.granted old new slot.0 waker value did).there
    grants_value TryLock (Item value) did = (steps.taken old new value did).0
    grants_value (Unlock value) Done did = (steps.put_back old new value did).0
    grants_value (Unlock value) (Back given NotHeld) did = (steps.handed_back old new value value did.1).0
    grants_value Lock (Made slot) did = tt
    grants_value (Poll slot waker) Pending did = tt
    grants_value (Cancel slot) Done did = tt
    grants_value TryLock Nothing did = tt
    grants_value IsLocked (Flag flag) did = tt
    grants_value NextWake (Woken waker) did = tt
    grants_value call answer did = absurd did

    module _ (was : IsSound old × OwesNoWake old) (fair : old.own.is_fair ≡ true) where
      -- who waits after a step of a fair mutex
      queue_is : (call : MutexCall T W) (answer : Answer T W) → Step old call answer new →
          waiting_step call answer (queue_of old) ≡ queue_of new
      queue_is call (Refused fault) did = unchanged_queue did.1
      queue_is Lock (Made slot) did = sym (ap (λ (w : Waiting (Unit {0}) W). w.side.queue) did.1.1)
      queue_is (Poll slot waker) Pending did = sym (steps.pending_queue old new slot.0 waker was.0 fair did)
      queue_is (Poll slot waker) (Item value) did = sym (steps.granted old new slot.0 waker value did).queue
      queue_is (Cancel slot) Done did = sym (steps.cancelled_queue old new slot.0 fair did)
      queue_is TryLock (Item value) did = sym (steps.tried_queue old new (Some value) did)
      queue_is TryLock Nothing did = sym (steps.tried_queue old new None did)
      queue_is (Unlock value) Done did = sym (steps.unlocked_queue old new value (Ok tt) fair did)
      queue_is (Unlock value) (Back given NotHeld) did = sym (steps.unlocked_queue old new value (Err value) fair did.1)
      queue_is IsLocked (Flag flag) did = unchanged_queue did.1
      queue_is NextWake (Woken waker) did = sym (ap (λ (w : Waiting (Unit {0}) W). w.side.queue) did.1.1)
      queue_is call answer did = absurd did

      -- a grant is in turn
      in_turn : (call : MutexCall T W) (answer : Answer T W) → Step old call answer new → IsInTurn (queue_of old) call answer
      in_turn call (Refused fault) did = tt
      in_turn (Poll slot waker) (Item value) did = steps.granted_in_turn old new slot.0 waker was fair value did
      in_turn TryLock (Item value) did = steps.taken_alone old new value fair did
      in_turn Lock (Made slot) did = tt
      in_turn (Poll slot waker) Pending did = tt
      in_turn (Cancel slot) Done did = tt
      in_turn TryLock Nothing did = tt
      in_turn (Unlock value) Done did = tt
      in_turn (Unlock value) (Back given NotHeld) did = tt
      in_turn IsLocked (Flag flag) did = tt
      in_turn NextWake (Woken waker) did = tt
      in_turn call answer did = absurd did

  pub mutex_history_initial : (state : MutexMachine T W) → HistoryHolds state [] state
  mutex_history_initial state = record {
    value = refl;
    grants = tt;
    is_fair = refl;
    waiting = λ fair. refl;
    turns = λ fair. tt;
    wakers = kept_at_first {E = MutexCall T W × Answer T W} (λ entry. on_wakers (subject entry.0) entry.1) state.waiting;
  }

  pub mutex_history_preserved : (first : MutexMachine T W) (history : List (MutexCall T W × Answer T W)) (old : MutexMachine T W)
      (call : MutexCall T W) (answer : Answer T W) (new : MutexMachine T W) →
      IsSound old → OwesNoWake old → HistoryHolds first history old → Step old call answer new →
      HistoryHolds first ((call, answer) ∷ history) new
  mutex_history_preserved first history old call answer new sound no_wake was did =
      let is = is_line old call answer new (sound, no_wake) did in
      record {
        value = ap (value_step call answer) was.value ∙ value_is old new call answer did;
        grants =
            (subst (λ there. IsGrantOf there call answer) (sym was.value) (grants_value old new call answer did), was.grants);
        is_fair = is.is_fair ∙ was.is_fair;
        waiting = λ fair. ap (waiting_step call answer) (was.waiting fair)
            ∙ queue_is old new (sound, no_wake) (was.is_fair ∙ fair) call answer did;
        turns = λ fair. (
          subst (λ waiting. IsInTurn waiting call answer) (sym (was.waiting fair))
              (in_turn old new (sound, no_wake) (was.is_fair ∙ fair) call answer did),
          was.turns fair,
        );
        wakers = line_keeps_wakers (rules old.own.is_fair) (λ entry. on_wakers (subject entry.0) entry.1) first.waiting history
            (call, answer) old new sound is.line was.wakers;
      }

pub mutex_takes_oldest : {T W : Type 0} (old : MutexMachine T W) (answer : Answer T W) (new : MutexMachine T W)
    → Step old NextWake answer new → TakesOldest machine_outgoing (λ waker. Woken waker) old answer new
mutex_takes_oldest old (Woken waker) new did = pops_oldest (λ found. Woken found) old waker new did
mutex_takes_oldest old (Refused fault) new did = absurd did.0
mutex_takes_oldest old answer new did = absurd did
