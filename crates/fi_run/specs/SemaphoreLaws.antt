-- What the runs of a semaphore keep.
use Rattle.std.specs.Prelude.{◌≡◌, ◌+◌, ℕ, Bool, true, false, List, [], ◌∷◌, refl}
use Rattle.std.proofs.Common.{sym, ◌∙◌, ap, subst, arith}
use Rattle.futures.specs.declared.task.Poll.TheVariants as polled
use Rattle.fi_parts.specs.MachineTable.{TableLine}
use Rattle.fi_parts.proofs.Machines.{unchanged}
use Rattle.fi_parts.proofs.WakerHistories.{line_keeps_wakers, kept_at_first}
use Rattle.fi_locks.specs.Semaphore.{SemaphoreMachine, need_of, IsSound, OwesNoWake}
use Rattle.fi_locks.specs.SemaphoreLaws as laws
use Rattle.fi_locks.specs.SemaphoreSoundLaws.{rules}
use Rattle.fi_run.specs.declared.answer.Answer.{Answer}
use Rattle.fi_run.specs.declared.answer.Answer.TheVariants.{Made, Pending, Ready, Nothing, Done, Number, Woken, Refused}
use Rattle.fi_run.specs.declared.semaphore.SemaphoreCall.{SemaphoreCall}
use Rattle.fi_run.specs.declared.semaphore.SemaphoreCall.TheVariants.{Acquire, Poll, Cancel, TryAcquire, Release}
use Rattle.fi_run.specs.declared.semaphore.SemaphoreCall.TheVariants.{GiveBack, Disarm}
use Rattle.fi_run.specs.declared.semaphore.SemaphoreCall.TheVariants.{Permits, Held, NextWake}
use Rattle.fi_run.specs.FirstPolls.{order_step}
use Rattle.fi_run.specs.Outgoing.{TakesOldest, machine_outgoing}
use Rattle.fi_run.specs.OutgoingLaws.{pops_oldest}
use Rattle.fi_run.specs.WakerChanges.{on_wakers}
use Rattle.fi_run.specs.Semaphore.{Opens, Step}
use Rattle.fi_run.specs.SemaphoreHistory.{released_by, disarmed_by, released, disarmed, IsFair, subject, effect_of}
use Rattle.fi_run.specs.SemaphoreHistory.{AreToldInOrder, IsInTurn, NewcomersComeLast, HistoryHolds}
use Rattle.fi_run.specs.SemaphoreSteps as steps
use Rattle.fi_run.specs.SemaphoreSteps.{Moves}

-- what a step adds to the sums, a history with it adds
still_add_up : (permits after added taken released disarmed first : ℕ) → permits + disarmed ≡ first + released →
    after + taken ≡ permits + added → after + (taken + disarmed) ≡ first + (added + released)
still_add_up permits after added taken released disarmed first was step = omega (arith, was, step)

module _ {W : Type 0} where
  -- Each step is a line of the table.
  is_line : (old : SemaphoreMachine W) (call : SemaphoreCall W) (answer : Answer ℕ W) (new : SemaphoreMachine W) → IsSound old →
      Step old call answer new → TableLine (rules old.own.is_fair) (on_wakers (subject call) answer) old new
  is_line old call (Refused fault) new was did = unchanged (rules old.own.is_fair) old new did.1
  is_line old (Acquire need) (Made slot) new was did = laws.inserted old new slot.0 need did
  is_line old (Poll slot waker) Pending new was did = (laws.polled old slot.0 waker polled.Pending new was did).line
  is_line old (Poll slot waker) Ready new was did =
      (laws.polled old slot.0 waker (polled.Ready (need_of old.waiting.side slot.0)) new was did).line
  is_line old (Cancel slot) Done new was did = laws.cancelled old new slot.0 did
  is_line old (TryAcquire n) Done new was did = laws.tried old new n true did
  is_line old (TryAcquire n) Nothing new was did = laws.tried old new n false did
  is_line old (Release n) Done new was did = laws.released old new n did
  is_line old (GiveBack n) Done new was did = laws.given_back old new n did
  is_line old (Disarm n) Done new was did = laws.disarmed old new n did
  is_line old Permits (Number n) new was did = unchanged (rules old.own.is_fair) old new did.1
  is_line old Held (Number n) new was did = unchanged (rules old.own.is_fair) old new did.1
  is_line old NextWake (Woken waker) new was did = laws.popped old new waker did
  is_line old call answer new was did = absurd did

  holds_after : (old : SemaphoreMachine W) (call : SemaphoreCall W) (answer : Answer ℕ W) (new : SemaphoreMachine W) →
      laws.Holds old → Step old call answer new → laws.Holds new
  holds_after old call (Refused fault) new was did = subst laws.Holds (sym did.1) was
  holds_after old (Acquire need) (Made slot) new was did = laws.make_holds old new slot.0 need was did
  holds_after old (Poll slot waker) Pending new was did = laws.poll_holds old slot.0 waker polled.Pending new was did
  holds_after old (Poll slot waker) Ready new was did =
      laws.poll_holds old slot.0 waker (polled.Ready (need_of old.waiting.side slot.0)) new was did
  holds_after old (Cancel slot) Done new was did = laws.cancel_holds old new slot.0 was did
  holds_after old (TryAcquire n) Done new was did = laws.try_holds old new n true was did
  holds_after old (TryAcquire n) Nothing new was did = laws.try_holds old new n false was did
  holds_after old (Release n) Done new was did = laws.release_holds old new n was did
  holds_after old (GiveBack n) Done new was did = laws.give_back_holds old new n was did
  holds_after old (Disarm n) Done new was did = laws.disarm_holds old new n was did
  holds_after old Permits (Number n) new was did = subst laws.Holds (sym did.1) was
  holds_after old Held (Number n) new was did = subst laws.Holds (sym did.1) was
  holds_after old NextWake (Woken waker) new was did = laws.wake_holds old new waker was did
  holds_after old call answer new was did = absurd did

  pub semaphore_keeps : (old : SemaphoreMachine W) (call : SemaphoreCall W) (answer : Answer ℕ W) (new : SemaphoreMachine W) →
      IsSound old → OwesNoWake old → Step old call answer new → IsSound new × OwesNoWake new
  semaphore_keeps old call answer new sound no_wake did = holds_after old call answer new (sound, no_wake) did

  pub semaphore_starts : (opening : ℕ × Bool) (state : SemaphoreMachine W) → Opens opening state →
      IsSound state × OwesNoWake state
  semaphore_starts opening state opens =
      subst (λ (s : SemaphoreMachine W). IsSound s × OwesNoWake s) (sym opens.1) (laws.opened_holds opening.1 opening.0 opens.0)

  -- what a step does to the permits
  moves : (old new : SemaphoreMachine W) (call : SemaphoreCall W) (answer : Answer ℕ W) → Step old call answer new →
      Moves (released_by call answer) (disarmed_by call answer) old new
  moves old new call (Refused fault) did = refused call
    where
      refused : (c : SemaphoreCall W) → Moves (released_by c (Refused fault)) (disarmed_by c (Refused fault)) old new
      refused (Release n) = steps.unchanged_permits old new did.1
      refused (Disarm n) = steps.unchanged_permits old new did.1
      refused c = steps.unchanged_permits old new did.1
  moves old new (Acquire need) (Made slot) did = steps.made_permits old new need slot.0 did
  moves old new (Poll slot waker) Pending did = steps.polled_permits old new slot.0 waker polled.Pending did
  moves old new (Poll slot waker) Ready did =
      steps.polled_permits old new slot.0 waker (polled.Ready (need_of old.waiting.side slot.0)) did
  moves old new (Cancel slot) Done did = steps.cancelled_permits old new slot.0 did
  moves old new (TryAcquire n) Done did = steps.tried_permits old new n true did
  moves old new (TryAcquire n) Nothing did = steps.tried_permits old new n false did
  moves old new (Release n) Done did = steps.released_permits old new n did
  moves old new (GiveBack n) Done did = steps.given_back_permits old new n did
  moves old new (Disarm n) Done did = steps.disarmed_permits old new n did
  moves old new Permits (Number n) did = steps.unchanged_permits old new did.1
  moves old new Held (Number n) did = steps.unchanged_permits old new did.1
  moves old new NextWake (Woken waker) did = steps.woken_permits old new waker did
  moves old new call answer did = absurd did

  -- who waits after a step of a fair semaphore
  queue_is : (old new : SemaphoreMachine W) → IsSound old → old.own.is_fair ≡ true →
      (call : SemaphoreCall W) (answer : Answer ℕ W) →
      Step old call answer new → order_step (on_wakers (subject call) answer) old.waiting.side.queue ≡ new.waiting.side.queue
  queue_is old new sound fair call (Refused fault) did = steps.unchanged_queue old new did.1
  queue_is old new sound fair (Acquire need) (Made slot) did = steps.made_queue old new sound fair need slot.0 did
  queue_is old new sound fair (Poll slot waker) Pending did =
      steps.polled_queue old new sound fair slot.0 waker polled.Pending did
  queue_is old new sound fair (Poll slot waker) Ready did =
      steps.polled_queue old new sound fair slot.0 waker (polled.Ready (need_of old.waiting.side slot.0)) did
  queue_is old new sound fair (Cancel slot) Done did = steps.cancelled_queue old new sound fair slot.0 did
  queue_is old new sound fair (TryAcquire n) Done did = steps.tried_queue old new n true did
  queue_is old new sound fair (TryAcquire n) Nothing did = steps.tried_queue old new n false did
  queue_is old new sound fair (Release n) Done did = steps.released_queue old new sound fair n did
  queue_is old new sound fair (GiveBack n) Done did = steps.given_back_queue old new sound fair n did
  queue_is old new sound fair (Disarm n) Done did = steps.disarmed_queue old new n did
  queue_is old new sound fair Permits (Number n) did = steps.unchanged_queue old new did.1
  queue_is old new sound fair Held (Number n) did = steps.unchanged_queue old new did.1
  queue_is old new sound fair NextWake (Woken waker) did = steps.woken_queue old new waker did
  queue_is old new sound fair call answer did = absurd did

  pub semaphore_history_initial : (state : SemaphoreMachine W) → HistoryHolds state [] state
  semaphore_history_initial state = record {
    permits = refl;
    is_fair = refl;
    waiting = λ fair. refl;
    wakers = kept_at_first {E = SemaphoreCall W × Answer ℕ W} effect_of state.waiting;
  }

  pub semaphore_history_preserved : (first : SemaphoreMachine W) (history : List (SemaphoreCall W × Answer ℕ W))
      (old : SemaphoreMachine W) (call : SemaphoreCall W) (answer : Answer ℕ W) (new : SemaphoreMachine W) →
      IsSound old → OwesNoWake old → HistoryHolds first history old → Step old call answer new →
      HistoryHolds first ((call, answer) ∷ history) new
  semaphore_history_preserved first history old call answer new sound no_wake was did =
      let moved = moves old new call answer did in
      record {
        permits = still_add_up (old.own.free + old.own.held) (new.own.free + new.own.held) (released_by call answer)
            (disarmed_by call answer) (released history) (disarmed history) (first.own.free + first.own.held)
            was.permits moved.sum;
        is_fair = moved.is_fair ∙ was.is_fair;
        waiting = λ fair. ap (order_step (on_wakers (subject call) answer)) (was.waiting fair)
            ∙ queue_is old new sound (was.is_fair ∙ fair) call answer did;
        wakers = line_keeps_wakers (rules old.own.is_fair) effect_of first.waiting history (call, answer) old new sound.waiters
            (is_line old call answer new sound did) was.wakers;
      }

  -- In a state that owes no wake the told are a front of the queue.
  pub are_told_in_order : (first : SemaphoreMachine W) (history : List (SemaphoreCall W × Answer ℕ W))
      (state : SemaphoreMachine W) → OwesNoWake state → HistoryHolds first history state → IsFair first →
      AreToldInOrder first history state
  are_told_in_order first history state no_wake was fair =
      let owed = laws.owes_fair state (was.is_fair ∙ fair) no_wake in record {
        told = owed.told;
        rest = owed.rest;
        first_told = was.waiting fair ∙ owed.front.is_front;
        all = owed.front.all;
      }

  -- A grant is in turn.
  in_turn : (old new : SemaphoreMachine W) → old.own.is_fair ≡ true → (call : SemaphoreCall W) (answer : Answer ℕ W) →
      Step old call answer new → IsInTurn old.waiting.side.queue old call answer
  in_turn old new fair call (Refused fault) did = tt
  in_turn old new fair (Acquire need) (Made slot) did = tt
  in_turn old new fair (Poll slot waker) Pending did = tt
  in_turn old new fair (Poll slot waker) Ready did =
      steps.ready_in_turn old new slot.0 waker (need_of old.waiting.side slot.0) fair did
  in_turn old new fair (Cancel slot) Done did = tt
  in_turn old new fair (TryAcquire n) Done did = steps.tried_in_turn old new n fair did
  in_turn old new fair (TryAcquire n) Nothing did = tt
  in_turn old new fair (Release n) Done did = tt
  in_turn old new fair (GiveBack n) Done did = tt
  in_turn old new fair (Disarm n) Done did = tt
  in_turn old new fair Permits (Number n) did = tt
  in_turn old new fair Held (Number n) did = tt
  in_turn old new fair NextWake (Woken waker) did = tt
  in_turn old new fair call answer did = absurd did

  pub newcomers_come_last : (first : SemaphoreMachine W) (history : List (SemaphoreCall W × Answer ℕ W))
      (state : SemaphoreMachine W) → HistoryHolds first history state → IsFair first → NewcomersComeLast first history state
  newcomers_come_last first history state was fair call answer next did =
      subst (λ waiting. IsInTurn waiting state call answer) (sym (was.waiting fair))
      (in_turn state next (was.is_fair ∙ fair) call answer did)

pub semaphore_takes_oldest : {W : Type 0} (old : SemaphoreMachine W) (answer : Answer ℕ W) (new : SemaphoreMachine W)
    → Step old NextWake answer new → TakesOldest machine_outgoing (λ waker. Woken waker) old answer new
semaphore_takes_oldest old (Woken waker) new did = pops_oldest (λ found. Woken found) old waker new did
semaphore_takes_oldest old (Refused fault) new did = absurd did.0
semaphore_takes_oldest old answer new did = absurd did
