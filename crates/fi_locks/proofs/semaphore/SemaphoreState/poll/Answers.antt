use Rattle.std.proofs.Common.{◌≡◌, ℕ, Result, IfOk, OnErr, subst}
use Rattle.futures.specs.declared.task.Poll.{Poll}
use Rattle.fi_parts.proofs.Effects.{waits_are_fit}
use Rattle.fi_locks.specs.Semaphore.{SemaphoreMachine, Polls, IsSound}
use Rattle.fi_locks.specs.SemaphoreSoundLaws.{rules}
use Rattle.fi_locks.specs.SemaphoreLaws.{polled}
use Rattle.fi_locks.proofs.Polls.{AfterPollOr, after_poll_or}
use Rattle.fi_locks.proofs.semaphore.SemaphoreState.poll.Given.{Over}
use Rattle.fi_locks.proofs.semaphore.SemaphoreState.poll.Goals as goal

after : {W Rest Error : Type 0} (old : SemaphoreMachine W) (name : ℕ) (waker : W) (result : Result (Poll ℕ × Rest) Error)
    (new : SemaphoreMachine W) → IsSound old → IfOk result (λ polled. Polls old name waker polled.0 new) → OnErr result (new ≡ old) →
    AfterPollOr old name result new
after old name waker result new sound did same =
    after_poll_or old name (rules old.own.is_fair) waits_are_fit waker sound.waiters (Polls old name waker)
    (λ answer new did. polled old name waker answer new sound did) result new did same

fresh : (g : Over) (c : goal.After-poll_fresh g) → AfterPollOr c.args.self.now c.args.slot.0 c.poll_fresh.result c.poll_fresh.new.self
fresh g c =
    after _ _ c.args.waker _ _ (subst IsSound c.self.view_is c.self.invariant.0.0) c.poll_fresh.ensures.polled
    c.poll_fresh.ensures.unchanged

pub returns-in-Fresh-clause-live : goal.returns-in-Fresh-clause-live
returns-in-Fresh-clause-live g c = (fresh g c).live

pub returns-in-Fresh-clause-pending : goal.returns-in-Fresh-clause-pending
returns-in-Fresh-clause-pending g c = (fresh g c).pending

pub returns-in-Fresh-clause-others : goal.returns-in-Fresh-clause-others
returns-in-Fresh-clause-others g c = (fresh g c).others

registered : (g : Over) (c : goal.After-poll_registered g) →
    AfterPollOr c.args.self.now c.args.slot.0 c.poll_registered.result c.poll_registered.new.self
registered g c =
    after _ _ c.args.waker _ _ (subst IsSound c.self.view_is c.self.invariant.0.0) c.poll_registered.ensures.polled
    c.poll_registered.ensures.unchanged

pub returns-in-Registered-clause-live : goal.returns-in-Registered-clause-live
returns-in-Registered-clause-live g c = (registered g c).live

pub returns-in-Registered-clause-pending : goal.returns-in-Registered-clause-pending
returns-in-Registered-clause-pending g c = (registered g c).pending

pub returns-in-Registered-clause-others : goal.returns-in-Registered-clause-others
returns-in-Registered-clause-others g c = (registered g c).others

told : (g : Over) (c : goal.After-poll_told g) → AfterPollOr c.args.self.now c.args.slot.0 c.poll_told.result c.poll_told.new.self
told g c =
    after _ _ c.args.waker _ _ (subst IsSound c.self.view_is c.self.invariant.0.0) c.poll_told.ensures.polled
    c.poll_told.ensures.unchanged

pub returns-in-Told-clause-live : goal.returns-in-Told-clause-live
returns-in-Told-clause-live g c = (told g c).live

pub returns-in-Told-clause-pending : goal.returns-in-Told-clause-pending
returns-in-Told-clause-pending g c = (told g c).pending

pub returns-in-Told-clause-others : goal.returns-in-Told-clause-others
returns-in-Told-clause-others g c = (told g c).others
