use Rattle.std.proofs.Common.{rules, ◌≡◌, subst, sym, Ok, Err}
use Rattle.futures.specs.Poll.{IfReady}
use Rattle.futures.specs.declared.task.Poll.TheVariants.{Ready, Pending}
use Rattle.fi_parts.specs.declared.errors.Fault.{Fault}
use Rattle.fi_sync.specs.Granted.{IsAcquireAnswer, PollsAcquire}
use Rattle.fi_sync.specs.Waiting.{IsGiven}
use Rattle.fi_sync.proofs.Answered.{answered_so}
use Rattle.fi_sync.proofs.semaphore.future.SemaphoreAcquireFutureOfFuture.poll.Goals as goal

pub returns-in-Some-clause-answered : goal.returns-in-Some-clause-answered
returns-in-Some-clause-answered g c =
    answered_so IsAcquireAnswer c.self.inside.future c.args.self.now c.poll.new.cx.lacks_waker c.poll.result (Ready (Ok c.of.result))
    (search rules) (search rules) c.poll.ensures.answered

pub returns-in-Ready-Err-clause-answered : goal.returns-in-Ready-Err-clause-answered
returns-in-Ready-Err-clause-answered g c =
    answered_so IsAcquireAnswer c.self.inside.future c.args.self.now c.poll.new.cx.lacks_waker c.poll.result (Ready (Err c.in-Ready-Err.fault))
    (search rules) (search rules) c.poll.ensures.answered

pub returns-in-Pending-clause-answered : goal.returns-in-Pending-clause-answered
returns-in-Pending-clause-answered g c =
    answered_so IsAcquireAnswer c.self.inside.future c.args.self.now c.poll.new.cx.lacks_waker c.poll.result Pending
    (search rules) (search rules) c.poll.ensures.answered

pub returns-in-Some-clause-value : goal.returns-in-Some-clause-value
returns-in-Some-clause-value g c =
    let same : Ready (Ok c.of.result) ≡ c.poll.result = search rules in
    subst (λ answer. IfReady answer (IsGiven PollsAcquire (Err Fault.NoMemory))) (sym same) c.poll.ensures.value

pub returns-in-Ready-Err-clause-value : goal.returns-in-Ready-Err-clause-value
returns-in-Ready-Err-clause-value g c =
    let same : Ready (Err c.in-Ready-Err.fault) ≡ c.poll.result = search rules in
    subst (λ answer. IfReady answer (IsGiven PollsAcquire (Err Fault.NoMemory))) (sym same) c.poll.ensures.value
