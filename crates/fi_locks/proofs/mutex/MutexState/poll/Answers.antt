use Rattle.std.proofs.Common.{false, sym, subst}
use Rattle.fi_parts.proofs.Effects.{waits_are_fit}
use Rattle.fi_locks.specs.Leaving.{PollsAndLeaves}
use Rattle.fi_locks.specs.Mutex.{Polls, Cancels}
use Rattle.fi_locks.specs.MutexLaws.{rules, poll_line}
use Rattle.fi_locks.proofs.Polls.{AfterPollOr, after_poll_or}
use Rattle.fi_locks.proofs.mutex.MutexState.poll.Given.{Over}
use Rattle.fi_locks.proofs.mutex.MutexState.poll.Goals as goal

after : (g : Over) (c : goal.After-poll_as g) → AfterPollOr c.args.self.now c.args.slot.0 c.poll_as.result c.poll_as.new.self
after g c =
    let old = c.args.self.now in
    let name = c.args.slot.0 in
    after_poll_or old name (rules old.own.is_fair) waits_are_fit c.args.waker c.poll_as.ensures.well.0
    (PollsAndLeaves false Polls Cancels old name c.args.waker)
    (λ answer new did. poll_line old name c.args.waker answer new c.poll_as.ensures.well
    (subst (λ mid. Polls old name c.args.waker answer mid) (sym did.2) did.1))
    c.poll_as.result c.poll_as.new.self c.poll_as.ensures.polled c.poll_as.ensures.unchanged

pub returns-clause-live : goal.returns-clause-live
returns-clause-live g c = (after g c).live

pub returns-clause-pending : goal.returns-clause-pending
returns-clause-pending g c = (after g c).pending

pub returns-clause-others : goal.returns-clause-others
returns-clause-others g c = (after g c).others
