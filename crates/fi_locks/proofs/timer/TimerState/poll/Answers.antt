use Rattle.std.proofs.Common.{ℕ, subst, rules as lemmas}
use Rattle.futures.specs.declared.task.Poll.{Poll}
use Rattle.futures.specs.declared.task.Poll.TheVariants.{Ready, Pending}
use Rattle.fi_parts.specs.Waiting.{Waiting}
use Rattle.fi_parts.proofs.Effects.{waits_are_fit}
use Rattle.fi_parts.proofs.Machines.{line_preserves}
use Rattle.fi_locks.specs.Timer.{TimerMachine, Polls, IsSound, OwesNoWake}
use Rattle.fi_locks.specs.TimerLaws.{rules, polled}
use Rattle.fi_locks.proofs.Polls.{AfterPoll, after_poll}
use Rattle.fi_locks.proofs.timer.TimerState.poll.Given.{Over}
use Rattle.fi_locks.proofs.timer.TimerState.poll.Goals as goal

module _ {W : Type 0} where
  abbrev at : ℕ → Waiting ℕ W → TimerMachine W
  at floor deadlines = record { own = floor; waiting = deadlines }

  abbrev IsWell : TimerMachine W → Type 0
  IsWell timer = IsSound timer × OwesNoWake timer

  module _ (old : TimerMachine W) (name now : ℕ) (waker : W) (answer : Poll (Unit {0})) (new : TimerMachine W) where
    abbrev After : Type 0
    After = IsWell new × AfterPoll old name answer new

    after : IsWell old → Polls old name now waker answer new → After
    after was did =
        let poll = polled old name now waker answer new did in
        (line_preserves rules old new poll.line was, after_poll old name rules waits_are_fit waker was.0 answer new poll)

-- It was registered, and stays so.
stays : (g : Over) (c : goal.Joined-named g) →
    After c.args.self.now c.args.slot.0 c.args.now c.args.waker Pending (at c.self.inside.floor c.set_phase-before.new.self)
stays g c = after _ _ c.args.now c.args.waker _ _ (subst IsWell c.self.view_is c.self.invariant) (search lemmas)

pub invariant_of-self : goal.invariant_of-self
invariant_of-self g c = (stays g c).0

pub returns-then-is_registered-2-clause-live : goal.returns-then-is_registered-2-clause-live
returns-then-is_registered-2-clause-live g c = (stays g c).1.live

pub returns-then-is_registered-2-clause-pending : goal.returns-then-is_registered-2-clause-pending
returns-then-is_registered-2-clause-pending g c = (stays g c).1.pending

pub returns-then-is_registered-2-clause-others : goal.returns-then-is_registered-2-clause-others
returns-then-is_registered-2-clause-others g c = (stays g c).1.others

-- It was fresh, its expiry has not come, and it registers.
registers : (g : Over) (c : goal.After-of-then-is_early-2 g) →
    After c.args.self.now c.args.slot.0 c.args.now c.args.waker Pending (at c.min-self-inside.result c.register.new.self)
registers g c = after _ _ c.args.now c.args.waker _ _ (subst IsWell c.self.view_is c.self.invariant) (search lemmas)

pub invariant_of-self-then-is_early-2 : goal.invariant_of-self-then-is_early-2
invariant_of-self-then-is_early-2 g c = (registers g c).0

pub returns-then-is_early-2-clause-live : goal.returns-then-is_early-2-clause-live
returns-then-is_early-2-clause-live g c = (registers g c).1.live

pub returns-then-is_early-2-clause-pending : goal.returns-then-is_early-2-clause-pending
returns-then-is_early-2-clause-pending g c = (registers g c).1.pending

pub returns-then-is_early-2-clause-others : goal.returns-then-is_early-2-clause-others
returns-then-is_early-2-clause-others g c = (registers g c).1.others

-- It ends.
ends : (g : Over) (c : goal.After-of-2 g) →
    After c.args.self.now c.args.slot.0 c.args.now c.args.waker (Ready tt) (at c.self.inside.floor c.set_phase.new.self)
ends g c = after _ _ c.args.now c.args.waker _ _ (subst IsWell c.self.view_is c.self.invariant) (search lemmas)

pub invariant_of-self-2 : goal.invariant_of-self-2
invariant_of-self-2 g c = (ends g c).0

pub returns-clause-live : goal.returns-clause-live
returns-clause-live g c = (ends g c).1.live

pub returns-clause-others : goal.returns-clause-others
returns-clause-others g c = (ends g c).1.others
