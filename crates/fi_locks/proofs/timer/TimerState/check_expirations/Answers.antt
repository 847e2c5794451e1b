use Rattle.std.proofs.Common.{rules as lemmas}
use Rattle.fi_parts.proofs.Machines.{line_preserves, all_stay}
use Rattle.fi_parts.proofs.Effects.{waits_are_fit}
use Rattle.fi_locks.specs.Timer.{can_be_polled}
use Rattle.fi_locks.specs.TimerLaws.{rules, was_checked}
use Rattle.fi_locks.proofs.timer.TimerState.check_expirations.Goals as goal

pub invariant_of-self : goal.invariant_of-self
invariant_of-self g c = line_preserves rules _ _ (was_checked _ _ c.args.now (search lemmas)) c.self.invariant

pub returns-clause-all_stay : goal.returns-clause-all_stay
returns-clause-all_stay g c =
    rw (← c.self.view_is) (all_stay rules can_be_polled waits_are_fit _ _ c.self.invariant.0
    (was_checked _ _ c.args.now (search lemmas)))
