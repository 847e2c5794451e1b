use Rattle.std.proofs.Common.{Ok, rules as lemmas}
use Rattle.fi_parts.proofs.Effects.{waits_are_fit}
use Rattle.fi_parts.proofs.Machines.{all_stay}
use Rattle.fi_locks.specs.Mutex.{can_be_polled}
use Rattle.fi_locks.specs.MutexLaws.{rules, stays_well, unlocked}
use Rattle.fi_locks.proofs.mutex.MutexState.unlock.Goals as goal

pub invariant_of-self : goal.invariant_of-self
invariant_of-self g c =
    stays_well _ _ (unlocked _ _ c.self.invariant c.args.value (Ok tt) (search lemmas)) c.self.invariant

pub returns-clause-all_stay : goal.returns-clause-all_stay
returns-clause-all_stay g c =
    rw (← c.self.view_is) (all_stay (rules c.self.inside.is_fair) can_be_polled waits_are_fit _ _ c.self.invariant.0
    (unlocked _ _ c.self.invariant c.args.value (Ok tt) (search lemmas)).line)
