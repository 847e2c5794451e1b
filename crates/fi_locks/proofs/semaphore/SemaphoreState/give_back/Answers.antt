use Rattle.std.proofs.Common.{◌≤◌, refl, sym, subst}
use Rattle.std.specs.Prelude.{◌+◌, ◌-◌, nat_lt}
use Rattle.fi_parts.specs.Effects.WaiterEffect.{NoChange}
use Rattle.fi_parts.proofs.Effects.{waits_are_fit}
use Rattle.fi_parts.proofs.Machines.{all_stay}
use Rattle.fi_locks.specs.Semaphore.{SemaphoreMachine, at_own, can_be_polled, GivesBack}
use Rattle.fi_locks.specs.SemaphoreLaws.{given_back, give_back_holds}
use Rattle.fi_locks.specs.SemaphoreSoundLaws.{rules}
use Rattle.fi_locks.proofs.SemaphoreSteps.{steps_telling}
use Rattle.fi_locks.proofs.semaphore.SemaphoreState.give_back.Given.{Over}
use Rattle.fi_locks.proofs.semaphore.SemaphoreState.give_back.Goals as goal

abbrev old : (g : Over) (c : goal.After-tell_if g) → SemaphoreMachine g.row.W.Denot
old g c = at_own c.self.inside.permits c.self.inside.waits

abbrev new : (g : Over) (c : goal.After-tell_if g) → SemaphoreMachine g.row.W.Denot
new g c =
    let own = (old g c).own in
    at_own (record own { free = own.free + c.args.permits; held = own.held - c.args.permits }) c.tell_if.new.waits

did : (g : Over) (c : goal.After-tell_if g) → GivesBack (old g c) c.args.permits (new g c)
did g c = (
  subst (λ m. c.args.permits ≤ m.own.held) (sym c.self.view_is) c.requires,
  steps_telling (nat_lt 0 c.args.permits) (old g c) (new g c).own NoChange (old g c).waiting (new g c) refl c.tell_if.ensures.told,
)

pub invariant_of-self : goal.invariant_of-self
invariant_of-self g c =
    (give_back_holds (old g c) (new g c) c.args.permits c.self.invariant.0 (did g c), c.tell_if.ensures.marked)

pub returns-clause-given_back : goal.returns-clause-given_back
returns-clause-given_back g c = rw (← c.self.view_is) (did g c)

pub returns-clause-all_stay : goal.returns-clause-all_stay
returns-clause-all_stay g c =
    rw (← c.self.view_is) (all_stay (rules (old g c).own.is_fair) can_be_polled waits_are_fit (old g c) (new g c)
    c.self.invariant.0.0.waiters (given_back (old g c) (new g c) c.args.permits (did g c)))
