use Rattle.std.proofs.Common.{◌<◌, ◌^◌, refl, arith}
use Rattle.std.specs.Prelude.{◌+◌, nat_lt}
use Rattle.fi_parts.specs.Effects.WaiterEffect.{NoChange}
use Rattle.fi_parts.proofs.Effects.{waits_are_fit}
use Rattle.fi_parts.proofs.Machines.{all_stay}
use Rattle.fi_locks.specs.Semaphore.{SemaphoreMachine, at_own, can_be_polled, Releases}
use Rattle.fi_locks.specs.SemaphoreLaws.{released, release_holds}
use Rattle.fi_locks.specs.SemaphoreSoundLaws.{rules}
use Rattle.fi_locks.proofs.SemaphoreSteps.{steps_telling}
use Rattle.fi_locks.proofs.semaphore.SemaphoreState.release.Given.{Over}
use Rattle.fi_locks.proofs.semaphore.SemaphoreState.release.Goals as goal

abbrev old : (g : Over) (c : goal.After-tell_if g) → SemaphoreMachine g.row.W.Denot
old g c = at_own c.self.inside.permits c.self.inside.waits

abbrev new : (g : Over) (c : goal.After-tell_if g) → SemaphoreMachine g.row.W.Denot
new g c = at_own (record (old g c).own { free = (old g c).own.free + c.args.permits }) c.tell_if.new.waits

did : (g : Over) (c : goal.After-tell_if g) → Releases (old g c) c.args.permits (new g c)
did g c =
    let counted : (old g c).own.free + (old g c).own.held + c.args.permits < 2 ^ 64 =
    omega (arith, c.if-permits-self.false, c.self.invariant.0.0.counted) in (
      counted,
      steps_telling (nat_lt 0 c.args.permits) (old g c) (new g c).own NoChange (old g c).waiting (new g c) refl c.tell_if.ensures.told,
    )

pub invariant_of-self : goal.invariant_of-self
invariant_of-self g c =
    (release_holds (old g c) (new g c) c.args.permits c.self.invariant.0 (did g c), c.tell_if.ensures.marked)

pub returns-clause-released : goal.returns-clause-released
returns-clause-released g c = rw (← c.self.view_is) (did g c)

pub returns-clause-all_stay : goal.returns-clause-all_stay
returns-clause-all_stay g c =
    rw (← c.self.view_is) (all_stay (rules (old g c).own.is_fair) can_be_polled waits_are_fit (old g c) (new g c)
    c.self.invariant.0.0.waiters (released (old g c) (new g c) c.args.permits (did g c)))
