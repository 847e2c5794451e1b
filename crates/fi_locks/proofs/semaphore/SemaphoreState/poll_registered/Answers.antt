use Rattle.std.proofs.Common.{ap, ◌∙◌, rules as lemmas}
use Rattle.futures.specs.declared.task.Poll.TheVariants.{Ready, Pending}
use Rattle.fi_parts.specs.Effects.{TakesEffect}
use Rattle.fi_parts.specs.Effects.WaiterEffect.{KeepsWaiting}
use Rattle.fi_parts.specs.Machine.{phase_at}
use Rattle.fi_parts.specs.Waiting.{is_registered}
use Rattle.fi_parts.proofs.Effects.{registered_as}
use Rattle.fi_locks.specs.Semaphore.{at_own, granted, Polls}
use Rattle.fi_locks.specs.SemaphoreMarks.{MarksIf}
use Rattle.fi_locks.specs.SemaphoreLaws.{poll_holds}
use Rattle.fi_locks.proofs.SemaphoreMarks.{marks_stay}
use Rattle.fi_locks.proofs.semaphore.SemaphoreState.poll_registered.Goals as goal

-- It waits.
pub invariant_of-self : goal.invariant_of-self
invariant_of-self g c =
    let name = c.args.slot.0 in
    let old = at_own c.self.inside.permits c.self.inside.waits in
    let stood = registered_as (phase_at old name)
    (ap (λ m. is_registered (phase_at m name)) c.self.view_is ∙ c.requires.registered) in (
      poll_holds old name c.args.waker Pending _ c.self.invariant.0 (search lemmas),
      marks_stay old name _ _ c.set_phase-before.new.self c.self.invariant.0.0 c.self.invariant.1 stood.0 c.args.waker
          stood.1 (search lemmas),
    )

-- It was granted what it needs, so the semaphore is unfair.
pub invariant_of-self-2 : goal.invariant_of-self-2
invariant_of-self-2 g c =
    (poll_holds _ c.args.slot.0 c.args.waker (Ready c.args.need) _ c.self.invariant.0 (search lemmas), search lemmas)
