use Rattle.std.proofs.Common.{◌≡◌, true, Some, refl, ap, ◌∙◌, rules as lemmas}
use Rattle.futures.specs.declared.task.Poll.TheVariants.{Ready, Pending}
use Rattle.fi_parts.specs.declared.phase.Phase.TheVariants.{Fresh}
use Rattle.fi_parts.specs.Effects.{TakesEffect}
use Rattle.fi_parts.specs.Effects.WaiterEffect.{Registers, Ends}
use Rattle.fi_parts.specs.Machine.{phase_at}
use Rattle.fi_locks.specs.Semaphore.{at_own, granted, can_take, need_of, Polls}
use Rattle.fi_locks.specs.SemaphoreLaws.{poll_holds}
use Rattle.fi_locks.proofs.SemaphoreMarks.{marks_registered, marks_ended}
use Rattle.fi_locks.proofs.semaphore.SemaphoreState.poll_fresh.Goals as goal

-- It waits.
pub invariant_of-self : goal.invariant_of-self
invariant_of-self g c =
    let name = c.args.slot.0 in
    let old = at_own c.self.inside.permits c.self.inside.waits in
    let stood : phase_at old name ≡ Some Fresh = ap (λ m. phase_at m name) c.self.view_is ∙ c.requires.fresh in
    rw c.or-self-inside.ensures (
      poll_holds old name c.args.waker Pending _ c.self.invariant.0 (search lemmas),
      marks_registered old name _ _ c.register.new.self c.self.invariant.0.0 c.self.invariant.1 c.args.slot c.args.waker refl stood
          (search lemmas),
    )

-- It was granted what it needs.
pub invariant_of-self-2 : goal.invariant_of-self-2
invariant_of-self-2 g c =
    let name = c.args.slot.0 in
    let old = at_own c.self.inside.permits c.self.inside.waits in
    let takes : can_take old.own old.waiting.side.queue c.args.need ≡ true = search lemmas in
    let stood : phase_at old name ≡ Some Fresh = ap (λ m. phase_at m name) c.self.view_is ∙ c.requires.fresh in
    let needs : c.args.need ≡ need_of old.waiting.side name = search lemmas in (
      poll_holds old name c.args.waker (Ready c.args.need) _ c.self.invariant.0 (search lemmas),
      rw needs (marks_ended old name _ _ c.set_phase.new.self c.self.invariant.0.0 c.self.invariant.1 stood (rw (← needs) takes)
          (search lemmas)),
    )
