use Rattle.std.proofs.Common.{◌≡◌, true, refl, sym, rules as lemmas}
use Rattle.fi_locks.specs.Semaphore.{at_own, granted, can_take}
use Rattle.fi_locks.specs.SemaphoreLaws.{try_holds}
use Rattle.fi_locks.proofs.SemaphoreMarks.{marks_taken}
use Rattle.fi_locks.proofs.semaphore.SemaphoreState.try_acquire_sync.Goals as goal

pub invariant_of-self : goal.invariant_of-self
invariant_of-self g c =
    let inside = c.self.inside in
    let old = at_own inside.permits inside.waits in
    let takes : can_take old.own inside.waits.side.queue c.args.permits ≡ true = search lemmas in (
      try_holds old (at_own (granted old.own c.args.permits) inside.waits) c.args.permits true c.self.invariant.0
          (sym takes, (refl, refl)),
      marks_taken old.own c.args.permits inside.marks.promised inside.marks.untold inside.waits.side takes c.self.invariant.1,
    )
