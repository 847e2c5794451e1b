use Rattle.std.proofs.Common.{arith}
use Rattle.fi_locks.specs.SemaphoreLaws.{opened_holds}
use Rattle.fi_locks.proofs.SemaphoreMarks.{marks_opened}
use Rattle.fi_locks.proofs.semaphore.SemaphoreState.new.Goals as goal

pub invariant_of-result : goal.invariant_of-result
invariant_of-result g c =
    rw c.new.ensures (
      opened_holds c.args.is_fair c.args.permits (omega (arith, c.ranges.permits)),
      marks_opened _ c.args.is_fair c.args.permits,
    )
