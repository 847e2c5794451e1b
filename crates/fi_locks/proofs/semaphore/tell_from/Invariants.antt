use Rattle.fi_locks.specs.SemaphoreMarks.{Walk}
use Rattle.fi_locks.proofs.TellingRounds.{ahead}
use Rattle.fi_locks.proofs.semaphore.tell_from.Given as goal

abbrev pub invariant-loop-next : goal.invariant-loop-next
invariant-loop-next g l = Walk l.fn.permits.is_fair l.fn.permits.free l.fn.waits l.waits l.available l.next

abbrev pub decreases-loop-next : goal.decreases-loop-next
decreases-loop-next g l = ahead l.next l.waits.side.queue
