use Rattle.fi_locks.specs.TimerLaws.{opened_holds}
use Rattle.fi_locks.proofs.timer.TimerState.new.Goals as goal

pub invariant_of-result : goal.invariant_of-result
invariant_of-result g c = rw c.new.ensures opened_holds
