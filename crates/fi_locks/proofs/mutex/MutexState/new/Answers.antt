use Rattle.fi_locks.specs.MutexLaws.{opened_well}
use Rattle.fi_locks.proofs.mutex.MutexState.new.Goals as goal

pub invariant_of-result : goal.invariant_of-result
invariant_of-result g c = rw c.new.ensures (opened_well c.args.value c.args.is_fair)
