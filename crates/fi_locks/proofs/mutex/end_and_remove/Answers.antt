use Rattle.fi_locks.proofs.Leaving.{ended_and_removed}
use Rattle.fi_locks.proofs.mutex.end_and_remove.Goals as goal

pub returns-clause-ended : goal.returns-clause-ended
returns-clause-ended g c =
    ended_and_removed c.args.locks.now c.args.slot.0 c.requires.live c.remove.new.self c.in-Some.ensures.removed
