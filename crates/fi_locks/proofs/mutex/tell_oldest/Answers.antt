use Rattle.fi_locks.proofs.OldestTold.{oldest_told, nobody_told}
use Rattle.fi_locks.proofs.mutex.tell_oldest.Goals as goal

pub returns-in-Some : goal.returns-in-Some
returns-in-Some g c =
    let queue = c.in-Some.ensures in
    rw c.tell.ensures (oldest_told c.args.is_fair c.args.locks.now c.in-Some.oldest.0 queue.0 c.requires queue.1)

pub returns-in_default : goal.returns-in_default
returns-in_default g c = nobody_told c.args.is_fair c.args.locks.now c.in_default.ensures
