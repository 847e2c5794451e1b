use Rattle.fi_locks.specs.Semaphore.{at_own}
use Rattle.fi_locks.proofs.TellingRounds.{walk_tells, walk_marks}
use Rattle.fi_locks.proofs.semaphore.tell_if.Goals as goal

pub returns-then-permits-clause-told : goal.returns-then-permits-clause-told
returns-then-permits-clause-told g c =
    let walk = c.tell_from-untold in
    rw c.if-not-tells.false
    (walk_tells (at_own c.args.permits c.args.waits.now) _ _ _ walk.ensures.walked walk.ensures.stopped)

pub returns-then-permits-clause-marked : goal.returns-then-permits-clause-marked
returns-then-permits-clause-marked g c =
    let walk = c.tell_from-untold in
    walk_marks (at_own c.args.permits c.args.waits.now) walk.new.waits walk.result.1 walk.result.0 walk.ensures.walked
    walk.ensures.stopped c.requires.sound c.if-permits.true c.args.marks.now.promised c.args.marks.now.untold c.requires.marked

pub returns-else-permits-clause-told : goal.returns-else-permits-clause-told
returns-else-permits-clause-told g c =
    let walk = c.tell_from-untold in
    rw c.if-not-tells.false
    (walk_tells (at_own c.args.permits c.args.waits.now) _ _ _ walk.ensures.walked walk.ensures.stopped)
