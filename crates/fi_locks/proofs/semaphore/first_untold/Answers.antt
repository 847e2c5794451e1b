use Rattle.fi_locks.specs.Semaphore.{at_own}
use Rattle.fi_locks.proofs.TellingRounds.{walk_starts_fair, walk_starts_unfair}
use Rattle.fi_locks.proofs.semaphore.first_untold.Goals as goal

pub returns-then-permits : goal.returns-then-permits
returns-then-permits g c =
    walk_starts_fair (at_own c.args.permits c.args.waits.now) c.args.marks.now.promised c.args.marks.now.untold c.if-permits.true
    c.requires.marked

pub returns : goal.returns
returns g c =
    walk_starts_unfair (at_own c.args.permits c.args.waits.now) c.args.marks.now.promised c.args.marks.now.untold c.oldest.result
    c.if-permits.false c.requires.marked c.oldest.ensures
