use Rattle.fi_sync.specs.Locked.{PollsLock}
use Rattle.fi_sync.proofs.Answered.{waited_for}
use Rattle.fi_sync.proofs.mutex.Mutex.lock_blocking.Goals as goal

pub returns : goal.returns
returns g c = record { waited = waited_for _ (PollsLock {T = g.row.T.Denot}) c.in_ok-wait_for.field-0 c.in_ok-wait_for.ensures.given }
