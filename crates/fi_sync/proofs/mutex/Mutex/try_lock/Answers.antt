use Rattle.std.proofs.Common.{rules}
use Rattle.fi_sync.proofs.mutex.Mutex.try_lock.Goals as goal

pub returns-in_err-locked : goal.returns-in_err-locked
returns-in_err-locked g c = record { tried = (c.call.ensures.0.now, c.call.ensures.1.now, search rules) }

pub returns : goal.returns
returns g c = record { tried = (c.call.ensures.0.now, c.call.ensures.1.now, search rules) }
