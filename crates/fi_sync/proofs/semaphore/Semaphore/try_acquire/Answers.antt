use Rattle.std.proofs.Common.{rules}
use Rattle.fi_sync.proofs.semaphore.Semaphore.try_acquire.Goals as goal

pub returns-in_err-grant-clause-tried : goal.returns-in_err-grant-clause-tried
returns-in_err-grant-clause-tried g c = (c.call.ensures.0.now, c.call.ensures.1.now, search rules)

pub returns-clause-tried : goal.returns-clause-tried
returns-clause-tried g c = (c.call.ensures.0.now, c.call.ensures.1.now, search rules)
