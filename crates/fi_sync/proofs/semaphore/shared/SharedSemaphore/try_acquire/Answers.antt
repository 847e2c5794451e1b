use Rattle.std.proofs.Common.{rules}
use Rattle.fi_sync.proofs.semaphore.shared.SharedSemaphore.try_acquire.Goals as goal

pub returns-in-Some-clause-tried : goal.returns-in-Some-clause-tried
returns-in-Some-clause-tried g c = (c.call.ensures.0.now, c.call.ensures.1.now, search rules)

pub returns-in-None-clause-tried : goal.returns-in-None-clause-tried
returns-in-None-clause-tried g c = (c.call.ensures.0.now, c.call.ensures.1.now, search rules)
