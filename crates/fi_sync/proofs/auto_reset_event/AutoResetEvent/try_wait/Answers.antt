use Rattle.std.proofs.Common.{rules}
use Rattle.fi_sync.proofs.auto_reset_event.AutoResetEvent.try_wait.Goals as goal

pub returns-in-Some : goal.returns-in-Some
returns-in-Some g c = record { tried = (c.call.ensures.0.now, c.call.ensures.1.now, search rules) }

pub returns-in-None : goal.returns-in-None
returns-in-None g c = record { tried = (c.call.ensures.0.now, c.call.ensures.1.now, search rules) }
