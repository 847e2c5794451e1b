use Rattle.std.proofs.Common.{rules}
use Rattle.fi_sync.proofs.auto_reset_event.AutoResetEvent.set.Goals as goal

pub returns : goal.returns
returns g c = record { set = (c.call.ensures.0.now, c.call.ensures.1.now, (c.call.result, search rules)) }
