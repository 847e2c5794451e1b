use Rattle.std.proofs.Common.{rules}
use Rattle.fi_sync.proofs.auto_reset_event.AutoResetEvent.is_set.Goals as goal

pub returns : goal.returns
returns g c = record { shown = (c.call.ensures.0.now, search rules) }
