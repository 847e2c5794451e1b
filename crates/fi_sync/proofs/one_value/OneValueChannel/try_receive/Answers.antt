use Rattle.std.proofs.Common.{rules}
use Rattle.fi_sync.proofs.one_value.OneValueChannel.try_receive.Goals as goal

pub returns : goal.returns
returns g c = record { tried = (c.call.ensures.0.now, c.call.ensures.1.now, search rules) }
