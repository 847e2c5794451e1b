use Rattle.std.proofs.Common.{rules}
use Rattle.futures_intrusive.proofs.channel_ends.GenericReceiver+T+B+R.try_receive.Goals as goal

pub returns : goal.returns
returns g c = record { tried = (c.call.ensures.0.now.state, c.call.ensures.1.now.state, search rules) }
