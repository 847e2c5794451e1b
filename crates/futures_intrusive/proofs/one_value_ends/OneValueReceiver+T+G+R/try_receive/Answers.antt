use Rattle.std.proofs.Common.{rules}
use Rattle.futures_intrusive.proofs.one_value_ends.OneValueReceiver+T+G+R.try_receive.Goals as goal

pub returns : goal.returns
returns g c = record { tried = (c.call.ensures.0.now.state, c.call.ensures.1.now.state, search rules) }
