use Rattle.std.proofs.Common.{rules}
use Rattle.futures_intrusive.proofs.one_value_ends.OneValueSender+T+G+R.send.Goals as goal

pub returns-clause-sent : goal.returns-clause-sent
returns-clause-sent g c = (c.call.ensures.0.now.state, c.call.ensures.1.now.state, search rules)
