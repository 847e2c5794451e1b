use Rattle.std.proofs.Common.{rules}
use Rattle.futures_intrusive.proofs.channel_ends.GenericSender+T+B+R.try_send.Goals as goal

pub returns-clause-tried : goal.returns-clause-tried
returns-clause-tried g c = (c.call.ensures.0.now.state, c.call.ensures.1.now.state, search rules)
