use Rattle.std.proofs.Common.{rules}
use Rattle.futures_intrusive.proofs.state_ends.StateSender+T+R.send.Goals as goal

pub returns-in-Ok-clause-sent : goal.returns-in-Ok-clause-sent
returns-in-Ok-clause-sent g c = (c.call.ensures.0.now.state, c.call.ensures.1.now.state, search rules)

pub returns-in-Err-clause-sent : goal.returns-in-Err-clause-sent
returns-in-Err-clause-sent g c = (c.call.ensures.0.now.state, c.call.ensures.1.now.state, search rules)
