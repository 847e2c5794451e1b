use Rattle.std.proofs.Common.{rules}
use Rattle.fi_sync.proofs.state_broadcast.StateBroadcastChannel.send.Goals as goal

pub returns-in-Ok-clause-sent : goal.returns-in-Ok-clause-sent
returns-in-Ok-clause-sent g c = (c.call.ensures.0.now, c.call.ensures.1.now, search rules)

pub returns-in-Err-clause-sent : goal.returns-in-Err-clause-sent
returns-in-Err-clause-sent g c = (c.call.ensures.0.now, c.call.ensures.1.now, search rules)
