use Rattle.std.proofs.Common.{rules}
use Rattle.fi_sync.proofs.one_value.OneValueChannel.send.Goals as goal

pub returns-clause-sent : goal.returns-clause-sent
returns-clause-sent g c = (c.call.ensures.0.now, c.call.ensures.1.now, search rules)
