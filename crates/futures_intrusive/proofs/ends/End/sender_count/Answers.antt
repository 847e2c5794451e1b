use Rattle.std.proofs.Common.{rules}
use Rattle.futures_intrusive.proofs.ends.End.sender_count.Goals as goal

pub returns : goal.returns
returns g c = record { shown = (c.call.ensures.0.now, search rules, search rules) }
