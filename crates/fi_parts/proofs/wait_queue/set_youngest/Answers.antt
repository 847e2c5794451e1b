use Rattle.std.proofs.Common.{rules, refl}
use Rattle.fi_parts.proofs.wait_queue.set_youngest.Goals as goal

pub returns : goal.returns
returns g c = (c.unwrap-entry.result.now, search rules, refl)
