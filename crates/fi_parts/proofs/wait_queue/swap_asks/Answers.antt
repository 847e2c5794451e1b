use Rattle.std.proofs.Common.{rules, refl}
use Rattle.fi_parts.proofs.wait_queue.swap_asks.Goals as goal

pub returns : goal.returns
returns g c = (c.unwrap-entry.result.now, search rules, c.replace.ensures.value, rw c.replace.ensures.after refl)
