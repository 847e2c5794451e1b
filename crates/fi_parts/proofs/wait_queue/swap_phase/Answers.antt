use Rattle.std.proofs.Common.{rules, refl, ap}
use Rattle.fi_parts.proofs.wait_queue.swap_phase.Goals as goal

pub returns : goal.returns
returns g c = (
  c.unwrap-entry.result.now,
  search rules,
  ap (λ p. (c.unwrap-entry.result.now.ticket, p)) c.replace.ensures.value,
  rw c.replace.ensures.after refl,
)
