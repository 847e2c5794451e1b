use Rattle.std.proofs.Common.{◌≡◌, replicate, None}
use Rattle.std.specs.Prelude.{vec_len, vec_capacity}
use Rattle.fi_parts.proofs.buffer.ring.empty_slots.Given as goal

abbrev pub invariant-loop-made : goal.invariant-loop-made
invariant-loop-made g l = (l.slots.items ≡ replicate l.made None) × (vec_len l.slots ≡ l.made) × (vec_capacity l.slots ≡ l.count)
