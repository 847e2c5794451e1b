use Rattle.fi_parts.proofs.Rings.{IsRing-empty}
use Rattle.fi_parts.proofs.buffer.ring.Ring.new.Goals as goal

pub invariant_of-result : goal.invariant_of-result
invariant_of-result g c = (IsRing-empty c.new.result.items 0 c.new.ensures.items).0

pub returns : goal.returns
returns g c = let made = IsRing-empty c.new.result.items 0 c.new.ensures.items in λ k. record { items = made.1 k; capacity = made.2 k }
