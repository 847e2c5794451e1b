use Rattle.fi_parts.proofs.Rings.{IsRing-empty}
use Rattle.fi_parts.proofs.buffer.ring.Ring.with_capacity.Goals as goal

pub invariant_of-result : goal.invariant_of-result
invariant_of-result g c = (IsRing-empty _ c.args.capacity c.in_ok-slots.ensures).0

pub returns : goal.returns
returns g c = let made = IsRing-empty _ c.args.capacity c.in_ok-slots.ensures in λ k. record {
  items = made.1 k;
  capacity =
      made.2 k;
}
