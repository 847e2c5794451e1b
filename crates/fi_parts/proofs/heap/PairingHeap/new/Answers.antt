use Rattle.fi_parts.proofs.Picked.{picked-empty, chosen-empty}
use Rattle.fi_parts.specs.HeapNodes.{value_in, is_in}
use Rattle.fi_parts.proofs.HeapViews.{heap-empty}
use Rattle.fi_parts.proofs.heap.PairingHeap.new.Goals as goal

pub invariant_of-result : goal.invariant_of-result
invariant_of-result g c = heap-empty g.T.Ord.cmp c.new.result c.new.ensures.empty c.new.ensures.root

pub returns : goal.returns
returns g c = λ i. record {
  live = picked-empty value_in c.new.result.store.slots c.new.ensures.empty i;
  members = chosen-empty is_in c.new.result.store.slots c.new.ensures.empty i;
}
