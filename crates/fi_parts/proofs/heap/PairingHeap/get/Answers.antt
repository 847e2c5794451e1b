use Rattle.std.proofs.Common.{sym, ◌∙◌}
use Rattle.fi_parts.proofs.HeapNodes.{get-live_of}
use Rattle.fi_parts.proofs.heap.PairingHeap.get.Goals as goal

pub returns : goal.returns
returns g c = rw (← c.self.view_is) (c.get.ensures ∙ sym (get-live_of c.self.inside.nodes _))
