use Rattle.std.proofs.Common.{sym, ◌∙◌}
use Rattle.fi_parts.proofs.HeapNodes.{contains-members_of}
use Rattle.fi_parts.proofs.heap.PairingHeap.contains.Goals as goal

pub returns : goal.returns
returns g c = rw (← c.self.view_is) (c.is_linked.ensures ∙ sym (contains-members_of c.self.inside.nodes _))
