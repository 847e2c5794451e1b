use Rattle.fi_parts.proofs.HeapViews.{members-live}
use Rattle.fi_parts.proofs.heap.PairingHeap.members_are_live.Goals as goal

pub returns : goal.returns
returns g c = rw (← c.self.view_is) (members-live c.self.inside.nodes)
