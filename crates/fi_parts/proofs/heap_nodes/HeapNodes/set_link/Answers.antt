use Rattle.fi_parts.proofs.HeapForests.{child_to-some, next_to-some}
use Rattle.fi_parts.proofs.HeapNodes.{KeepsValues-relinks}
use Rattle.fi_parts.proofs.heap_nodes.HeapNodes.set_link.Goals as goal

pub returns-in-Parent-clause-kept : goal.returns-in-Parent-clause-kept
returns-in-Parent-clause-kept g c = KeepsValues-relinks _ _ _ _ c.set_child.ensures (child_to-some _ _)

pub returns-in-Sibling-clause-kept : goal.returns-in-Sibling-clause-kept
returns-in-Sibling-clause-kept g c = KeepsValues-relinks _ _ _ _ c.set_next.ensures (next_to-some _ _)
