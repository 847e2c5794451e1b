use Rattle.fi_parts.proofs.HeapNodes.{Keeps-itself, Keeps-relinks, back_to-some}
use Rattle.fi_parts.proofs.heap_nodes.HeapNodes.set_back_of.Goals as goal

pub returns-in-Some-clause-kept : goal.returns-in-Some-clause-kept
returns-in-Some-clause-kept g c = Keeps-relinks _ _ _ _ c.set_back.ensures (back_to-some _ _)

pub returns-in_default-clause-kept : goal.returns-in_default-clause-kept
returns-in_default-clause-kept g c = Keeps-itself _
