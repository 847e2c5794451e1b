use Rattle.std.proofs.Common.{None, length}
use Rattle.fi_parts.specs.HeapForests.{span}
use Rattle.fi_parts.specs.HeapNodes.{links_of, InParts, Keeps}
use Rattle.fi_parts.proofs.heap_nodes.HeapNodes.pair_up.Given as goal

abbrev pub invariant-loop-left : goal.invariant-loop-left
invariant-loop-left g l = record { parts : InParts g.T.Ord.cmp l.self l.self.root None l.rest l.pairs; kept : Keeps l.fn.self l.self }

abbrev pub decreases-loop-left : goal.decreases-loop-left
decreases-loop-left g l = span (links_of l.self) (length l.self.store.slots) l.rest
