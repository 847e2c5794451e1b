use Rattle.std.proofs.Common.{None, length}
use Rattle.fi_parts.specs.HeapForests.{span}
use Rattle.fi_parts.specs.HeapNodes.{links_of, InParts, Keeps}
use Rattle.fi_parts.proofs.heap_nodes.HeapNodes.meld_all.Given as goal

abbrev pub invariant-loop-tree : goal.invariant-loop-tree
invariant-loop-tree g l = record { parts : InParts g.T.Ord.cmp l.self l.self.root l.melded l.rest None; kept : Keeps l.fn.self l.self }

abbrev pub decreases-loop-tree : goal.decreases-loop-tree
decreases-loop-tree g l = span (links_of l.self) (length l.self.store.slots) l.rest
