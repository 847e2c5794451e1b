use Rattle.fi_parts.proofs.HeapPieces.{older-linked}
use Rattle.fi_parts.proofs.heap_nodes.HeapNodes.meld.Goals as goal

pub adopt-requires-else-is_le-clause-older : goal.adopt-requires-else-is_le-clause-older
adopt-requires-else-is_le-clause-older g c = older-linked _ _ _ c.requires.second_held
