use Rattle.std.proofs.Common.{◌≡◌, ◌≤◌, [], length}
use Rattle.fi_parts.specs.Chunks.{chunks_of}
use Rattle.fi_parts.proofs.blocks.owner.BlockOwner.end.Given as goal

abbrev pub invariant-loop-chunks : goal.invariant-loop-chunks
invariant-loop-chunks g l =
    (l.places.blocks ≡ []) × (l.places.chunks ≡ chunks_of l.stack.items l.chunks) × (l.chunks ≤ length l.stack.items)

abbrev pub decreases-loop-chunks : goal.decreases-loop-chunks
decreases-loop-chunks g l = l.chunks
