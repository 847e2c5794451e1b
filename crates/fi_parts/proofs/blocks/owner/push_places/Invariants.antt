use Rattle.std.proofs.Common.{◌≡◌, ◌+◌, ◌≤◌}
use Rattle.std.specs.Vec.{vec_len, vec_capacity}
use denote.Param.{param}
use Rattle.fi_parts.proofs.ChunkPlaces.{Pushed}
use Rattle.fi_parts.proofs.blocks.owner.push_places.Given as goal

abbrev pub invariant-loop-left : goal.invariant-loop-left
invariant-loop-left g l =
    Pushed (param 0 g.row.T) l.fn.stack.items l.first.ptr l.len l.left l.stack.items × (vec_len l.stack + l.left ≤ vec_capacity l.stack)
    × (vec_len l.stack + l.left ≡ vec_len l.fn.stack + l.len) × (vec_capacity l.stack ≡ vec_capacity l.fn.stack)

abbrev pub decreases-loop-left : goal.decreases-loop-left
decreases-loop-left g l = l.left
