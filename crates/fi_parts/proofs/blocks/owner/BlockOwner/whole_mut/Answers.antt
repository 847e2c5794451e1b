use Rattle.std.proofs.Common.{refl}
use Rattle.fi_parts.specs.BlockLending.{with_place}
use Rattle.fi_parts.proofs.ChunkPlaces.{kept_written}
use Rattle.fi_parts.proofs.blocks.owner.BlockOwner.whole_mut.Goals as goal

pub invariant_of-self-lent : goal.invariant_of-self-lent
invariant_of-self-lent g c = λ w.
    kept_written c.self.inside.places (with_place c.self.inside.places c.args.at.ptr w) c.self.inside.stack.items
    c.self.inside.stack.cap c.self.inside.chunks c.args.at.ptr w c.self.invariant refl refl refl
