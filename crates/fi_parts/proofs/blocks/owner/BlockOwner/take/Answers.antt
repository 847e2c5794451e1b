use Rattle.std.proofs.Common.{IsSome, sym, subst, arith}
use Rattle.fi_parts.specs.OwnedBlocks.{OwnedBlocks}
use Rattle.fi_parts.specs.Placed.{at_ptr}
use Rattle.fi_parts.proofs.ChunkPlaces.{kept_freed, room_left}
use Rattle.fi_parts.proofs.blocks.owner.BlockOwner.take.Goals as goal

pub push_reserved-requires : goal.push_reserved-requires
push_reserved-requires g c =
    let room =
    room_left c.self.inside.places c.self.inside.stack.items c.self.inside.stack.cap c.self.inside.chunks c.args.at.ptr c.self.invariant
    (subst (λ (o : OwnedBlocks g.row.T.Denot). IsSome (at_ptr o.blocks c.args.at.ptr)) (sym c.self.view_is) c.requires) in
    let len = c.self.inside.stack.ok.0 in omega (arith, room, len)

pub invariant_of-self : goal.invariant_of-self
invariant_of-self g c =
    kept_freed c.self.inside.places c.take-block.new.self c.self.inside.stack.items c.push_reserved.new.self.items
    c.self.inside.stack.cap c.push_reserved.new.self.cap c.self.inside.chunks c.args.at c.self.invariant c.push_reserved.ensures.capacity
    c.push_reserved.ensures.items
    (subst (λ (o : OwnedBlocks g.row.T.Denot). IsSome (at_ptr o.blocks c.args.at.ptr)) (sym c.self.view_is) c.requires)
    c.take-block.ensures.blocks c.take-block.ensures.vacant c.take-block.ensures.chunks
