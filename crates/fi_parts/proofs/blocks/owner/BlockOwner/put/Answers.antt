use Rattle.std.proofs.Common.{arith}
use Rattle.fi_parts.proofs.ChunkPlaces.{popped_vacant, kept_popped}
use Rattle.fi_parts.proofs.blocks.owner.BlockOwner.put.Goals as goal

pub put-requires : goal.put-requires
put-requires g c =
    popped_vacant c.make_room-made.new.places c.make_room-made.new.stack.items c.take_last-at.new.self.items c.make_room-made.new.stack.cap
    c.make_room-made.new.chunks c.take_last-at.result c.in_default.ensures.kept c.take_last-at.ensures.items
    (λ same. let room = c.in_default.ensures.vacant in omega (arith, room, same))

pub invariant_of-self-2 : goal.invariant_of-self-2
invariant_of-self-2 g c =
    kept_popped c.make_room-made.new.places c.make_room-made.new.stack.items c.take_last-at.new.self.items c.make_room-made.new.stack.cap
    c.make_room-made.new.chunks c.take_last-at.result c.in_default.ensures.kept c.take_last-at.ensures.items
    (λ same. let room = c.in_default.ensures.vacant in omega (arith, room, same))
    c.put.new.self c.take_last-at.new.self.cap _ c.take_last-at.ensures.capacity c.put.ensures.blocks c.put.ensures.vacant c.put.ensures.chunks
