use Rattle.std.proofs.Common.{subst}
use Rattle.fi_parts.proofs.BlocksFreed.{Drains, drains-live, drains-next, drains-end, drains-all}
use Rattle.fi_parts.proofs.blocks.Blocks.drop.Goals as goal

pub loop-slot-init : goal.loop-slot-init
loop-slot-init g c =
    rw (c.into_iter-slot-iterator.ensures.into_iter_gives)
    (drains-all c.self.inside.slab c.self.inside.linked c.self.invariant)

pub free-requires : goal.free-requires
free-requires g c =
    let bs = c.loop-slot.linked.blocks.owner.blocks in
    drains-live (c.in-Some._slot, c.in-Some.at) c.next.new.self bs (subst (λ l. Drains l bs) c.in-Some.ensures.steps c.loop-slot.invariant)

pub loop-slot-preserved : goal.loop-slot-preserved
loop-slot-preserved g c =
    let bs = c.loop-slot.linked.blocks.owner.blocks in
    drains-next (c.in-Some._slot, c.in-Some.at) c.next.new.self bs c.free.new.self.blocks.owner.blocks
    (subst (λ l. Drains l bs) c.in-Some.ensures.steps c.loop-slot.invariant) c.free.ensures.blocks c.free.ensures.gone

pub end-requires : goal.end-requires
end-requires g c =
    let bs = c.loop-slot.linked.blocks.owner.blocks in
    drains-end bs (subst (λ l. Drains l bs) c.in-None.ensures.steps.0 c.loop-slot.invariant)
