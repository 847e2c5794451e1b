use Rattle.std.proofs.Common.{refl}
use Rattle.fi_parts.specs.Waiting.{insert_fresh}
use Rattle.fi_channels.proofs.SideSteps.{tied_inserted, tied_still, changed, unchanged}
use Rattle.fi_channels.proofs.channel.two_sides.TwoSides.insert.Goals as goal

pub invariant_of-self : goal.invariant_of-self
invariant_of-self g c =
    let now = c.in-Ok.ensures.inserted in
    rw now.3 (tied_inserted g.met.S.OneSide.is_side c.wait_queue_mut.ensures.value c.self.inside.outbox c.in-Ok.slot.0 now.0
    c.in-Ok.ensures.no_ticket now.1 now.2 c.self.invariant)

pub invariant_of-self-2 : goal.invariant_of-self-2
invariant_of-self-2 g c =
    let same = c.in-Err.ensures.refused in
    rw same.1 (tied_still g.met.S.OneSide.is_side c.wait_queue_mut.ensures.value c.self.inside.outbox same.0 c.self.invariant)

pub returns-in-Ok-clause-inserted : goal.returns-in-Ok-clause-inserted
returns-in-Ok-clause-inserted g c =
    let now = c.in-Ok.ensures.inserted in
    rw (← c.self.view_is, now.3) (changed g.met.S.OneSide.is_side c.wait_queue_mut.ensures.value c.self.inside.outbox
    c.self.inside.outbox (λ side. insert_fresh side c.in-Ok.slot.0 c.args.asks) (rw now.2 refl))

pub returns-clause-refused : goal.returns-clause-refused
returns-clause-refused g c =
    let same = c.in-Err.ensures.refused in
    rw (← c.self.view_is, same.1) (unchanged g.met.S.OneSide.is_side c.wait_queue_mut.ensures.value c.self.inside.outbox
    same.0)
