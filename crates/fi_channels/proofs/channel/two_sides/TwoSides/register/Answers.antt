use Rattle.std.proofs.Common.{ap}
use Rattle.fi_parts.specs.Waiting.{registered}
use Rattle.fi_channels.proofs.SideSteps.{tied_still, changed}
use Rattle.fi_channels.proofs.channel.two_sides.TwoSides.register.Goals as goal

pub invariant_of-self : goal.invariant_of-self
invariant_of-self g c =
    tied_still g.met.S.OneSide.is_side c.wait_queue_mut.ensures.value c.self.inside.outbox c.register.ensures c.self.invariant

pub returns : goal.returns
returns g c =
    rw (← c.self.view_is) (changed g.met.S.OneSide.is_side c.wait_queue_mut.ensures.value c.self.inside.outbox
    c.self.inside.outbox (λ side. registered side c.args.slot.0 c.args.waker) (ap (λ l. l.side) c.register.ensures))
