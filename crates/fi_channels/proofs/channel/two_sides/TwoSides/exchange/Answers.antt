use Rattle.std.proofs.Common.{ap}
use Rattle.fi_parts.specs.Waiting.{exchange}
use Rattle.fi_channels.proofs.SideSteps.{tied_still, changed}
use Rattle.fi_channels.proofs.channel.two_sides.TwoSides.exchange.Goals as goal

pub invariant_of-self : goal.invariant_of-self
invariant_of-self g c =
    tied_still g.met.S.OneSide.is_side c.wait_queue_mut.ensures.value c.self.inside.outbox c.exchange.ensures.rest
    c.self.invariant

pub returns-clause-rest : goal.returns-clause-rest
returns-clause-rest g c =
    rw (← c.self.view_is) (changed g.met.S.OneSide.is_side c.wait_queue_mut.ensures.value c.self.inside.outbox
    c.self.inside.outbox (λ side. exchange side c.args.slot.0 c.args.asks) (ap (λ l. l.side) c.exchange.ensures.rest))
