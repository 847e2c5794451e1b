use Rattle.std.proofs.Common.{ap}
use Rattle.fi_parts.specs.Waiting.{with_phase}
use Rattle.fi_channels.proofs.SideSteps.{tied_still, changed}
use Rattle.fi_channels.proofs.channel.two_sides.TwoSides.set_phase.Goals as goal

pub invariant_of-self : goal.invariant_of-self
invariant_of-self g c =
    tied_still g.met.S.OneSide.is_side c.wait_queue_mut.ensures.value c.self.inside.outbox c.set_phase.ensures.rest
    c.self.invariant

pub returns-clause-rest : goal.returns-clause-rest
returns-clause-rest g c =
    rw (← c.self.view_is) (changed g.met.S.OneSide.is_side c.wait_queue_mut.ensures.value c.self.inside.outbox
    c.self.inside.outbox (λ side. record side { live = with_phase side.live c.args.slot.0 c.args.phase })
    (ap (λ l. l.side) c.set_phase.ensures.rest))
