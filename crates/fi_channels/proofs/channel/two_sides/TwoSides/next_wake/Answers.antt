use Rattle.fi_channels.specs.SideView.{ticket_in}
use Rattle.fi_parts.proofs.Tied.{tied_after_pop}
use Rattle.fi_channels.proofs.channel.two_sides.TwoSides.next_wake.Goals as goal

pub invariant_of-self : goal.invariant_of-self
invariant_of-self g c =
    tied_after_pop (ticket_in c.self.inside.wait_queues) c.self.inside.outbox c.self.invariant c.pop.new.self
    c.pop.ensures.tickets c.pop.ensures.pairs
