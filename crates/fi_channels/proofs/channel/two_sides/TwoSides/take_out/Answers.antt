use Rattle.std.proofs.Common.{ap, ◌∙◌}
use Rattle.fi_parts.specs.NamedPairs.{waker_in_pair}
use Rattle.fi_parts.specs.Tied.{out_of}
use Rattle.fi_channels.specs.SideView.{ticket_in}
use Rattle.fi_parts.proofs.Tied.{tied_after_take_out}
use Rattle.fi_channels.proofs.SideSteps.{out_without, waker_out}
use Rattle.fi_channels.proofs.channel.two_sides.TwoSides.take_out.Goals as goal

pub invariant_of-self : goal.invariant_of-self
invariant_of-self g c =
    tied_after_take_out (ticket_in c.self.inside.wait_queues) c.self.inside.outbox c.self.invariant c.ticket-ticket.result.0
    c.take_out.new.self c.take_out.ensures.tickets c.take_out.ensures.pairs

pub returns-clause-waker : goal.returns-clause-waker
returns-clause-waker g c =
    c.waker_from.ensures ∙ ap waker_in_pair c.take_out.ensures.value
    ∙ (rw (← c.self.view_is) (waker_out g.met.S.OneSide.is_side c.wait_queue.ensures c.self.inside.outbox c.self.invariant
    c.args.slot.0
    c.ticket-ticket.result.0 c.ticket-ticket.ensures))

pub returns-clause-rest : goal.returns-clause-rest
returns-clause-rest g c =
    let wait_queues = c.self.inside.wait_queues in
    let out = ap out_of c.take_out.ensures.pairs
    ∙ out_without g.met.S.OneSide.is_side c.wait_queue.ensures c.self.inside.outbox c.self.invariant c.args.slot.0
    c.ticket-ticket.result.0 c.ticket-ticket.ensures in
    rw (← c.self.view_is) (λ i. record { sends = wait_queues.sends.side; receives = wait_queues.receives.side; out = out i })
