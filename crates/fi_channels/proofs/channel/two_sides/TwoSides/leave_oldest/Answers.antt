use Rattle.std.proofs.Common.{ap, ◌∙◌}
use Rattle.fi_channels.proofs.SideSteps.{same_waiters, tied_still, changed}
use Rattle.fi_channels.proofs.channel.two_sides.TwoSides.leave_oldest.Goals as goal

pub invariant_of-self : goal.invariant_of-self
invariant_of-self g c =
    tied_still g.met.S.OneSide.is_side c.wait_queue_mut.ensures.value c.self.inside.outbox c.in_err-slot.ensures.1
    c.self.invariant

pub invariant_of-self-2 : goal.invariant_of-self-2
invariant_of-self-2 g c =
    tied_still g.met.S.OneSide.is_side c.wait_queue_mut.ensures.value c.self.inside.outbox c.in_ok-slot.ensures.2
    c.self.invariant

pub returns : goal.returns
returns g c =
    let one = c.in_ok-slot.ensures in (
      one.0,
      rw (← c.self.view_is) (ap (λ side. side.queue) (same_waiters g.met.S.OneSide.is_side c.wait_queue_mut.ensures.value
          c.self.inside.outbox) ∙ one.1),
      rw (← c.self.view_is)
          (changed g.met.S.OneSide.is_side c.wait_queue_mut.ensures.value c.self.inside.outbox c.self.inside.outbox
          (λ side. record side { queue = one.0 }) (ap (λ l. l.side) one.2)),
    )
