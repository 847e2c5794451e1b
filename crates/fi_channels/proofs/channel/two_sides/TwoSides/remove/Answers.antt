use Rattle.std.proofs.Common.{ap, ◌∙◌}
use Rattle.fi_parts.specs.Tied.{out_of}
use Rattle.fi_parts.specs.Waiting.{phase_of, without_future}
use Rattle.fi_channels.specs.SideView.{two_sides_of}
use Rattle.fi_channels.proofs.SideSteps.{its_ticket, same_waiters, tied_still, tied_removed, changed, unchanged, out_without, waker_out}
use Rattle.fi_channels.proofs.channel.two_sides.TwoSides.remove.Goals as goal

pub invariant_of-self : goal.invariant_of-self
invariant_of-self g c =
    tied_still g.met.S.OneSide.is_side c.wait_queue_mut.ensures.value c.self.inside.outbox c.in-None.ensures.absent.1 c.self.invariant

pub returns-in-None-clause-absent : goal.returns-in-None-clause-absent
returns-in-None-clause-absent g c = (
  rw (← c.self.view_is) (ap (λ side. phase_of side c.args.slot.0)
      (same_waiters g.met.S.OneSide.is_side c.wait_queue_mut.ensures.value c.self.inside.outbox)
      ∙ c.in-None.ensures.absent.0),
  rw (← c.self.view_is) (unchanged g.met.S.OneSide.is_side c.wait_queue_mut.ensures.value c.self.inside.outbox
      c.in-None.ensures.absent.1),
)

pub release-named-requires : goal.release-named-requires
release-named-requires g c =
    c.self.invariant.claimed _ _ (its_ticket g.met.S.OneSide.is_side c.wait_queue_mut.ensures.value c.args.slot.0
    c.in-Some.entry.ticket.0 c.in-Some.ensures.ticket)

pub invariant_of-self-2 : goal.invariant_of-self-2
invariant_of-self-2 g c =
    let left = c.release-named.ensures in
    tied_removed g.met.S.OneSide.is_side c.wait_queue_mut.ensures.value c.self.inside.outbox c.release-named.new.outbox
    c.args.slot.0 c.in-Some.entry.ticket.0
    c.in-Some.ensures.ticket c.in-Some.ensures.removed left.tickets left.pairs c.self.invariant

pub returns-clause-waker : goal.returns-clause-waker
returns-clause-waker g c =
    c.release-named.ensures.waker
    ∙ (rw (← c.self.view_is) (waker_out g.met.S.OneSide.is_side c.wait_queue_mut.ensures.value c.self.inside.outbox
    c.self.invariant c.args.slot.0
    c.in-Some.entry.ticket.0 c.in-Some.ensures.ticket))

pub returns-clause-removed : goal.returns-clause-removed
returns-clause-removed g c =
    let both = two_sides_of c.self.inside.wait_queues c.self.inside.outbox in
    let side = without_future (g.S.OneSide.side.waiters both) c.args.slot.0 in
    rw (← c.self.view_is)
    (changed g.met.S.OneSide.is_side c.wait_queue_mut.ensures.value c.self.inside.outbox c.release-named.new.outbox
    (λ side. without_future side c.args.slot.0)
    (ap (λ l. l.side) c.in-Some.ensures.removed)
    ∙ ap (λ out. g.S.OneSide.side.put both side out) (ap out_of c.release-named.ensures.pairs
    ∙ out_without g.met.S.OneSide.is_side c.wait_queue_mut.ensures.value c.self.inside.outbox c.self.invariant c.args.slot.0
    c.in-Some.entry.ticket.0 c.in-Some.ensures.ticket))
