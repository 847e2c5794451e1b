use Rattle.std.proofs.Common.{sym, ◌∙◌}
use Rattle.fi_channels.proofs.SideSteps.{its_ticket, has_out, tied_named, named}
use Rattle.fi_channels.proofs.channel.two_sides.TwoSides.notice.Goals as goal

pub name-requires-clause-live : goal.name-requires-clause-live
name-requires-clause-live g c =
    c.self.invariant.claimed _ _ (its_ticket g.met.S.OneSide.is_side c.wait_queue_mut.ensures.value c.args.slot.0
    c.notice-waker.result.0.0 c.notice-waker.ensures.ticket)

pub name-requires-clause-no_pair : goal.name-requires-clause-no_pair
name-requires-clause-no_pair g c =
    sym (has_out g.met.S.OneSide.is_side c.wait_queue_mut.ensures.value c.self.inside.outbox c.self.invariant c.args.slot.0
    c.notice-waker.result.0.0 c.notice-waker.ensures.ticket)
    ∙ (rw (← c.self.view_is) at c.requires.no_pair)

pub invariant_of-self : goal.invariant_of-self
invariant_of-self g c =
    tied_named g.met.S.OneSide.is_side c.wait_queue_mut.ensures.value c.self.inside.outbox c.self.invariant c.args.slot.0
    c.notice-waker.result.0.0 c.notice-waker.ensures.ticket c.name.new.self
    c.unwrap.result c.notice-waker.ensures.rest c.waiter.ensures
    c.name.ensures.tickets c.name.ensures.pairs

pub returns : goal.returns
returns g c =
    rw (← c.self.view_is)
    (named g.met.S.OneSide.is_side c.wait_queue_mut.ensures.value c.self.inside.outbox c.self.invariant c.args.slot.0
    c.notice-waker.result.0.0 c.notice-waker.ensures.ticket c.name.new.self c.args.phase c.notice-waker.ensures.waker
    c.unwrap.ensures c.notice-waker.ensures.rest c.waiter.ensures c.name.ensures.pairs)
