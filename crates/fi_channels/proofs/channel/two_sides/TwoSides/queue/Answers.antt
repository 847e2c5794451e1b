use Rattle.fi_channels.proofs.SideSteps.{same_waiters, tied_still, unchanged}
use Rattle.fi_channels.proofs.channel.two_sides.TwoSides.queue.Goals as goal

pub invariant_of-self : goal.invariant_of-self
invariant_of-self g c =
    tied_still g.met.S.OneSide.is_side c.wait_queue_mut.ensures.value c.self.inside.outbox c.queue.ensures.same c.self.invariant

pub returns-clause-same : goal.returns-clause-same
returns-clause-same g c =
    rw (← c.self.view_is)
    (unchanged g.met.S.OneSide.is_side c.wait_queue_mut.ensures.value c.self.inside.outbox c.queue.ensures.same)

pub returns-clause-appended : goal.returns-clause-appended
returns-clause-appended g c =
    rw (← c.self.view_is, same_waiters g.met.S.OneSide.is_side c.wait_queue_mut.ensures.value c.self.inside.outbox)
    c.queue.ensures.appended
