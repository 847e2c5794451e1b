-- What two wait queues end as, where a `&mut` to one of them is returned.
use Rattle.std.specs.Borrow.{Lends, Fml, RattleType, MutBor}
use Rattle.fi_parts.specs.WaitQueueModel.{WaitQueueModel}
use Rattle.fi_parts.specs.contracts.wait_queue.WaitQueue as one
use Rattle.fi_channels.specs.SideView.{SideView}
use Rattle.fi_channels.specs.contracts.channel.two_sides.WaitQueues as both
use Rattle.fi_channels.specs.declared.channel.two_sides.WaitQueues.{WaitQueues}

module _ (D E A W : RattleType) (s : SideView D.Denot E.Denot A.Denot W.Denot) where
  abbrev pub LendsWaitQueue : MutBor (WaitQueues D.Denot E.Denot W.Denot) → MutBor (WaitQueueModel A.Denot W.Denot) → Fml
  LendsWaitQueue wait_queues r = Lends (both.the_row D E W) (one.the_row A W) wait_queues r (s.with_queue wait_queues.now)
