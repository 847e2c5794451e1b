use Rattle.std.proofs.Common.{reverse, ap, ◌∙◌}
use Rattle.fi_parts.proofs.Queues.{reverse-without}
use Rattle.fi_parts.proofs.WaitQueues.{seen-queue}
use Rattle.fi_parts.proofs.wait_queue.WaitQueue.leave.Goals as goal

pub returns : goal.returns
returns g c =
    let list = c.self.inside.list in
    rw (← c.self.view_is) (seen-queue list c.remove.new.self _ c.remove.ensures.live
    (ap reverse c.remove.ensures.order ∙ reverse-without c.args.slot.0 list.order))
