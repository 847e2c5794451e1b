use Rattle.std.proofs.Common.{reverse, refl}
use Rattle.fi_parts.proofs.WaitQueues.{oldest-first, seen-queue}
use Rattle.fi_parts.proofs.wait_queue.WaitQueue.leave_oldest.Goals as goal

pub returns : goal.returns
returns g c =
    rw (← c.self.view_is) (
      reverse c.remove_last.new.self.order,
      oldest-first c.self.inside.list c.in_ok-slot.slot.0 c.remove_last.new.self.order c.in_ok-slot.ensures.order,
      seen-queue c.self.inside.list c.remove_last.new.self _ c.in_ok-slot.ensures.live refl,
    )
