use Rattle.std.proofs.Common.{◌≡◌, ◌+◌, ◌-◌, length}
use Rattle.fi_parts.proofs.QueueWalks.{Walked}
use Rattle.fi_parts.proofs.wait_queue.WaitQueue.queue.Given as goal

abbrev pub invariant-loop-next : goal.invariant-loop-next
invariant-loop-next g l = record {
  same : l.self ≡ l.fn.self;
  walked : Walked l.fn.self.side.queue l.fn.slots.items l.slots.items l.next;
}

abbrev pub decreases-loop-next : goal.decreases-loop-next
decreases-loop-next g l = length l.fn.self.side.queue + length l.fn.slots.items - length l.slots.items
