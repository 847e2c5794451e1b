use Rattle.std.proofs.Common.{reverse, ap}
use Rattle.fi_parts.proofs.WaitQueues.{oldest-first}
use Rattle.fi_parts.proofs.wait_queue.WaitQueue.oldest.Goals as goal

pub returns-in-Some : goal.returns-in-Some
returns-in-Some g c =
    rw (← c.self.view_is)
    (let last = c.in-Some.ensures in (reverse last.0, oldest-first c.self.inside.list c.in-Some.oldest.0 last.0 last.1))

pub returns-in-None : goal.returns-in-None
returns-in-None g c = rw (← c.self.view_is) (ap reverse c.in-None.ensures)
