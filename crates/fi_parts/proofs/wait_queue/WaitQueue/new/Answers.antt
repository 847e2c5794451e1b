use Rattle.fi_parts.proofs.WaitQueues.{wait_queue-empty}
use Rattle.fi_parts.proofs.wait_queue.WaitQueue.new.Goals as goal

pub returns : goal.returns
returns g c = rw c.new.ensures (wait_queue-empty _ _)
