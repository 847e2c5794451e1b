use Rattle.std.proofs.Common.{reverse, sym, ◌∙◌}
use Rattle.fi_parts.proofs.Queues.{holds-reverse}
use Rattle.fi_parts.proofs.WaitQueues.{order-cut, next-reversed}
use Rattle.fi_parts.proofs.wait_queue.WaitQueue.younger.Goals as goal

pub younger-requires : goal.younger-requires
younger-requires g c = sym (holds-reverse c.args.slot.0 c.self.inside.list.order) ∙ (rw (← c.self.view_is) at c.requires)

pub returns-clause-next : goal.returns-clause-next
returns-clause-next g c front rest is =
    next-reversed rest c.younger.result (c.younger.ensures.next (reverse rest) (reverse front)
    (order-cut c.self.inside.list.order c.args.slot.0 front rest (rw (← c.self.view_is) at is)))
