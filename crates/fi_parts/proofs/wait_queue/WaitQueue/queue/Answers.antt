use Rattle.std.proofs.Common.{ap, ◌∙◌}
use Rattle.fi_parts.proofs.QueueWalks.{walk_on}
use Rattle.fi_parts.proofs.wait_queue.WaitQueue.queue.Goals as goal

pub loop-next-preserved : goal.loop-next-preserved
loop-next-preserved g c = record {
  same = c.younger-next.ensures.same ∙ c.loop-next.invariant.same;
  walked = rw c.in_ok-push.ensures.ok
      (walk_on c.args.self.now.side.queue c.args.slots.now.items c.loop-next.slots.items c.loop-next.next c.in-Some.slot
      c.younger-next.result c.in-Some.is c.loop-next.invariant.walked
      (λ front rest is. c.younger-next.ensures.next front rest (ap (λ l. l.side.queue) c.loop-next.invariant.same ∙ is)));
}
