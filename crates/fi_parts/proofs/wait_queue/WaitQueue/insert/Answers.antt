use Rattle.std.proofs.Common.{ap}
use Rattle.fi_parts.specs.WaitQueueModel.{wait_queue_of}
use Rattle.fi_parts.proofs.WaitQueues.{free_name, free_ticket, seen-inserted}
use Rattle.fi_parts.proofs.Tied.{given_back}
use Rattle.fi_parts.proofs.wait_queue.WaitQueue.insert.Goals as goal

pub returns-in-Ok-claim-clause-was_free : goal.returns-in-Ok-claim-clause-was_free
returns-in-Ok-claim-clause-was_free g c =
    rw (← c.self.view_is) (free_name c.self.inside.list c.in-Ok-claim.slot.0 c.in-Ok-claim.ensures.was_free)

pub returns-in-Ok-claim-clause-no_ticket : goal.returns-in-Ok-claim-clause-no_ticket
returns-in-Ok-claim-clause-no_ticket g c =
    rw (← c.self.view_is) (free_ticket c.self.inside.list c.in-Ok-claim.slot.0 c.in-Ok-claim.ensures.was_free)

pub returns-in-Ok-claim-clause-inserted : goal.returns-in-Ok-claim-clause-inserted
returns-in-Ok-claim-clause-inserted g c = (
  c.in-Ok.ticket.0,
  c.in-Ok.ensures.was_free,
  rw (← c.self.view_is)
      (seen-inserted c.self.inside.list c.in-Ok-claim.slot.0 c.in-Ok.ticket c.args.asks _
      c.in-Ok-claim.ensures.claimed),
  c.in-Ok.ensures.claimed,
)

pub returns-clause-refused : goal.returns-clause-refused
returns-clause-refused g c = (
  rw (← c.self.view_is)
      (ap wait_queue_of c.in-Err-claim.ensures.refused),
  given_back _ _ _ c.in-Ok.ticket.0 c.in-Ok.ensures.was_free c.in-Ok.ensures.claimed c.free.ensures,
)
