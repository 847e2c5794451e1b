use Rattle.std.proofs.Common.{sym, ap, ◌∙◌}
use Rattle.std.specs.Option.{option_map}
use Rattle.fi_parts.specs.WaitQueueModel.{future_of}
use Rattle.fi_parts.proofs.WaitQueues.{get-mapped}
use Rattle.fi_parts.proofs.wait_queue.WaitQueue.future.Goals as goal

pub returns-in-Some : goal.returns-in-Some
returns-in-Some g c =
    rw (← c.self.view_is)
    (ap (option_map future_of) c.in-Some.ensures ∙ sym (get-mapped future_of c.self.inside.list.live c.args.slot.0))

pub returns-in-None : goal.returns-in-None
returns-in-None g c =
    rw (← c.self.view_is)
    (ap (option_map future_of) c.in-None.ensures ∙ sym (get-mapped future_of c.self.inside.list.live c.args.slot.0))
