use Rattle.std.proofs.Common.{sym, ap, ◌∙◌}
use Rattle.fi_parts.proofs.WaitQueues.{phase_at, phase-seen}
use Rattle.fi_parts.proofs.wait_queue.WaitQueue.phase.Goals as goal

pub returns-in-Some : goal.returns-in-Some
returns-in-Some g c =
    rw (← c.self.view_is) (ap phase_at c.in-Some.ensures ∙ sym (phase-seen c.self.inside.list.live c.args.slot.0))

pub returns-in-None : goal.returns-in-None
returns-in-None g c =
    rw (← c.self.view_is) (ap phase_at c.in-None.ensures ∙ sym (phase-seen c.self.inside.list.live c.args.slot.0))
