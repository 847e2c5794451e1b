use Rattle.std.proofs.Common.{is_some, option_copied, sym, ap, ◌∙◌}
use Rattle.fi_parts.proofs.WaitQueues.{entry_lives, some_from_copied, its_ticket}
use Rattle.fi_parts.proofs.wait_queue.WaitQueue.ticket.Goals as goal

pub unwrap-requires : goal.unwrap-requires
unwrap-requires g c =
    some_from_copied c.get.result
    (ap is_some c.get.ensures ∙ entry_lives c.self.inside.list.live c.args.slot.0 (rw (← c.self.view_is) at c.requires))

pub returns : goal.returns
returns g c =
    rw (← c.self.view_is)
    (its_ticket c.self.inside.list c.args.slot.0 c.unwrap.result.now
    (sym c.get.ensures ∙ ap option_copied c.unwrap.ensures))
