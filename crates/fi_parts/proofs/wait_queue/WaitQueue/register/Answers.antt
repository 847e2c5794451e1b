use Rattle.std.proofs.Common.{is_some, ap, ◌∙◌, sym}
use Rattle.std.specs.FinMap as map
use Rattle.fi_parts.specs.ListModel.{item_of}
use Rattle.fi_parts.specs.Order.{youngest}
use Rattle.fi_parts.proofs.WaitQueues.{entry_lives, seen-joined}
use Rattle.fi_parts.proofs.Queues.{holds-reverse}
use Rattle.fi_parts.proofs.wait_queue.WaitQueue.register.Goals as goal

pub add_front-requires-clause-live : goal.add_front-requires-clause-live
add_front-requires-clause-live g c =
    entry_lives c.self.inside.list.live c.args.slot.0 (rw (← c.self.view_is) at c.requires.live)

pub add_front-requires-clause-apart : goal.add_front-requires-clause-apart
add_front-requires-clause-apart g c =
    sym (holds-reverse c.args.slot.0 c.self.inside.list.order) ∙ (rw (← c.self.view_is) at c.requires.apart)

pub set_youngest-requires : goal.set_youngest-requires
set_youngest-requires g c =
    ap (λ o. is_some (item_of c.add_front.new.self (youngest o))) c.add_front.ensures.order
    ∙ ap (λ l. is_some (map.get l c.args.slot.0)) c.add_front.ensures.live
    ∙ entry_lives c.self.inside.list.live c.args.slot.0 (rw (← c.self.view_is) at c.requires.live)

pub returns : goal.returns
returns g c =
    rw (← c.self.view_is)
    (seen-joined c.self.inside.list c.args.slot.0 c.args.waker c.add_front.new.self c.set_youngest.new.list
    c.add_front.ensures.live c.add_front.ensures.order c.set_youngest.ensures)
