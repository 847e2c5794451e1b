use Rattle.std.proofs.Common.{refl, sym, ◌∙◌}
use Rattle.fi_parts.specs.Tied.{waiting_of}
use Rattle.fi_parts.proofs.Waiting.{lives_as}
use Rattle.fi_parts.proofs.WaiterPolls.{polled_lives, stayed}
use Rattle.fi_parts.proofs.waits.Waits.poll.Goals as goal

pub take_out-requires : goal.take_out-requires
take_out-requires g c =
    let polled = c.in-Ok-Joins.ensures.polled in
    let side = c.self.inside.wait_queue.side in
    rw polled.4 (polled_lives c.args.ends polled.0 side c.args.slot.0 c.args.waker (lives_as side c.args.slot.0 polled.0 polled.1))

pub take_out-requires-in-Ok-Ends : goal.take_out-requires-in-Ok-Ends
take_out-requires-in-Ok-Ends g c =
    let polled = c.in-Ok-Ends.ensures.polled in
    let side = c.self.inside.wait_queue.side in
    rw polled.4 (polled_lives c.args.ends polled.0 side c.args.slot.0 c.args.waker (lives_as side c.args.slot.0 polled.0 polled.1))

pub returns-in-Ok-Stays-clause-polled : goal.returns-in-Ok-Stays-clause-polled
returns-in-Ok-Stays-clause-polled g c =
    let polled = c.in-Ok-Stays.ensures.polled in
    let old = waiting_of c.self.inside.wait_queue c.self.inside.outbox in
    rw (← c.self.view_is)
    (stayed c.args.ends polled.0 c.in-Ok-Stays.before old c.args.slot.0 c.args.waker
    (waiting_of c.poll.new.self c.self.inside.outbox) (rw (← c.self.view_is) at c.requires.ordered) polled.1
    (sym c.in-Ok-Stays.field-0-is ∙ polled.3) (rw polled.4 refl))
