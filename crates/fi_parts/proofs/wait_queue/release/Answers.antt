use Rattle.std.proofs.Common.{ap, ◌∙◌}
use Rattle.fi_parts.specs.Pairs.{has}
use Rattle.fi_parts.proofs.Queues.{has-without_same}
use Rattle.fi_parts.proofs.wait_queue.release.Goals as goal

pub free-requires-clause-no_pair : goal.free-requires-clause-no_pair
free-requires-clause-no_pair g c =
    ap (has c.args.ticket.0) c.take_pair-named.ensures.pairs ∙ has-without_same c.args.ticket.0 c.args.outbox.now.pairs
