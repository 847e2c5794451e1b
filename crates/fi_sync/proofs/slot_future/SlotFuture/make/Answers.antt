use Rattle.std.proofs.Common.{rules}
use Rattle.fi_sync.proofs.slot_future.SlotFuture.make.Goals as goal

pub returns-clause-made : goal.returns-clause-made
returns-clause-made g c =
    let made = c.in_ok-claim.ensures.made in
    (made.0, made.1, made.2, search rules, made.4)
