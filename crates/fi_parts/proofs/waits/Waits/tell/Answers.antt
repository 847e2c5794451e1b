use Rattle.fi_parts.proofs.Told.{live_if_waits, waits-ordered, unpaired-ordered}
use Rattle.fi_parts.proofs.waits.Waits.tell.Goals as goal

pub notice-requires-clause-live : goal.notice-requires-clause-live
notice-requires-clause-live g c =
    live_if_waits c.args.self.now.side c.args.slot.0
    (waits-ordered c.args.keeps_place c.args.self.now c.args.slot.0 c.requires.ordered c.requires.queued)

pub notice-requires-clause-no_pair : goal.notice-requires-clause-no_pair
notice-requires-clause-no_pair g c =
    unpaired-ordered c.args.keeps_place c.args.self.now c.args.slot.0 c.requires.ordered
