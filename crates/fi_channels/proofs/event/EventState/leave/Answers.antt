use Rattle.std.proofs.Common.{rules as lemmas}
use Rattle.fi_parts.proofs.Effects.{waits_are_fit}
use Rattle.fi_parts.proofs.Machines.{line_preserves, removes, others_stay}
use Rattle.fi_channels.specs.Event.{can_be_polled}
use Rattle.fi_channels.specs.EventLaws.{rules}
use Rattle.fi_channels.proofs.event.EventState.leave.Goals as goal

pub invariant_of-self-2 : goal.invariant_of-self-2
invariant_of-self-2 g c = line_preserves rules _ _ (removes rules c.args.slot.0 _ _ (search lemmas)) c.self.invariant

pub returns-clause-others : goal.returns-clause-others
returns-clause-others g c =
    rw (← c.self.view_is) (others_stay rules can_be_polled waits_are_fit _ _ c.self.invariant.0 c.args.slot.0
    (removes rules c.args.slot.0 _ _ (search lemmas)))
