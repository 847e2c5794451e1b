use Rattle.std.proofs.Common.{refl, rules as lemmas}
use Rattle.fi_parts.proofs.Machines.{removes, others_stay}
use Rattle.fi_channels.specs.Oneshot.{can_receive}
use Rattle.fi_channels.specs.OneshotLaws.{receives_are_fit}
use Rattle.fi_channels.specs.StateLaws.{rules, same_preserves}
use Rattle.fi_channels.proofs.state.StateBroadcastStateChannelReceiveAccess.leave_receive.Goals as goal

pub invariant_of-self-2 : goal.invariant_of-self-2
invariant_of-self-2 g c = same_preserves _ _ (removes rules c.args.slot.0 _ _ (search lemmas)) refl c.self.invariant

pub returns-clause-others : goal.returns-clause-others
returns-clause-others g c =
    rw (← c.self.view_is) (others_stay rules can_receive receives_are_fit _ _ c.self.invariant.0.waiters c.args.slot.0
    (removes rules c.args.slot.0 _ _ (search lemmas)))
