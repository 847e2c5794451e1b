use Rattle.std.proofs.Common.{subst, sym}
use Rattle.fi_channels.proofs.ChannelLaws.{Holds, cancels_receive}
use Rattle.fi_channels.proofs.ChannelStays.{other_receives_stay, same_stay}
use Rattle.fi_channels.proofs.Results.{left_either_way}
use Rattle.fi_channels.proofs.channel.ChannelStateChannelReceiveAccess.leave_receive.Goals as goal

pub invariant_of-self : goal.invariant_of-self
invariant_of-self g c =
    left_either_way _ _ (Holds _) _ _ c.leave_receive.result _ c.leave_receive.ensures
    (λ did. (cancels_receive _ _ c.args.slot.0 did c.self.invariant).1)
    (λ same. subst Holds (sym same) c.self.invariant)

pub returns-clause-others : goal.returns-clause-others
returns-clause-others g c =
    rw (← c.self.view_is)
    (left_either_way _ _ _ _ _ c.leave_receive.result _ c.leave_receive.ensures
    (λ did. other_receives_stay _ _ c.self.invariant c.args.slot.0 (cancels_receive _ _ c.args.slot.0 did c.self.invariant))
    (λ same. same_stay _ _ c.self.invariant _ _ same))
