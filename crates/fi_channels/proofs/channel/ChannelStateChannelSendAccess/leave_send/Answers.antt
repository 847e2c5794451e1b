use Rattle.std.proofs.Common.{subst, sym}
use Rattle.fi_channels.proofs.ChannelLaws.{Holds, cancels_send}
use Rattle.fi_channels.proofs.ChannelStays.{other_sends_stay, same_stay}
use Rattle.fi_channels.proofs.Results.{either_way}
use Rattle.fi_channels.proofs.channel.ChannelStateChannelSendAccess.leave_send.Goals as goal

pub invariant_of-self : goal.invariant_of-self
invariant_of-self g c =
    either_way _ _ _ (Holds _) c.leave_send.ensures.cancelled c.leave_send.ensures.unchanged
    (λ did. (cancels_send _ _ c.args.slot.0 c.leave_send.result.0 did c.self.invariant).1)
    (λ same. subst Holds (sym same.0) c.self.invariant)

pub returns-clause-others : goal.returns-clause-others
returns-clause-others g c =
    rw (← c.self.view_is)
    (either_way _ _ _ _ c.leave_send.ensures.cancelled c.leave_send.ensures.unchanged
    (λ did. other_sends_stay _ _ c.self.invariant c.args.slot.0
    (cancels_send _ _ c.args.slot.0 c.leave_send.result.0 did c.self.invariant))
    (λ same. same_stay _ _ c.self.invariant _ _ same.0))
