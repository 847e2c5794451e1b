use Rattle.fi_channels.proofs.ChannelStays.{all_stay}
use Rattle.fi_channels.proofs.ChannelLaws.{tries_send}
use Rattle.fi_channels.proofs.channel.ChannelState.try_send.Goals as goal

pub invariant_of-self : goal.invariant_of-self
invariant_of-self g c = (tries_send _ _ c.args.value c.try_send.result c.try_send.ensures c.self.invariant).1

pub returns-clause-all_stay : goal.returns-clause-all_stay
returns-clause-all_stay g c =
    rw (← c.self.view_is) (all_stay _ _ c.self.invariant
    (tries_send _ _ c.args.value c.try_send.result c.try_send.ensures c.self.invariant))
