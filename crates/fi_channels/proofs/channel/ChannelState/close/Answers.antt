use Rattle.fi_channels.proofs.ChannelStays.{all_stay}
use Rattle.fi_channels.proofs.ChannelLaws.{closes}
use Rattle.fi_channels.proofs.channel.ChannelState.close.Goals as goal

pub invariant_of-self : goal.invariant_of-self
invariant_of-self g c = (closes _ _ c.close.result c.close.ensures c.self.invariant).1

pub returns-clause-all_stay : goal.returns-clause-all_stay
returns-clause-all_stay g c =
    rw (← c.self.view_is) (all_stay _ _ c.self.invariant (closes _ _ c.close.result c.close.ensures c.self.invariant))
