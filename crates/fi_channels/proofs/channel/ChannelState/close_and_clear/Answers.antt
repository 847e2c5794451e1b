use Rattle.std.proofs.Common.{subst}
use Rattle.fi_channels.specs.ChannelFields.{machine_of}
use Rattle.fi_channels.specs.Cleared.{ClosesAndClears}
use Rattle.fi_channels.proofs.Cleared.{cleared_holds, no_send_waits}
use Rattle.fi_channels.proofs.channel.ChannelState.close_and_clear.Goals as goal

pub invariant_of-self : goal.invariant_of-self
invariant_of-self g c = cleared_holds g.B.RingBuf.bounded _ _ c.close_and_clear.result c.close_and_clear.ensures c.self.invariant

pub returns-clause-cleared : goal.returns-clause-cleared
returns-clause-cleared g c =
    subst (λ old. ClosesAndClears g.B.RingBuf.bounded old c.close_and_clear.result
    (machine_of g.B.RingBuf.bounded c.close_and_clear.new.self)) c.self.view_is c.close_and_clear.ensures

pub returns-clause-no_send_waits : goal.returns-clause-no_send_waits
returns-clause-no_send_waits g c =
    no_send_waits g.B.RingBuf.bounded _ _ c.close_and_clear.result c.close_and_clear.ensures
    (cleared_holds g.B.RingBuf.bounded _ _ c.close_and_clear.result c.close_and_clear.ensures c.self.invariant)
