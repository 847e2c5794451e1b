use Rattle.std.proofs.Common.{refl, arith}
use Rattle.fi_parts.specs.Buffer.{empty}
use Rattle.fi_channels.specs.ChannelFields.{machine_of}
use Rattle.fi_channels.proofs.ChannelLaws.{made_holds}
use Rattle.fi_channels.proofs.channel.ChannelState.new.Goals as goal

pub invariant_of-result : goal.invariant_of-result
invariant_of-result g c =
    made_holds (machine_of g.B.RingBuf.bounded c.new.result)
    (empty (g.B.RingBuf.capacity_for 0) 0) c.new.ensures refl (omega arith, omega arith)
