use Rattle.std.proofs.Common.{◌≡◌, Some, rules}
use Rattle.fi_parts.specs.Waiting.{phase_of}
use Rattle.fi_parts.specs.declared.phase.Phase.TheVariants.{Ended}
use Rattle.fi_channels.specs.declared.channel.fields.ReceiveKind.TheVariants.{Stream}
use Rattle.fi_channels.proofs.ChannelSteps.{ends_again}
use Rattle.fi_channels.proofs.channel.fields.ChannelFields.poll_as.Goals as goal

pub returns-in-Stream-Stream-Ended-clause-polled : goal.returns-in-Stream-Stream-Ended-clause-polled
returns-in-Stream-Stream-Ended-clause-polled g c =
    let streams : c.args.kind ≡ Stream = search rules in
    let was : phase_of c.args.self.now.waiters.receives c.args.slot.0 ≡ Some Ended = search rules in
    rw streams (ends_again (g.B.RingBuf.bounded c.args.self.now.buffer) c.args.self.now.waiters c.args.self.now.is_open c.args.slot.0
    c.args.waker was c.take_out-named.new.self c.take_out-named.ensures.rest)
