use Rattle.std.proofs.Common.{ap}
use Rattle.fi_channels.specs.ChannelWords.{with_buffer}
use Rattle.fi_channels.specs.ChannelFields.{machine_of}
use Rattle.fi_channels.proofs.channel.fields.ChannelFields.close_and_clear.Goals as goal

pub returns : goal.returns
returns g c =
    let closed = machine_of g.B.RingBuf.bounded c.close.new.self in (
      closed,
      c.close.result,
      c.close.ensures,
      c.take.ensures.taken,
      ap (λ buffer. record closed { own = with_buffer closed.own buffer }) c.take.ensures.left,
    )
