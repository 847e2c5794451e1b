use Rattle.std.proofs.Common.{refl}
use Rattle.fi_parts.specs.Buffer.{empty}
use Rattle.fi_channels.specs.ChannelFields.{machine_of}
use Rattle.fi_channels.proofs.ChannelLaws.{made_holds, made_fits}
use Rattle.fi_channels.proofs.channel.ChannelState.with_capacity.Goals as goal

pub invariant_of-result : goal.invariant_of-result
invariant_of-result g c =
    let made = c.in_ok-fields.fields in
    let state = machine_of g.B.RingBuf.bounded made in
    let buffer = empty (g.B.RingBuf.capacity_for c.args.capacity) (g.B.RingBuf.bounded made.buffer).reserved in
    made_holds state buffer c.in_ok-fields.ensures.opened refl
    (made_fits state buffer c.in_ok-fields.ensures.opened c.in_ok-fields.ensures.fits)
