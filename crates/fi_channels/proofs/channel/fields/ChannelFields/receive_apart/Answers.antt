use Rattle.std.proofs.Common.{◌≡◌, Some, sym, ap, ◌∙◌}
use Rattle.fi_parts.specs.Waiting.{asks_of}
use Rattle.fi_channels.specs.ChannelFields.{ChannelWaiters}
use Rattle.fi_channels.proofs.ChannelSteps.{sound_unpaired, received, given_phase, same_receives}
use Rattle.fi_channels.proofs.channel.fields.ChannelFields.receive_apart.Goals as goal

pub take_next-requires : goal.take_next-requires
take_next-requires g c = sound_unpaired _ _ _ _ c.requires.sound c.take_out-named.new.self c.take_out-named.ensures.rest

pub returns-in-Some-clause-polled : goal.returns-in-Some-clause-polled
returns-in-Some-clause-polled g c =
    let same = same_receives _ _ _ c.take_out-named.new.self c.take_next.new.self.waiters _ c.in-Some.ensures.taken in
    let asks : asks_of c.take_next.new.self.waiters.receives c.args.slot.0 ≡ Some c.args.kind =
    ap (λ r. asks_of r c.args.slot.0) same
    ∙ ap (λ (v : ChannelWaiters g.row.T.Denot g.row.W.Denot). asks_of v.receives c.args.slot.0) c.take_out-named.ensures.rest
    ∙ c.requires.kind in
    received _ c.args.self.now.waiters _ _ c.args.waker c.requires.sound c.requires.live c.requires.apart c.in-Some.value _
    c.take_out-named.new.self c.take_next.new.self.waiters c.set_phase.new.self _ c.take_out-named.ensures.rest
    c.in-Some.ensures.taken c.take_next.ensures.flag
    (given_phase _ _ _ (Some c.args.kind) c.phase_given.result c.phase_given.ensures (sym asks) c.set_phase.ensures.rest)
