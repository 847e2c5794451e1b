use Rattle.std.proofs.Common.{rules, IfOk, subst, sym}
use Rattle.fi_channels.specs.ChannelWords.{ChannelMachine}
use Rattle.fi_channels.specs.ChannelFields.{machine_of}
use Rattle.fi_channels.specs.ChannelStays.{OtherReceivesStay}
use Rattle.fi_channels.proofs.ChannelLaws.{Holds, Receives, polls_next, still_streams}
use Rattle.fi_channels.proofs.ChannelStays.{polled_receive_stays}
use Rattle.fi_channels.proofs.Results.{either, of_made, of_made_beside}
use Rattle.fi_channels.proofs.channel.ChannelState.poll_next.Given.{Over}
use Rattle.fi_channels.proofs.channel.ChannelState.poll_next.Goals as goal

abbrev old : (g : Over) (c : goal.After-poll_as g) → ChannelMachine g.row.T.Denot g.row.W.Denot
old g c = machine_of g.B.RingBuf.bounded c.self.inside.fields

abbrev new : (g : Over) (c : goal.After-poll_as g) → ChannelMachine g.row.T.Denot g.row.W.Denot
new g c = machine_of g.B.RingBuf.bounded c.poll_as.new.self

did : (g : Over) (c : goal.After-poll_as g) →
    IfOk c.poll_as.result (λ polled. Receives (old g c) (new g c) c.args.slot.0 c.args.waker polled.0)
did g c =
    of_made c.poll_as.result _ _ c.poll_as.ensures.polled
    (λ polled step. polls_next (old g c) (new g c) c.args.slot.0 c.args.waker polled.0 step c.self.invariant)

pub invariant_of-self : goal.invariant_of-self
invariant_of-self g c =
    either c.poll_as.result _ _ (Holds (new g c)) (did g c) c.poll_as.ensures.unchanged
    (λ polled now. now.0.1)
    (λ same. subst Holds (sym same) c.self.invariant)

pub returns-clause-live : goal.returns-clause-live
returns-clause-live g c =
    of_made_beside c.poll_as.result _ _ _ (did g c) c.poll_as.ensures.live
    (λ polled now could. still_streams (old g c) (new g c) c.args.slot.0 c.args.waker could polled.0 now)

pub returns-clause-others : goal.returns-clause-others
returns-clause-others g c =
    let unchanged : OtherReceivesStay c.args.slot.0 (old g c) (old g c) = search rules in
    rw (← c.self.view_is)
    (either c.poll_as.result _ _ (OtherReceivesStay c.args.slot.0 (old g c) (new g c)) (did g c) c.poll_as.ensures.unchanged
    (λ polled now. polled_receive_stays (old g c) (new g c) c.self.invariant c.args.slot.0 c.args.waker polled.0 now.0)
    (λ same. subst (OtherReceivesStay c.args.slot.0 (old g c)) (sym same) unchanged))
