use Rattle.std.proofs.Common.{IfOk, subst, sym}
use Rattle.fi_channels.specs.ChannelWords.{ChannelMachine}
use Rattle.fi_channels.specs.ChannelFields.{machine_of}
use Rattle.fi_channels.proofs.ChannelLaws.{Holds, Sends, polls_send}
use Rattle.fi_channels.proofs.ChannelStays.{polled_send_stays, pending_send, same_stay}
use Rattle.fi_channels.proofs.Results.{either, of_made}
use Rattle.fi_channels.proofs.channel.ChannelStateChannelSendAccess.poll_send.Given.{Over}
use Rattle.fi_channels.proofs.channel.ChannelStateChannelSendAccess.poll_send.Goals as goal

abbrev old : (g : Over) (c : goal.After-poll_send g) → ChannelMachine g.row.T.Denot g.row.W.Denot
old g c = machine_of g.B.RingBuf.bounded c.self.inside.fields

abbrev new : (g : Over) (c : goal.After-poll_send g) → ChannelMachine g.row.T.Denot g.row.W.Denot
new g c = machine_of g.B.RingBuf.bounded c.poll_send.new.self

did : (g : Over) (c : goal.After-poll_send g) →
    IfOk c.poll_send.result (λ polled. Sends (old g c) (new g c) c.args.slot.0 c.args.waker polled.0)
did g c =
    of_made c.poll_send.result _ _ c.poll_send.ensures.polled
    (λ polled step. polls_send (old g c) (new g c) c.args.slot.0 c.args.waker polled.0 step c.self.invariant)

pub invariant_of-self : goal.invariant_of-self
invariant_of-self g c =
    either c.poll_send.result _ _ (Holds (new g c)) (did g c) c.poll_send.ensures.unchanged
    (λ polled now. now.0.1)
    (λ same. subst Holds (sym same) c.self.invariant)

pub returns-clause-live : goal.returns-clause-live
returns-clause-live g c = of_made c.poll_send.result _ _ (did g c) (λ polled now. now.1)

pub returns-clause-pending : goal.returns-clause-pending
returns-clause-pending g c =
    of_made c.poll_send.result _ _ (did g c)
    (λ polled now. pending_send (old g c) (new g c) c.self.invariant c.args.slot.0 c.args.waker polled.0 now.0)

pub returns-clause-others : goal.returns-clause-others
returns-clause-others g c =
    rw (← c.self.view_is)
    (either c.poll_send.result _ _ _ (did g c) c.poll_send.ensures.unchanged
    (λ polled now. polled_send_stays (old g c) (new g c) c.self.invariant c.args.slot.0 c.args.waker polled.0 now.0)
    (λ same. same_stay (old g c) (new g c) c.self.invariant _ _ same))
