use Rattle.std.proofs.Common.{◌≡◌, true, subst}
use Rattle.futures.specs.Poll.{OnPending}
use Rattle.fi_channels.specs.ChannelWords.{ChannelMachine, can_receive, kind_of, receive_phase}
use Rattle.fi_channels.specs.ChannelFields.{machine_of}
use Rattle.fi_channels.proofs.ChannelLaws.{Receives, polls_receive}
use Rattle.fi_channels.proofs.ChannelStays.{polled_receive_stays, pending_receive}
use Rattle.fi_channels.proofs.channel.ChannelStateChannelReceiveAccess.poll_receive.Given.{Over}
use Rattle.fi_channels.proofs.channel.ChannelStateChannelReceiveAccess.poll_receive.Goals as goal
use Rattle.fi_channels.proofs.channel.ChannelStateChannelReceiveAccess.poll_receive.Goals.{in-Pending, in-Ready}

abbrev old : (g : Over) (c : goal.Joined-answer g) → ChannelMachine g.row.T.Denot g.row.W.Denot
old g c = machine_of g.B.RingBuf.bounded c.self.inside.fields

abbrev new : (g : Over) (c : goal.Joined-answer g) → ChannelMachine g.row.T.Denot g.row.W.Denot
new g c = machine_of g.B.RingBuf.bounded c.poll_as.new.self

did : (g : Over) (c : goal.Joined-answer g) → Receives (old g c) (new g c) c.args.slot.0 c.args.waker c.in_ok-answer.answer
did g c =
    polls_receive (old g c) (new g c) c.args.slot.0 c.args.waker c.in_ok-answer.answer c.in_ok-answer.ensures.polled c.self.invariant

pub invariant_of-self-2 : goal.invariant_of-self-2
invariant_of-self-2 g c = (did g c).0.1

pub returns-clause-live : goal.returns-clause-live
returns-clause-live g c = elim c.match-answer.branch [
  | in-Pending w ↦ rw w.result-is (did g c).1.0
  | in-Ready w ↦ rw w.result-is (did g c).1.0
]

pub returns-clause-pending : goal.returns-clause-pending
returns-clause-pending g c =
    let pends = pending_receive (old g c) (new g c) c.self.invariant c.args.slot.0 c.args.waker c.in_ok-answer.answer (did g c).0
    (did g c).1.1 c.in_ok-answer.ensures.live in
    elim c.match-answer.branch [
      | in-Pending w ↦ rw w.result-is (subst (λ answer. OnPending answer (can_receive (kind_of (new g c) c.args.slot.0)
          (receive_phase (new g c) c.args.slot.0) ≡ true)) w.in-Pending.is pends)
      | in-Ready w ↦ rw w.result-is tt
    ]

pub returns-clause-others : goal.returns-clause-others
returns-clause-others g c =
    rw (← c.self.view_is) (polled_receive_stays (old g c) (new g c) c.self.invariant c.args.slot.0 c.args.waker
    c.in_ok-answer.answer (did g c).0)
