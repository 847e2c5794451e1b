use Rattle.std.proofs.Common.{◌≡◌, IfOk, OnErr, refl, rules as lemmas}
use Rattle.fi_parts.specs.MachineTable.{PollLine, answered_change}
use Rattle.fi_parts.proofs.Machines.{unchanged, answering_stays, pending_answer_stays, same_stays}
use Rattle.fi_channels.specs.Oneshot.{can_receive}
use Rattle.fi_channels.specs.OneshotLaws.{receives_are_fit}
use Rattle.fi_channels.specs.Polled.{Answered}
use Rattle.fi_channels.specs.StateBroadcast.{StateMachine, Polls, LacksClone}
use Rattle.fi_channels.specs.StateLaws.{rules, same_preserves, cloned}
use Rattle.fi_channels.proofs.Results.{either, of_made}
use Rattle.fi_channels.proofs.state.StateBroadcastStateChannelReceiveAccess.poll_receive.Given.{Over}
use Rattle.fi_channels.proofs.state.StateBroadcastStateChannelReceiveAccess.poll_receive.Goals as goal

abbrev old : (g : Over) (c : goal.Joined-poll g) → StateMachine g.row.T.Denot g.row.W.Denot
old g c = record {
  own = record { is_open = c.self.inside.is_open; number = c.self.inside.number; value = c.self.inside.value };
  waiting = c.self.inside.receives;
}

abbrev new : (g : Over) (c : goal.Joined-poll g) → StateMachine g.row.T.Denot g.row.W.Denot
new g c = record (old g c) { waiting = c.poll.new.self }

did : (g : Over) (c : goal.Joined-poll g) →
    IfOk c.match-poll.result (λ polled. Answered (Polls g.T.Clone.is_clone (old g c) c.args.slot.0 c.args.waker)
    (LacksClone g.T.Clone.is_infallible (old g c) c.args.slot.0) polled.0 (new g c))
did g c = search lemmas

same : (g : Over) (c : goal.Joined-poll g) → OnErr c.match-poll.result (new g c ≡ old g c)
same g c = search lemmas

is_line : (g : Over) (c : goal.Joined-poll g) → IfOk c.match-poll.result
    (λ polled. PollLine rules c.args.slot.0 (answered_change c.args.slot.0 c.args.waker polled.0) (old g c) (new g c))
is_line g c =
    of_made c.match-poll.result _ _ (did g c)
    (λ polled step. cloned _ _ _ c.args.slot.0 c.args.waker _ polled.0 c.self.invariant.0.numbered step)

pub invariant_of-self : goal.invariant_of-self
invariant_of-self g c =
    either c.match-poll.result _ _ _ (is_line g c) (same g c)
    (λ polled line. same_preserves (old g c) (new g c) line.line refl c.self.invariant)
    (λ is. same_preserves (old g c) (new g c) (unchanged rules (old g c) (new g c) is) refl c.self.invariant)

pub returns-clause-live : goal.returns-clause-live
returns-clause-live g c = of_made c.match-poll.result _ _ (is_line g c) (λ polled line. line.lives)

pub returns-clause-pending : goal.returns-clause-pending
returns-clause-pending g c =
    of_made c.match-poll.result _ _ (is_line g c)
    (λ polled line. pending_answer_stays rules can_receive receives_are_fit (old g c) (new g c) c.self.invariant.0.waiters c.args.slot.0
    c.args.waker polled.0 line.line)

pub returns-clause-others : goal.returns-clause-others
returns-clause-others g c =
    rw (← c.self.view_is)
    (either c.match-poll.result _ _ _ (is_line g c) (same g c)
    (λ polled line. answering_stays rules can_receive receives_are_fit (old g c) (new g c) c.self.invariant.0.waiters c.args.slot.0
    c.args.waker polled.0 line.line)
    (λ is. same_stays can_receive c.args.slot.0 (old g c) (new g c) is))
