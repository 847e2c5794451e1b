use Rattle.std.proofs.Common.{◌≡◌, IfOk, OnErr, rules as lemmas}
use Rattle.fi_parts.specs.MachineTable.{PollLine, answered_change}
use Rattle.fi_parts.proofs.Machines.{line_preserves, unchanged, answering_stays, pending_answer_stays, same_stays}
use Rattle.fi_channels.specs.Polled.{Answered}
use Rattle.fi_channels.specs.Oneshot.{OneshotMachine, can_receive, Polls, Lacks}
use Rattle.fi_channels.specs.OneshotLaws.{rules, receives_are_fit, gave}
use Rattle.fi_channels.proofs.Results.{either, of_made}
use Rattle.fi_channels.proofs.oneshot.OneValueStateChannelReceiveAccess.poll_receive.Given.{Over}
use Rattle.fi_channels.proofs.oneshot.OneValueStateChannelReceiveAccess.poll_receive.Goals as goal

abbrev old : (g : Over) (c : goal.Joined-poll g) → OneshotMachine g.row.T.Denot g.row.W.Denot
old g c = record { own = c.self.inside.content; waiting = c.self.inside.receives }

abbrev new : (g : Over) (c : goal.Joined-poll g) → OneshotMachine g.row.T.Denot g.row.W.Denot
new g c = record { own = c.give_to.new.content; waiting = c.poll.new.self }

did : (g : Over) (c : goal.Joined-poll g) →
    IfOk c.match-poll.result (λ polled. Answered (Polls g.G.GivesValue.giving (old g c) c.args.slot.0 c.args.waker)
    (Lacks g.G.GivesValue.giving (old g c) c.args.slot.0) polled.0 (new g c))
did g c = search lemmas

same : (g : Over) (c : goal.Joined-poll g) → OnErr c.match-poll.result (new g c ≡ old g c)
same g c = search lemmas

is_line : (g : Over) (c : goal.Joined-poll g) → IfOk c.match-poll.result
    (λ polled. PollLine rules c.args.slot.0 (answered_change c.args.slot.0 c.args.waker polled.0) (old g c) (new g c))
is_line g c =
    of_made c.match-poll.result _ _ (did g c)
    (λ polled step. gave _ (old g c) c.args.slot.0 c.args.waker polled.0 (new g c) step)

pub invariant_of-self-2 : goal.invariant_of-self-2
invariant_of-self-2 g c =
    either c.match-poll.result _ _ _ (is_line g c) (same g c)
    (λ polled line. line_preserves rules (old g c) (new g c) line.line c.self.invariant)
    (λ is. line_preserves rules (old g c) (new g c) (unchanged rules (old g c) (new g c) is) c.self.invariant)

pub returns-clause-live : goal.returns-clause-live
returns-clause-live g c = of_made c.match-poll.result _ _ (is_line g c) (λ polled line. line.lives)

pub returns-clause-pending : goal.returns-clause-pending
returns-clause-pending g c =
    of_made c.match-poll.result _ _ (is_line g c)
    (λ polled line. pending_answer_stays rules can_receive receives_are_fit (old g c) (new g c) c.self.invariant.0 c.args.slot.0
    c.args.waker polled.0 line.line)

pub returns-clause-others : goal.returns-clause-others
returns-clause-others g c =
    rw (← c.self.view_is)
    (either c.match-poll.result _ _ _ (is_line g c) (same g c)
    (λ polled line. answering_stays rules can_receive receives_are_fit (old g c) (new g c) c.self.invariant.0 c.args.slot.0
    c.args.waker polled.0 line.line)
    (λ is. same_stays can_receive c.args.slot.0 (old g c) (new g c) is))
