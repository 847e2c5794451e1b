use Rattle.std.proofs.Common.{◌≡◌, IfOk, OnErr, rules as lemmas}
use Rattle.fi_parts.proofs.Effects.{waits_are_fit}
use Rattle.fi_parts.proofs.Machines.{line_preserves, unchanged, polling_stays, pending_stays, same_stays}
use Rattle.fi_parts.proofs.Results.{either, of_made}
use Rattle.fi_channels.specs.Event.{EventMachine, Polls, can_be_polled}
use Rattle.fi_channels.specs.EventLaws.{rules, polled}
use Rattle.fi_channels.proofs.event.EventState.poll.Given.{Over}
use Rattle.fi_channels.proofs.event.EventState.poll.Goals as goal

abbrev old : (g : Over) (c : goal.After-poll g) → EventMachine g.row.W.Denot
old g c = record { own = c.self.inside.is_set; waiting = c.self.inside.waits }

abbrev new : (g : Over) (c : goal.After-poll g) → EventMachine g.row.W.Denot
new g c = record { own = c.self.inside.is_set; waiting = c.poll.new.self }

did : (g : Over) (c : goal.After-poll g) →
    IfOk c.poll.result (λ answer. Polls (old g c) c.args.slot.0 c.args.waker answer.0 (new g c))
did g c = search lemmas

same : (g : Over) (c : goal.After-poll g) → OnErr c.poll.result (new g c ≡ old g c)
same g c = search lemmas

pub invariant_of-self : goal.invariant_of-self
invariant_of-self g c =
    either c.poll.result _ _ _ (did g c) (same g c)
    (λ answer step. line_preserves rules (old g c) (new g c)
    (polled (old g c) c.args.slot.0 c.args.waker answer.0 (new g c) step).line c.self.invariant)
    (λ is. line_preserves rules (old g c) (new g c) (unchanged rules (old g c) (new g c) is) c.self.invariant)

pub returns-clause-live : goal.returns-clause-live
returns-clause-live g c =
    of_made c.poll.result _ _ (did g c)
    (λ answer step. (polled (old g c) c.args.slot.0 c.args.waker answer.0 (new g c) step).lives)

pub returns-clause-pending : goal.returns-clause-pending
returns-clause-pending g c =
    of_made c.poll.result _ _ (did g c)
    (λ answer step. pending_stays rules can_be_polled waits_are_fit (old g c) (new g c) c.self.invariant.0 c.args.slot.0 c.args.waker
    answer.0 (polled (old g c) c.args.slot.0 c.args.waker answer.0 (new g c) step).line)

pub returns-clause-others : goal.returns-clause-others
returns-clause-others g c =
    rw (← c.self.view_is)
    (either c.poll.result _ _ _ (did g c) (same g c)
    (λ answer step. polling_stays rules can_be_polled waits_are_fit (old g c) (new g c) c.self.invariant.0 c.args.slot.0 c.args.waker
    answer.0 (polled (old g c) c.args.slot.0 c.args.waker answer.0 (new g c) step).line)
    (λ is. same_stays can_be_polled c.args.slot.0 (old g c) (new g c) is))
