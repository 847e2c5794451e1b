use Rattle.std.proofs.Common.{◌≡◌, Some, rules, refl, sym, ap, ◌∙◌}
use Rattle.std.proofs.lemmas.Bool.{not-true, not-false}
use Rattle.fi_parts.specs.WaitQueuePolls.{phase_in_entry}
use Rattle.fi_parts.specs.ListModel.{item, with_live}
use Rattle.fi_parts.specs.Polled.{can_be_polled}
use Rattle.fi_parts.proofs.FiniteMaps.{insert_known}
use Rattle.fi_parts.specs.WaiterPolls.{poll_step}
use Rattle.fi_parts.proofs.WaiterPolls.{never_waits, may_wait_on}
use Rattle.fi_parts.proofs.wait_queue.poll_phase.Goals as goal
use Rattle.fi_parts.proofs.wait_queue.poll_phase.Goals.{else-not-may_wait-via-then-not-may_wait+else-has_to_wait}
use Rattle.fi_parts.proofs.wait_queue.poll_phase.Goals.{else-not-may_wait-via-else-not-may_wait}

pub returns-then-is_over-clause-unchanged : goal.returns-then-is_over-clause-unchanged
returns-then-is_over-clause-unchanged g c =
    let was : item c.args.list.now c.args.slot.0 ≡ Some c.in-Some.entry.now = search rules in
    ap (with_live c.args.list.now) (insert_known c.args.list.now.live c.args.slot.0 c.in-Some.entry.now was)

pub returns-then-is_over-clause-refused : goal.returns-then-is_over-clause-refused
returns-then-is_over-clause-refused g c =
    let was : item c.args.list.now c.args.slot.0 ≡ Some c.in-Some.entry.now = search rules in (
      refl,
      ap (λ o. can_be_polled (phase_in_entry o)) was ∙ not-true _ (sym c.is_over.ensures ∙ c.if-is_over.true),
    )

pub returns-then-has_to_wait-clause-unchanged : goal.returns-then-has_to_wait-clause-unchanged
returns-then-has_to_wait-clause-unchanged g c =
    let was : item c.args.list.now c.args.slot.0 ≡ Some c.in-Some.entry.now = search rules in
    ap (with_live c.args.list.now) (insert_known c.args.list.now.live c.args.slot.0 c.in-Some.entry.now was)

pub returns-clause-waits : goal.returns-clause-waits
returns-clause-waits g c =
    let phase = c.in-Some.entry.now.future.phase in
    rw c.poll.ensures.step (elim c.else-not-may_wait.branch [
      | else-not-may_wait-via-then-not-may_wait+else-has_to_wait w ↦
          never_waits c.args.ends phase c.args.waker _ (sym w.has_to_wait.ensures ∙ w.if-has_to_wait.false)
      | else-not-may_wait-via-else-not-may_wait w ↦
          may_wait_on (poll_step c.args.ends phase c.args.waker) _ w.if-not-may_wait.false
    ])

pub returns-clause-polled : goal.returns-clause-polled
returns-clause-polled g c = record {
  entry = c.in-Some.entry.now;
  was = search rules;
  live = not-false _ (sym c.is_over.ensures ∙ c.if-is_over.false);
  step_is = c.poll.ensures.step;
  after = rw c.poll.ensures.phase refl;
}
