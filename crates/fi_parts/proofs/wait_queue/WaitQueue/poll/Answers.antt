use Rattle.std.proofs.Common.{◌≡◌, true, Some, sym, ap, ◌∙◌, subst}
use Rattle.fi_parts.specs.WaitQueueModel.{wait_queue_of}
use Rattle.fi_parts.specs.Polled.{can_be_polled, IsRefused}
use Rattle.fi_parts.specs.Waiting.{phase_of, is_registered}
use Rattle.fi_parts.specs.WaiterPolls.{has_to_wait}
use Rattle.fi_parts.proofs.WaitQueues.{its_phase, phase-seen, seen-phase, seen-registered, live-after, apart-after}
use Rattle.fi_parts.proofs.WaiterPolls.{joined, kept_place}
use Rattle.fi_parts.proofs.wait_queue.WaitQueue.poll.Goals as goal
use Rattle.fi_parts.proofs.wait_queue.WaitQueue.poll.Goals.{in-Joins, in_default}

pub returns-in-Err-clause-unchanged : goal.returns-in-Err-clause-unchanged
returns-in-Err-clause-unchanged g c = rw (← c.self.view_is) (ap wait_queue_of c.in-Err.ensures.unchanged)

pub returns-in-Err-clause-refused : goal.returns-in-Err-clause-refused
returns-in-Err-clause-refused g c =
    rw (← c.self.view_is) (subst
    (λ p. IsRefused c.in-Err.refused c.args.waker (can_be_polled p) c.args.may_wait (has_to_wait c.args.ends p ≡ true))
    (sym (phase-seen c.self.inside.list.live c.args.slot.0)) c.in-Err.ensures.refused)

pub add_front-requires-clause-live : goal.add_front-requires-clause-live
add_front-requires-clause-live g c =
    let was = c.in-Ok.ensures.polled in
    live-after c.self.inside.list c.args.slot.0 _ _ (was.entry, was.was, was.after)

pub add_front-requires-clause-apart : goal.add_front-requires-clause-apart
add_front-requires-clause-apart g c =
    let was = c.in-Ok.ensures.polled in
    let phase = was.entry.future.phase in
    let joins = joined c.args.ends phase c.args.self.now.side c.args.slot.0 c.args.waker (sym c.in-Joins.is ∙ was.step_is) in
    let before : phase_of c.args.self.now.side c.args.slot.0 ≡ Some phase =
    rw (← c.self.view_is) (its_phase c.self.inside.list c.args.slot.0 was.entry was.was) in
    apart-after c.self.inside.list c.args.slot.0 _ _ (was.entry, was.was, was.after)
    (rw (← c.self.view_is) at (c.requires (ap is_registered before ∙ joins.unregistered)))

pub returns-clause-polled : goal.returns-clause-polled
returns-clause-polled g c =
    let was = c.in-Ok.ensures.polled in
    let phase = was.entry.future.phase in
    let wait_queue = wait_queue_of c.self.inside.list in
    let before = its_phase c.self.inside.list c.args.slot.0 was.entry was.was in
    rw (← c.self.view_is) (
      phase,
      before,
      was.live,
      was.step_is,
      elim c.match-step.branch [
        | in-Joins w ↦
            let joins = joined c.args.ends phase wait_queue.side c.args.slot.0 c.args.waker (sym w.in-Joins.is ∙ was.step_is) in
            w.self-is
            ∙ seen-registered c.self.inside.list c.args.slot.0 c.args.waker c.poll_phase.new.list w.add_front.new.self
            (was.entry, was.was, rw (← joins.phase) was.after) w.add_front.ensures.live w.add_front.ensures.order
            ∙ (λ i. record { side = sym joins.polled i; tickets = wait_queue.tickets })
        | in_default w ↦
            let kept = kept_place c.args.ends phase wait_queue.side c.args.slot.0 c.args.waker
            (λ is. w.in_default.not-Joins (was.step_is ∙ sym is)) in
            w.self-is ∙ seen-phase c.self.inside.list c.args.slot.0 _ _ (was.entry, was.was, was.after)
            ∙ (λ i. record { side = sym kept i; tickets = wait_queue.tickets })
      ],
    )
