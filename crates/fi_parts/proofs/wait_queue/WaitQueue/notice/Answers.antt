use Rattle.std.proofs.Common.{◌≡◌, Some, sym, ap, ◌∙◌}
use Rattle.fi_parts.specs.Waiting.{phase_of, waker_in}
use Rattle.fi_parts.proofs.WaitQueues.{entry_lives, seen-phase, its_phase, its_ticket}
use Rattle.fi_parts.proofs.wait_queue.WaitQueue.notice.Goals as goal

pub swap_phase-was-requires : goal.swap_phase-was-requires
swap_phase-was-requires g c = entry_lives c.self.inside.list.live c.args.slot.0 (rw (← c.self.view_is) at c.requires)

pub returns : goal.returns
returns g c =
    let was = c.swap_phase-was.ensures in
    let list = c.self.inside.list in
    let stood : phase_of c.args.self.now.side c.args.slot.0 ≡ Some was.0.future.phase =
    rw (← c.self.view_is) (its_phase list c.args.slot.0 was.0 was.1) in
    record {
      ticket = rw (← c.self.view_is) (its_ticket list c.args.slot.0 was.0 was.1 ∙ ap (λ p. Some p.0.0) (sym was.2));
      waker = rw stood (c.into_waker.ensures ∙ ap (λ p. waker_in p.1) was.2);
      rest = rw (← c.self.view_is) (seen-phase list c.args.slot.0 _ _ (was.0, was.1, was.3));
    }
