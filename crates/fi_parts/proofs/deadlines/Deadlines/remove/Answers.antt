use Rattle.std.proofs.Common.{◌≡◌, true, Option, Some, None, is_some, refl, sym, ap, ◌∙◌}
use Rattle.std.specs.FinMap as map
use Rattle.fi_parts.specs.declared.phase.LiveFuture.{LiveFuture}
use Rattle.fi_parts.specs.Pairs.{waker_of}
use Rattle.fi_parts.specs.Seats.{deadlines_of}
use Rattle.fi_parts.specs.Waiting.{asks_in, phase_in, displaced_from}
use Rattle.fi_parts.proofs.Seats.{kept-forgotten, seen-forgotten, phase-unseated}
use Rattle.fi_parts.proofs.deadlines.Deadlines.remove.Goals as goal

-- one that asks for something lives
lives : {D W : Type 0} (future : Option (LiveFuture D W)) (asks : D) → asks_in future ≡ Some asks → is_some (phase_in future) ≡ true
lives None asks is = cc
lives (Some future) asks is = refl

pub invariant_of-self-2 : goal.invariant_of-self-2
invariant_of-self-2 g c =
    rw c.in-Some.ensures.removed
    (kept-forgotten c.self.inside.waits.side.live c.self.inside.heap c.give_up.new.heap c.args.slot.0 c.in-Some.left.0
    c.self.invariant c.in-Some.ensures.asked c.give_up.ensures.live c.give_up.ensures.elsewhere)

pub returns-in-None : goal.returns-in-None
returns-in-None g c =
    let waits = c.self.inside.waits in
    rw (← c.self.view_is, phase-unseated waits.side.live c.args.slot.0, c.in-None.ensures.absent.0)
    (ap deadlines_of c.in-None.ensures.absent.1, refl)

pub returns : goal.returns
returns g c =
    let waits = c.self.inside.waits in
    let phase = phase-unseated waits.side.live c.args.slot.0 in
    rw (← c.self.view_is)
    (rw (ap is_some phase ∙ lives (map.get waits.side.live c.args.slot.0) c.in-Some.left.0 c.in-Some.ensures.asked) (
      seen-forgotten waits c.args.slot.0 c.remove.new.self c.in-Some.ensures.removed,
      c.in-Some.ensures.waker ∙ ap (λ p. displaced_from p (waker_of c.args.slot.0 waits.out)) (sym phase),
    ))
