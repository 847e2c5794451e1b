use Rattle.std.proofs.Common.{Result, Ok, refl}
use Rattle.fi_parts.specs.declared.errors.Slot.{Slot}
use Rattle.fi_parts.specs.declared.errors.Fault.{Fault}
use Rattle.fi_parts.proofs.Effects.{waits_are_fit}
use Rattle.fi_parts.proofs.Machines.{claiming_stays}
use Rattle.fi_locks.specs.Semaphore.{SemaphoreMachine, at_own, can_be_polled, Makes}
use Rattle.fi_locks.specs.SemaphoreLaws.{make_holds, makes_pollable}
use Rattle.fi_locks.specs.SemaphoreSoundLaws.{rules}
use Rattle.fi_locks.proofs.SemaphoreMarks.{marks_made}
use Rattle.fi_locks.proofs.semaphore.SemaphoreState.claim.Given.{Over}
use Rattle.fi_locks.proofs.semaphore.SemaphoreState.claim.Goals as goal

abbrev old : (g : Over) (c : goal.After-self-1 g) → SemaphoreMachine g.row.W.Denot
old g c = at_own c.self.inside.permits c.self.inside.waits

abbrev new : (g : Over) (c : goal.After-self-1 g) → SemaphoreMachine g.row.W.Denot
new g c = at_own (record c.self.inside.permits { asked = c.after-self-inside.result }) c.insert.new.self

did : (g : Over) (c : goal.After-self-1 g) → Makes (old g c) c.args.permits c.in-Ok.slot.0 (new g c)
did g c = rw c.after-self-inside.ensures (refl, (c.in-Ok.ensures.was_free, c.in-Ok.ensures.made))

pub invariant_of-self-2 : goal.invariant_of-self-2
invariant_of-self-2 g c = (
  make_holds (old g c) (new g c) c.in-Ok.slot.0 c.args.permits c.self.invariant.0 (did g c),
  marks_made (old g c) c.in-Ok.slot.0 c.self.inside.marks.promised c.self.inside.marks.untold c.insert.new.self
      c.self.invariant.0.0 c.self.invariant.1 c.args.permits (did g c).1,
)

pub returns-clause-all_stay : goal.returns-clause-all_stay
returns-clause-all_stay g c =
    let made : Result Slot Fault = Ok c.in-Ok.slot in
    rw (← c.self.view_is) (claiming_stays (rules c.self.inside.permits.is_fair) can_be_polled waits_are_fit (old g c) (new g c)
    c.self.invariant.0.0.waiters made (λ slot. slot.0) _ c.args.permits (did g c) tt)

pub returns-clause-pollable : goal.returns-clause-pollable
returns-clause-pollable g c = makes_pollable (old g c) c.in-Ok.slot.0 c.args.permits (new g c) (did g c)
