use Rattle.std.proofs.Common.{◌≡◌, ◌<◌, ◌≤◌, ℕ, true, false, Some, refl, ap, ◌∙◌, rules as lemmas}
use Rattle.std.proofs.lemmas.Bool.{and_parts}
use Rattle.futures.specs.declared.task.Poll.TheVariants.{Ready, Pending}
use Rattle.fi_parts.specs.declared.phase.Phase.TheVariants.{Told}
use Rattle.fi_parts.specs.Effects.{TakesEffect}
use Rattle.fi_parts.specs.Effects.WaiterEffect.{Registers, EndsPlaced}
use Rattle.fi_parts.specs.Machine.{phase_at}
use Rattle.fi_parts.specs.Order.{holds}
use Rattle.fi_parts.specs.Places.{is_told}
use Rattle.fi_parts.specs.Waiting.{Waiting}
use Rattle.fi_locks.specs.Semaphore.{SemaphoreMachine, at_own, granted, need_of, Polls}
use Rattle.fi_locks.specs.SemaphoreLaws.{poll_holds}
use Rattle.fi_locks.specs.SemaphoreSoundLaws.{sound_ended}
use Rattle.fi_locks.proofs.SemaphoreMarks.{marks_told_ended, told_need_free}
use Rattle.fi_locks.proofs.SemaphoreSteps.{steps_telling, marks_any, told_unfair, told_apart, told_pends, told_ends}
use Rattle.fi_locks.proofs.semaphore.SemaphoreState.poll_told.Given.{Over}
use Rattle.fi_locks.proofs.semaphore.SemaphoreState.poll_told.Goals as goal

-- The future is told, and needs this many, in the machine of the fields too.
stands : {W : Type 0} (old now : SemaphoreMachine W) (name need : ℕ) → old ≡ now → phase_at now name ≡ Some Told →
    need ≡ need_of now.waiting.side name → (phase_at old name ≡ Some Told) × (need ≡ need_of old.waiting.side name)
stands old now name need same told needs = rw same (told, needs)

pub register-requires-clause-apart : goal.register-requires-clause-apart
register-requires-clause-apart g c =
    let inside = c.self.inside in
    let old = at_own inside.permits inside.waits in
    let name = c.args.slot.0 in
    let stood = stands old c.args.self.now name c.args.need c.self.view_is c.requires.told c.requires.need in
    let over : old.own.free < need_of inside.waits.side name = rw (← stood.1) c.if-need-self.true in
    let unfair = told_unfair old name inside.marks.promised inside.marks.untold c.self.invariant.0.0 c.self.invariant.1 stood.0 over in
    ap (λ (v : Waiting ℕ g.row.W.Denot). holds name v.side.queue) c.take_out-named.ensures.rest
    ∙ told_apart old name inside.marks.promised inside.marks.untold c.self.invariant.0.0 c.self.invariant.1 stood.0 unfair

abbrev old : (g : Over) (c : goal.After-of g) → SemaphoreMachine g.row.W.Denot
old g c = at_own c.self.inside.permits c.self.inside.waits

abbrev new : (g : Over) (c : goal.After-of g) → SemaphoreMachine g.row.W.Denot
new g c = at_own c.self.inside.permits c.register.new.self

unfair : (g : Over) (c : goal.After-of g) → c.self.inside.permits.is_fair ≡ false
unfair g c =
    let inside = c.self.inside in
    let name = c.args.slot.0 in
    let stood = stands (old g c) c.args.self.now name c.args.need c.self.view_is c.requires.told c.requires.need in
    let over : (old g c).own.free < need_of inside.waits.side name = rw (← stood.1) c.if-need-self.true in
    told_unfair (old g c) name inside.marks.promised inside.marks.untold c.self.invariant.0.0 c.self.invariant.1 stood.0 over

did : (g : Over) (c : goal.After-of g) → Polls (old g c) c.args.slot.0 c.args.waker Pending (new g c)
did g c =
    let name = c.args.slot.0 in
    let stood = stands (old g c) c.args.self.now name c.args.need c.self.view_is c.requires.told c.requires.need in
    let over : (old g c).own.free < need_of c.self.inside.waits.side name = rw (← stood.1) c.if-need-self.true in
    let taken : TakesEffect (Registers name c.args.waker) c.self.inside.waits c.register.new.self = search lemmas in
    told_pends (old g c) name c.args.waker (new g c) stood.0 over (unfair g c) (refl, taken)

-- It has to wait again, so the semaphore is unfair.
pub invariant_of-self : goal.invariant_of-self
invariant_of-self g c =
    let inside = c.self.inside in (
      poll_holds (old g c) c.args.slot.0 c.args.waker Pending (new g c) c.self.invariant.0 (did g c),
      marks_any inside.permits.is_fair inside.permits.free inside.permits.free inside.marks.promised inside.marks.untold
          inside.marks.untold inside.waits.side c.register.new.self.side (unfair g c) c.self.invariant.1,
    )

pub returns-then-need-self-clause-polled : goal.returns-then-need-self-clause-polled
returns-then-need-self-clause-polled g c = rw (← c.self.view_is) (did g c)

pub unpromise-requires : goal.unpromise-requires
unpromise-requires g c is =
    let inside = c.self.inside in
    let old = at_own inside.permits inside.waits in
    let stood = stands old c.args.self.now c.args.slot.0 c.args.need c.self.view_is c.requires.told c.requires.need in
    rw stood.1 (told_need_free old c.args.slot.0 inside.marks.promised inside.marks.untold inside.waits c.self.invariant.0.0
    (and_parts inside.permits.is_fair true is).0 (ap is_told stood.0) c.self.invariant.1)

-- It was granted what it needs.
pub tell_if-requires-clause-sound : goal.tell_if-requires-clause-sound
tell_if-requires-clause-sound g c =
    let old = at_own c.self.inside.permits c.self.inside.waits in
    let name = c.args.slot.0 in
    let stood = stands old c.args.self.now name c.args.need c.self.view_is c.requires.told c.requires.need in
    let fits : need_of old.waiting.side name ≤ old.own.free = rw (← stood.1) c.if-need-self.false in
    rw stood.1 (sound_ended old c.end-named.new.waits name c.self.invariant.0.0 c.end-named.ensures.ended fits)

pub tell_if-requires-clause-marked : goal.tell_if-requires-clause-marked
tell_if-requires-clause-marked g c =
    let inside = c.self.inside in
    let old = at_own inside.permits inside.waits in
    let name = c.args.slot.0 in
    let stood = stands old c.args.self.now name c.args.need c.self.view_is c.requires.told c.requires.need in
    rw (c.unpromise.ensures, stood.1) (marks_told_ended old name inside.marks.promised inside.marks.untold c.end-named.new.waits
    c.self.invariant.0.0 stood.0 c.self.invariant.1 c.end-named.ensures.ended)

did_end : (g : Over) (c : goal.After-of-2 g) → Polls (at_own c.self.inside.permits c.self.inside.waits) c.args.slot.0 c.args.waker
    (Ready c.args.need) (at_own (granted c.self.inside.permits c.args.need) c.tell_if.new.waits)
did_end g c =
    let permits = c.self.inside.permits in
    let old = at_own permits c.self.inside.waits in
    let name = c.args.slot.0 in
    let new = at_own (granted permits c.args.need) c.tell_if.new.waits in
    let stood = stands old c.args.self.now name c.args.need c.self.view_is c.requires.told c.requires.need in
    told_ends old name c.args.waker new stood.0 c.args.need stood.1 c.if-need-self.false
    (steps_telling permits.is_fair old (granted permits c.args.need) (EndsPlaced name) c.end-named.new.waits new
    c.end-named.ensures.ended c.tell_if.ensures.told)

pub invariant_of-self-2 : goal.invariant_of-self-2
invariant_of-self-2 g c = (
  poll_holds _ c.args.slot.0 c.args.waker (Ready c.args.need) _ c.self.invariant.0 (did_end g c),
  c.tell_if.ensures.marked,
)

pub returns-clause-polled : goal.returns-clause-polled
returns-clause-polled g c = rw (← c.self.view_is) (did_end g c)
