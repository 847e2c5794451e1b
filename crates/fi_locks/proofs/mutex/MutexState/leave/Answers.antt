use Rattle.std.proofs.Common.{◌≡◌, ℕ, true, Some, is_some, refl, ap, subst, rules as lemmas}
use Rattle.fi_parts.specs.declared.phase.Phase.TheVariants.{Told}
use Rattle.fi_parts.specs.Effects.{TakesEffect}
use Rattle.fi_parts.specs.Machine.{phase_at, displaced_at}
use Rattle.fi_parts.specs.Pairs.{without_pair}
use Rattle.fi_parts.specs.Places.{is_told}
use Rattle.fi_parts.specs.PlaceRules.{queued_rule}
use Rattle.fi_parts.specs.Stays.{OthersStay}
use Rattle.fi_parts.specs.Waiting.{Waiting, phase_in, without_future, is_queued}
use Rattle.fi_parts.proofs.Effects.{waits_are_fit}
use Rattle.fi_parts.proofs.Machines.{others_stay}
use Rattle.fi_parts.proofs.Waiting.{ordered-forgotten, lives_as}
use Rattle.fi_locks.specs.Mutex.{MutexMachine, mutex_of, tells_oldest, Cancels, can_be_polled}
use Rattle.fi_locks.specs.MutexLaws.{IsWell, rules, stays_well, cancelled}
use Rattle.fi_locks.proofs.TellingRounds.{told_is}
use Rattle.fi_locks.proofs.mutex.MutexState.leave.Given.{Over}
use Rattle.fi_locks.proofs.mutex.MutexState.leave.Goals as goal

-- a told one is taken out of everything, and then the oldest is told
told_cancelled : {T W : Type 0} (old new : MutexMachine T W) (name : ℕ) (mid : Waiting (Unit {0}) W) → phase_at old name ≡ Some Told →
    mid ≡ record { side = without_future old.waiting.side name; out = without_pair name old.waiting.out } → new.own ≡ old.own →
    TakesEffect (tells_oldest old.own.is_fair mid.side.queue) mid new.waiting → Cancels old name new
told_cancelled {W} old new name mid stood left own tells =
    let queue = ap (λ (w : Waiting (Unit {0}) W). w.side.queue) left in
    let told = subst (λ names. TakesEffect (tells_oldest old.own.is_fair names) mid new.waiting) queue tells in
    rw stood (own, (mid, (lives_as old.waiting.side name Told stood, left), told))

-- What holds after a cancel.
after : {T W : Type 0} (old : MutexMachine T W) (name : ℕ) (new : MutexMachine T W) → IsWell old → Cancels old name new →
    IsWell new × OthersStay can_be_polled name old new
after old name new was did =
    let line = cancelled old new was name did in
    (stays_well old new line was, others_stay (rules old.own.is_fair) can_be_polled waits_are_fit old new was.0 name line.line)

pub tell_oldest-requires : goal.tell_oldest-requires
tell_oldest-requires g c =
    rw c.in-Some.ensures.removed
    (ordered-forgotten (is_queued c.self.inside.is_fair) (queued_rule c.self.inside.is_fair) c.self.inside.locks.side
    c.self.inside.locks.out c.args.slot.0 c.self.invariant.0.ordered)

abbrev told : (g : Over) (c : goal.After-tell_oldest g) → MutexMachine g.row.T.Denot g.row.W.Denot
told g c = mutex_of c.self.inside.is_fair c.self.inside.value c.tell_oldest.new.locks

cancels : (g : Over) (c : goal.After-tell_oldest g) →
    Cancels (mutex_of c.self.inside.is_fair c.self.inside.value c.self.inside.locks) c.args.slot.0 (told g c)
cancels g c =
    let old = mutex_of c.self.inside.is_fair c.self.inside.value c.self.inside.locks in
    let was_told : is_told (phase_at old c.args.slot.0) ≡ true = search lemmas in
    told_cancelled old (told g c) c.args.slot.0 c.remove_future.new.self (told_is _ was_told) c.in-Some.ensures.removed refl
    c.tell_oldest.ensures

pub invariant_of-self-then-was_told : goal.invariant_of-self-then-was_told
invariant_of-self-then-was_told g c = (after _ c.args.slot.0 (told g c) c.self.invariant (cancels g c)).0

pub returns-then-was_told-clause-left : goal.returns-then-was_told-clause-left
returns-then-was_told-clause-left g c =
    let old = mutex_of c.self.inside.is_fair c.self.inside.value c.self.inside.locks in
    let had : c.last_waker-waker.result ≡ displaced_at old c.args.slot.0 = search lemmas in
    rw (← c.self.view_is) (rw (ap (λ o. is_some (phase_in o)) c.in-Some.ensures.future) (cancels g c, had))

pub returns-then-was_told-clause-others : goal.returns-then-was_told-clause-others
returns-then-was_told-clause-others g c =
    rw (← c.self.view_is) (after _ c.args.slot.0 (told g c) c.self.invariant (cancels g c)).1

pub invariant_of-self-else-was_told : goal.invariant_of-self-else-was_told
invariant_of-self-else-was_told g c =
    let new = mutex_of c.self.inside.is_fair c.self.inside.value c.remove_future.new.self in
    (after _ c.args.slot.0 new c.self.invariant (search lemmas)).0

pub returns-else-was_told-clause-others : goal.returns-else-was_told-clause-others
returns-else-was_told-clause-others g c =
    let new = mutex_of c.self.inside.is_fair c.self.inside.value c.remove_future.new.self in
    rw (← c.self.view_is) (after _ c.args.slot.0 new c.self.invariant (search lemmas)).1
