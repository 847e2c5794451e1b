use Rattle.std.proofs.Common.{◌≡◌, ◌&&◌, ℕ, true, None, sym, subst, refl, rules as lemmas, is_some, ap}
use Rattle.futures.specs.declared.task.Poll.{Poll}
use Rattle.futures.specs.declared.task.Poll.TheVariants.{Ready}
use Rattle.fi_parts.specs.Effects.{TakesEffect}
use Rattle.fi_parts.specs.Effects.WaiterEffect.{EndsPlaced}
use Rattle.fi_parts.specs.Machine.{phase_at, displaced_at}
use Rattle.fi_locks.specs.Leaving.{IsLeftIf}
use Rattle.fi_locks.specs.Mutex.{MutexMachine, mutex_of, Polls, CancelsAs, Cancels}
use Rattle.fi_locks.specs.MutexLaws.{IsWell, stays_well, polled, cancelled}
use Rattle.fi_locks.proofs.Leaving.{has_ended, none_left}
use Rattle.fi_locks.proofs.mutex.MutexState.poll_as.Given.{Over}
use Rattle.fi_locks.proofs.mutex.MutexState.poll_as.Goals as goal

module _ {T W : Type 0} (old : MutexMachine T W) (name : ℕ) where
  polled_well : (waker : W) (answer : Poll T) (new : MutexMachine T W) → IsWell old → Polls old name waker answer new → IsWell new
  polled_well waker answer new was did = stays_well old new (polled old name waker answer new was did) was

-- It waits.
pub invariant_of-self-in_default-take_if : goal.invariant_of-self-in_default-take_if
invariant_of-self-in_default-take_if g c =
    let new = mutex_of c.self.inside.is_fair c.take_if.new.value c.wait.new.locks in
    let did : Polls c.args.self.now c.args.slot.0 c.args.waker c.wait.result.0 new = search lemmas in
    polled_well c.args.self.now c.args.slot.0 c.args.waker c.wait.result.0 new (subst IsWell c.self.view_is c.self.invariant) did

pub returns-in_default-take_if-clause-polled : goal.returns-in_default-take_if-clause-polled
returns-in_default-take_if-clause-polled g c =
    let new = mutex_of c.self.inside.is_fair c.take_if.new.value c.wait.new.locks in
    let did : Polls c.args.self.now c.args.slot.0 c.args.waker c.wait.result.0 new = search lemmas in
    (new, did, search lemmas)

-- It was granted the mutex, and leaves.
record Leaves {T W : Type 0} (old : MutexMachine T W) (name : ℕ) (waker : W) (value : T) (new : MutexMachine T W) : Type 0 where
  mid : MutexMachine T W
  did : Polls old name waker (Ready value) mid
  lives : is_some (phase_at mid name) ≡ true
  left : Cancels mid name new
  none : displaced_at mid name ≡ None

leaves : (g : Over) (c : goal.After-of g) →
    Leaves c.args.self.now c.args.slot.0 c.args.waker c.in-Some-take_if.value
    (mutex_of c.self.inside.is_fair c.take_if.new.value c.end_and_remove-had.new.locks)
leaves g c =
    let ended = c.end_and_remove-had.ensures.ended in
    let mid = mutex_of c.self.inside.is_fair c.take_if.new.value ended.0 in
    let new = mutex_of c.self.inside.is_fair c.take_if.new.value c.end_and_remove-had.new.locks in
    let effect : TakesEffect (EndsPlaced c.args.slot.0) c.self.inside.locks ended.0 = ended.1 in record {
      mid = mid;
      did = search lemmas;
      lives = ap is_some (has_ended c.self.inside.locks ended.0 c.args.slot.0 effect);
      left = subst (λ phase. CancelsAs phase mid c.args.slot.0 new)
          (sym (has_ended c.self.inside.locks ended.0 c.args.slot.0 effect)) (refl, ended.2);
      none = none_left c.self.inside.locks ended.0 c.args.slot.0 effect;
    }

pub invariant_of-self-then-leaves : goal.invariant_of-self-then-leaves
invariant_of-self-then-leaves g c =
    let new = mutex_of c.self.inside.is_fair c.take_if.new.value c.end_and_remove-had.new.locks in
    let it = leaves g c in
    let mid = polled_well c.args.self.now c.args.slot.0 c.args.waker (Ready c.in-Some-take_if.value) it.mid
    (subst IsWell c.self.view_is c.self.invariant) it.did in
    stays_well it.mid new (cancelled it.mid new mid c.args.slot.0 it.left) mid

pub returns-then-leaves-clause-polled : goal.returns-then-leaves-clause-polled
returns-then-leaves-clause-polled g c =
    let new = mutex_of c.self.inside.is_fair c.take_if.new.value c.end_and_remove-had.new.locks in
    let it = leaves g c in
    (it.mid, it.did, subst (λ leaves. IsLeftIf (leaves && true) Cancels c.args.slot.0 it.mid new) (sym c.if-leaves.true) (it.lives, it.left, it.none))

-- It was granted the mutex.
pub invariant_of-self-2 : goal.invariant_of-self-2
invariant_of-self-2 g c =
    let new = mutex_of c.self.inside.is_fair c.take_if.new.value c.grant.new.locks in
    let did : Polls c.args.self.now c.args.slot.0 c.args.waker c.grant.result.0 new = search lemmas in
    polled_well c.args.self.now c.args.slot.0 c.args.waker c.grant.result.0 new (subst IsWell c.self.view_is c.self.invariant) did

pub returns-clause-polled : goal.returns-clause-polled
returns-clause-polled g c =
    let new = mutex_of c.self.inside.is_fair c.take_if.new.value c.grant.new.locks in
    let did : Polls c.args.self.now c.args.slot.0 c.args.waker c.grant.result.0 new = search lemmas in
    (new, did, search lemmas)
