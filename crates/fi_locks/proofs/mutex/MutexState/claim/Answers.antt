use Rattle.std.proofs.Common.{◌≡◌, rules as lemmas}
use Rattle.fi_parts.proofs.Effects.{waits_are_fit}
use Rattle.fi_parts.proofs.Machines.{claiming_stays}
use Rattle.fi_parts.proofs.Results.{either, of_made}
use Rattle.fi_locks.specs.Mutex.{mutex_of, Makes, can_be_polled}
use Rattle.fi_locks.specs.MutexLaws.{rules, stays_well, made as was_made, unchanged_well, makes_pollable}
use Rattle.fi_locks.proofs.mutex.MutexState.claim.Goals as goal
use Rattle.fi_locks.proofs.mutex.MutexState.claim.Goals.{in-Ok, in-Err}

pub invariant_of-self : goal.invariant_of-self
invariant_of-self g c =
    let old = mutex_of c.self.inside.is_fair c.self.inside.value c.self.inside.locks in
    let new = mutex_of c.self.inside.is_fair c.self.inside.value c.insert.new.self in
    either c.match-insert.result (λ slot. Makes old slot.0 new) (new ≡ old) _ (search lemmas) (search lemmas)
    (λ slot did. stays_well old new (was_made old new c.self.invariant slot.0 did) c.self.invariant)
    (λ same. stays_well old new (unchanged_well old new c.self.invariant same) c.self.invariant)

pub returns-clause-all_stay : goal.returns-clause-all_stay
returns-clause-all_stay g c =
    let old = mutex_of c.self.inside.is_fair c.self.inside.value c.self.inside.locks in
    rw (← c.self.view_is) (claiming_stays (rules c.self.inside.is_fair) can_be_polled waits_are_fit _ _ c.self.invariant.0
    c.match-insert.result (λ slot. slot.0) old.own tt (search lemmas) (search lemmas))

pub returns-clause-pollable : goal.returns-clause-pollable
returns-clause-pollable g c =
    let old = mutex_of c.self.inside.is_fair c.self.inside.value c.self.inside.locks in
    let new = mutex_of c.self.inside.is_fair c.self.inside.value c.insert.new.self in
    of_made c.match-insert.result (λ slot. Makes old slot.0 new) _ (search lemmas) (λ slot did. makes_pollable old new slot.0 did)
