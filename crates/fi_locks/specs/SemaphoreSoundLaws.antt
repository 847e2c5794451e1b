-- The effects of a semaphore's calls keep it sound.
use Rattle.std.specs.Prelude.{◌≡◌, ◌≢◌, ◌+◌, ◌-◌, ◌^◌, ◌<◌, ◌≤◌, ◌==◌, ⊤, ℕ, zero, suc, Bool, true, false, if◌then◌else◌}
use Rattle.std.specs.Prelude.{Option, Some, None, unwrap_or, List, ◌++◌, refl}
use Rattle.std.proofs.Common.{ap, subst, sym, ◌∙◌, inl, inr, arith}
use Rattle.std.proofs.lemmas.Bool.{both_ways, cases_eq, cases_Bool, eqb-true, eq-eqb, ne_eqb, or_left}
use Rattle.std.specs.Ordering.{nat_cmp}
use Rattle.std.specs.FinMap as map
use Rattle.fi_parts.specs.declared.phase.Phase.{Phase}
use Rattle.fi_parts.specs.declared.phase.Phase.TheVariants.{Fresh, Registered, Told, Ended}
use Rattle.fi_parts.specs.Effects.{WaiterEffect, TakesEffect}
use Rattle.fi_parts.specs.Effects.WaiterEffect.{Inserts, EndsPlaced, Removes, NotifiesFront}
use Rattle.fi_parts.specs.Machine.{phase_at, HasSoundWaitersBy}
use Rattle.fi_parts.specs.MachineTable.{AllowsEffect, WaiterRules}
use Rattle.fi_parts.specs.Order.{holds}
use Rattle.fi_parts.specs.Places.{is_told}
use Rattle.fi_parts.specs.PlaceRules.{queued_rule}
use Rattle.fi_parts.specs.Waiting.{Waiters, Waiting, phase_in, phase_of, asks_in, asks_of, is_queued, is_registered}
use Rattle.fi_parts.proofs.Effects.{waits_known, After, effect_sound, effect_after}
use Rattle.fi_parts.proofs.Machines.{asks_step, asks_after, phases_after, initial_holds}
use Rattle.fi_parts.proofs.Notified.{AllBecome}
use Rattle.fi_parts.proofs.PairsWithin.{if_true, if_false}
use Rattle.fi_parts.proofs.Slots.{holds-append}
use Rattle.fi_parts.proofs.Waiting.{Becomes}
use Rattle.fi_locks.specs.declared.semaphore.asked.Asked.{Asked}
use Rattle.fi_locks.specs.declared.semaphore.asked.Asked.TheVariants.{NoNeed, OneNeed, MixedNeeds}
use Rattle.fi_locks.specs.Semaphore.{Permits, SemaphoreMachine, asked_after, IsAmong, granted}
use Rattle.fi_locks.specs.Semaphore.{at_own, opened, need_of, is_wait_phase, IsSound, Tells}

among_zero : (asked : Asked) → IsAmong asked 0
among_zero NoNeed = refl
among_zero (OneNeed only) = inl refl
among_zero MixedNeeds = tt

among_after : (asked : Asked) (need : ℕ) → IsAmong (asked_after asked need) need
among_after asked zero = among_zero asked
among_after NoNeed (suc n) = inr refl
among_after (OneNeed only) (suc n) = each (only == suc n) refl
  where
    each : (b : Bool) → (only == suc n) ≡ b → IsAmong (if b then OneNeed only else MixedNeeds) (suc n)
    each true is = inr (sym (eqb-true only (suc n) is))
    each false is = tt
among_after MixedNeeds (suc n) = tt

among_still : (asked : Asked) (need n : ℕ) → IsAmong asked n → IsAmong (asked_after asked need) n
among_still asked zero n was = was
among_still NoNeed (suc m) n was = inl was
among_still (OneNeed only) (suc m) n was = each (only == suc m)
  where
    each : (b : Bool) → IsAmong (if b then OneNeed only else MixedNeeds) n
    each true = was
    each false = tt
among_still MixedNeeds (suc m) n was = tt

-- a semaphore's futures lack nothing that their machine's own data alone tell
abbrev pub no_lack : Permits → Option ℕ → Type 0
no_lack permits asks = ⊤

-- one need is granted, which is free
pub counted_still : (free held need : ℕ) → free + held < 2 ^ 64 → need ≤ free → (free - need) + (held + need) < 2 ^ 64
counted_still free held need counted fits = omega (arith, counted, fits)

module _ {W : Type 0} where
  -- The registered have places in the queue, and in a fair semaphore the told.
  abbrev pub rules : Bool → WaiterRules Permits ℕ W
  rules is_fair = record {
    phases = is_wait_phase;
    known = waits_known;
    place = is_queued is_fair;
    places = queued_rule is_fair;
    lacks = no_lack;
  }

  -- who has a place is registered or told
  pub waits_if : (keeps : Bool) (p : Option (Phase W)) → is_queued keeps p ≡ true → is_queued true p ≡ true
  waits_if keeps (Some (Registered w)) h = refl
  waits_if keeps (Some Told) h = refl
  waits_if keeps phase h = h

  pub told_waits : (p : Option (Phase W)) → is_told p ≡ true → is_queued true p ≡ true
  told_waits (Some (Registered w)) h = refl
  told_waits (Some Told) h = refl
  told_waits phase h = h

  pub registered_waits : (keeps : Bool) (p : Option (Phase W)) → is_registered p ≡ true → is_queued keeps p ≡ true
  registered_waits keeps (Some (Registered w)) h = refl
  registered_waits keeps (Some Told) h = absurd (both_ways false refl h)
  registered_waits keeps phase h = h

  -- One name changed: this is its phase now, and the others have the phases and needs that they had.
  pub record Changes (old new : Waiters ℕ W) (name : ℕ) (phase : Option (Phase W)) : Type 0 where
    pub becomes : Becomes old new name phase
    pub needs : (q : ℕ) → q ≢ name → need_of new q ≡ need_of old q

  need_from : (new : Waiters ℕ W) (q : ℕ) (asks : Option ℕ) → asks_of new q ≡ asks → need_of new q ≡ unwrap_or asks 0
  need_from new q asks same = ap (λ o. unwrap_or o 0) same

  -- the needs after an effect that makes no future and removes none
  pub same_need : (effect : WaiterEffect ℕ W) (old new : Waiting ℕ W) → TakesEffect effect old new →
      ((q : ℕ) → asks_step effect q (asks_of old.side q) ≡ asks_of old.side q) → (q : ℕ) → need_of new.side q ≡ need_of old.side q
  same_need effect old new taken same q = need_from new.side q (asks_of old.side q) (asks_after effect old new taken q ∙ same q)

  pub need_inserted : (name need : ℕ) (old new : Waiting ℕ W) → TakesEffect (Inserts name need) old new → need_of new.side name ≡ need
  need_inserted name need old new taken =
      need_from new.side name (Some need)
      (asks_after (Inserts name need) old new taken name ∙ if_true (name == name) (Some need) (asks_of old.side name)
      (eq-eqb name name refl))

  pub other_need_inserted : (name need : ℕ) (old new : Waiting ℕ W) → TakesEffect (Inserts name need) old new → (q : ℕ) → q ≢ name →
      need_of new.side q ≡ need_of old.side q
  other_need_inserted name need old new taken q ne =
      need_from new.side q (asks_of old.side q) (asks_after (Inserts name need) old new taken q ∙ if_false (name == q) (Some need)
      (asks_of old.side q) (ne_eqb name q (λ e. ne (sym e))))

  pub need_removed : (name : ℕ) (old new : Waiting ℕ W) → TakesEffect (Removes name) old new → need_of new.side name ≡ 0
  need_removed name old new taken =
      need_from new.side name None
      (asks_after (Removes name) old new taken name ∙ if_true (name == name) None (asks_of old.side name) (eq-eqb name name refl))

  pub other_need_removed : (name : ℕ) (old new : Waiting ℕ W) → TakesEffect (Removes name) old new → (q : ℕ) → q ≢ name →
      need_of new.side q ≡ need_of old.side q
  other_need_removed name old new taken q ne =
      need_from new.side q (asks_of old.side q) (asks_after (Removes name) old new taken q ∙ if_false (name == q) None
      (asks_of old.side q) (ne_eqb name q (λ e. ne (sym e))))

  -- The waiters stay sound.
  pub waiters_after : (effect : WaiterEffect ℕ W) (old : SemaphoreMachine W) (new : Waiting ℕ W) → IsSound old →
      AllowsEffect (queued_rule old.own.is_fair) is_wait_phase old.waiting effect → TakesEffect effect old.waiting new →
      HasSoundWaitersBy (is_queued old.own.is_fair) is_wait_phase (at_own old.own new)
  waiters_after effect old new was allows taken =
      effect_sound (queued_rule old.own.is_fair) is_wait_phase waits_known effect old.waiting new allows was.waiters taken

  -- the phase of each name after an effect
  pub after : (effect : WaiterEffect ℕ W) (old : SemaphoreMachine W) (new : Waiting ℕ W) → IsSound old →
      AllowsEffect (queued_rule old.own.is_fair) is_wait_phase old.waiting effect → TakesEffect effect old.waiting new →
      After effect old.waiting new
  after effect old new was allows taken =
      effect_after (queued_rule old.own.is_fair) is_wait_phase waits_known effect old.waiting new allows was.waiters taken

  -- One name changed.
  pub sound_one : (old : SemaphoreMachine W) (permits : Permits) (new : Waiting ℕ W) (name : ℕ) (phase : Option (Phase W)) →
      IsSound old → permits.is_fair ≡ old.own.is_fair →
      HasSoundWaitersBy (is_queued old.own.is_fair) is_wait_phase (at_own old.own new) →
      permits.free + permits.held < 2 ^ 64 → Changes old.waiting.side new.side name phase →
      ((q : ℕ) → IsAmong permits.asked (need_of old.waiting.side q)) → IsAmong permits.asked (need_of new.side name) →
      (is_queued true phase ≡ true → 0 < need_of new.side name) → IsSound (at_own permits new)
  sound_one old permits new name phase was fair waiters counted c among here needs = record {
    waiters = subst (λ b. HasSoundWaitersBy (is_queued b) is_wait_phase (at_own old.own new)) (sym fair) waiters;
    counted = counted;
    among = λ q. elim (cases_eq q name) [ inl e ↦ rw e here | inr ne ↦ rw (c.needs q ne) (among q) ];
    needs = λ q at. elim (cases_eq q name) [
      | inl e ↦ rw e (needs (sym (ap (is_queued true) c.becomes.here)
          ∙ subst (λ (n : ℕ). is_queued true (phase_of new.side n) ≡ true) e at))
      | inr ne ↦ rw (c.needs q ne) (was.needs q (sym (ap (is_queued true) (c.becomes.others q ne)) ∙ at))
    ];
  }

  -- One name has another phase now, and its need stays.
  pub sound_phase : (old : SemaphoreMachine W) (permits : Permits) (new : Waiting ℕ W) (name : ℕ) (phase : Option (Phase W)) →
      IsSound old → permits.is_fair ≡ old.own.is_fair → permits.asked ≡ old.own.asked →
      HasSoundWaitersBy (is_queued old.own.is_fair) is_wait_phase (at_own old.own new) →
      permits.free + permits.held < 2 ^ 64 → Becomes old.waiting.side new.side name phase →
      ((q : ℕ) → need_of new.side q ≡ need_of old.waiting.side q) → (is_queued true phase ≡ true → 0 < need_of old.waiting.side name) →
      IsSound (at_own permits new)
  sound_phase old permits new name phase was fair asked waiters counted b same needs =
      sound_one old permits new name phase was fair waiters counted (record { becomes = b; needs = λ q ne. same q })
      (λ q. rw asked (was.among q)) (rw (asked, same name) (was.among name)) (λ at. rw (same name) (needs at))

  -- the permits changed, and nobody
  pub sound_permits : (old : SemaphoreMachine W) (permits : Permits) (new : Waiting ℕ W) → IsSound old →
      permits.is_fair ≡ old.own.is_fair → permits.asked ≡ old.own.asked → permits.free + permits.held < 2 ^ 64 →
      new.side ≡ old.waiting.side → HasSoundWaitersBy (is_queued old.own.is_fair) is_wait_phase (at_own old.own new) →
      IsSound (at_own permits new)
  sound_permits old permits new was fair asked counted same waiters = record {
    waiters = subst (λ b. HasSoundWaitersBy (is_queued b) is_wait_phase (at_own old.own new)) (sym fair) waiters;
    counted = counted;
    among = λ q. rw (asked, same) (was.among q);
    needs = λ q at. rw same (was.needs q (subst (λ (s : Waiters ℕ W). is_queued true (phase_of s q) ≡ true) same at));
  }

  pub sound_inserted : (old : SemaphoreMachine W) (new : Waiting ℕ W) (name need : ℕ) → IsSound old →
      TakesEffect (Inserts name need) old.waiting new → (b : Becomes old.waiting.side new.side name (Some Fresh)) →
      IsSound (at_own (record old.own { asked = asked_after old.own.asked need }) new)
  sound_inserted old new name need was taken b =
      sound_one old (record old.own { asked = asked_after old.own.asked need }) new name (Some Fresh) was refl
      (waiters_after (Inserts name need) old new was tt taken) was.counted
      (record { becomes = b; needs = λ q ne. other_need_inserted name need old.waiting new taken q ne })
      (λ q. among_still old.own.asked need (need_of old.waiting.side q) (was.among q))
      (rw (need_inserted name need old.waiting new taken) (among_after old.own.asked need)) (λ at. absurd (both_ways false refl at))

  pub sound_removed : (old : SemaphoreMachine W) (new : Waiting ℕ W) (name : ℕ) → IsSound old →
      TakesEffect (Removes name) old.waiting new → (b : Becomes old.waiting.side new.side name None) → IsSound (at_own old.own new)
  sound_removed old new name was taken b =
      sound_one old old.own new name None was refl
      (waiters_after (Removes name) old new was tt taken) was.counted
      (record { becomes = b; needs = λ q ne. other_need_removed name old.waiting new taken q ne }) was.among
      (rw (need_removed name old.waiting new taken) (among_zero old.own.asked)) (λ at. absurd (both_ways false refl at))

  -- one is granted what it needs, and leaves the queue if it has a place there
  pub sound_ended : (old : SemaphoreMachine W) (new : Waiting ℕ W) (name : ℕ) → IsSound old →
      TakesEffect (EndsPlaced name) old.waiting new → need_of old.waiting.side name ≤ old.own.free →
      IsSound (at_own (granted old.own (need_of old.waiting.side name)) new)
  sound_ended old new name was taken fits =
      sound_phase old (granted old.own (need_of old.waiting.side name)) new name (Some Ended) was refl refl
      (waiters_after (EndsPlaced name) old new was tt taken)
      (counted_still old.own.free old.own.held (need_of old.waiting.side name) was.counted fits)
      (after (EndsPlaced name) old new was tt taken) (same_need (EndsPlaced name) old.waiting new taken (λ q. refl))
      (λ at. absurd (both_ways false refl at))

  -- a telling round

  abbrev pub tells_front : (old : SemaphoreMachine W) → List ℕ → WaiterEffect ℕ W
  tells_front old front = NotifiesFront old.own.is_fair front

  -- the phases after a round
  pub told_now : (old new : SemaphoreMachine W) → IsSound old → (did : Tells old new) →
      AllBecome old.waiting.side new.waiting.side did.0 Told
  told_now old new was did =
      phases_after (rules old.own.is_fair) old.own (tells_front old did.0) old new was.waiters (refl, refl) did.2

  pub needs_now : (old new : SemaphoreMachine W) (did : Tells old new) (q : ℕ) → need_of new.waiting.side q ≡ need_of old.waiting.side q
  needs_now old new did q = same_need (tells_front old did.0) old.waiting new.waiting did.2.1 (λ q. refl) q

  pub sound_tells : (old new : SemaphoreMachine W) → IsSound old → Tells old new → IsSound new
  sound_tells old new was did =
      let now = told_now old new was did in
      let is_front : old.waiting.side.queue ≡ did.0 ++ did.2.1.0 = did.2.1.1 in
      let in_front : (q : ℕ) → holds q did.0 ≡ true → is_queued true (phase_at old q) ≡ true = λ q at.
      waits_if old.own.is_fair (phase_at old q) (sym (was.waiters.ordered.queued q) ∙ ap (holds q) is_front
      ∙ holds-append q did.0 did.2.1.0 ∙ or_left _ _ at) in
      let waiters : HasSoundWaitersBy (is_queued old.own.is_fair) is_wait_phase (at_own old.own new.waiting) =
      waiters_after (tells_front old did.0) old new.waiting was (refl, refl) did.2.1 in
      subst (λ permits. IsSound (at_own permits new.waiting)) (sym did.2.0) (record {
        waiters = waiters;
        counted = was.counted;
        among = λ q. rw (needs_now old new did q) (was.among q);
        needs = λ q at. rw (needs_now old new did q) (was.needs q (elim (cases_Bool (holds q did.0)) [
          | inl there ↦ in_front q there
          | inr off ↦ sym (ap (is_queued true) (now.others q off)) ∙ at
        ]));
      })

  pub sound_opened : (is_fair : Bool) (permits : ℕ) → permits < 2 ^ 64 → IsSound (opened {W = W} is_fair permits)
  sound_opened is_fair permits counted = record {
    waiters = (initial_holds (rules is_fair) (opened {W = W} is_fair permits).own).0;
    counted = omega (arith, counted);
    among = λ q. ap (λ o. unwrap_or (asks_in o) 0) (map.get-empty nat_cmp q);
    needs = λ q at. absurd (both_ways _ (ap (λ o. is_queued true (phase_in o)) (map.get-empty nat_cmp q)) at);
  }
