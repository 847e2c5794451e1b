-- The calls on an unfair semaphore whose futures all needed one number leave no wake owed.
use Rattle.std.specs.Prelude.{◌≡◌, ◌+◌, ◌-◌, ◌*◌, ◌<◌, ◌≤◌, ◌||◌, ℕ, true, false, Option, Some, List, ◌∷◌, ◌++◌, length, sum_by, refl}
use Rattle.std.proofs.Common.{ap, subst, sym, ◌∙◌, inl, inr, arith, length-append}
use Rattle.std.proofs.lemmas.Bool.{both_ways, cases_eq, cases_Bool, or_left, or_right, false_from_ne_true}
use Rattle.fi_parts.specs.declared.phase.Phase.{Phase}
use Rattle.fi_parts.specs.declared.phase.Phase.TheVariants.{Registered, Told}
use Rattle.fi_parts.specs.Machine.{phase_at}
use Rattle.fi_parts.specs.Order.{holds, Apart, without}
use Rattle.fi_parts.specs.Places.{is_told}
use Rattle.fi_parts.specs.Waiting.{Waiters, phase_of, is_queued, is_registered}
use Rattle.fi_parts.proofs.Slots.{eqb_same, holds-append, Apart-front}
use Rattle.fi_parts.proofs.Waiting.{Becomes}
use Rattle.fi_locks.specs.declared.semaphore.asked.Asked.TheVariants.{NoNeed, OneNeed}
use Rattle.fi_locks.specs.FrontLaws.{length_without_one, some_first, sum_one, times, more_times, Apart-join}
use Rattle.fi_locks.specs.Semaphore.{SemaphoreMachine, IsAmong, need_of, IsSound, Tells, OwesNoWakeUnfair}
use Rattle.fi_locks.specs.SemaphoreSoundLaws.{waits_if, registered_waits, told_now}
use Rattle.fi_locks.specs.ToldFutures.{AreTold}
use Rattle.fi_locks.specs.ToldFuturesLaws.{told_without}

module _ {W : Type 0} where
  -- one that waits, or was told, needs the one number
  pub one_need : (state : SemaphoreMachine W) (only name : ℕ) → IsSound state → state.own.asked ≡ OneNeed only →
      0 < need_of state.waiting.side name → need_of state.waiting.side name ≡ only
  one_need state only name was asked needs = elim (subst (λ a. IsAmong a (need_of state.waiting.side name)) asked (was.among name)) [
    | inl none ↦ absurd (omega (arith, none, needs))
    | inr is ↦ is
  ]

  -- where no future needed anything, none waits
  pub none_waits : (state : SemaphoreMachine W) (name : ℕ) → IsSound state → state.own.asked ≡ NoNeed →
      is_queued true (phase_at state name) ≡ true → ⊥
  none_waits state name was asked waits =
      let none : need_of state.waiting.side name ≡ 0 =
      subst (λ a. IsAmong a (need_of state.waiting.side name)) asked (was.among name) in
      omega (arith, none, was.needs name waits)

  queue_waits : (state : SemaphoreMachine W) (name : ℕ) → IsSound state → holds name state.waiting.side.queue ≡ true →
      is_queued true (phase_at state name) ≡ true
  queue_waits state name was at = waits_if state.own.is_fair (phase_at state name) (sym (was.waiters.ordered.queued name) ∙ at)

  -- an unfair told one has no place
  pub told_unqueued : (p : Option (Phase W)) → is_told p ≡ true → is_queued false p ≡ false
  told_unqueued (Some (Registered w)) h = absurd (both_ways false refl h)
  told_unqueued phase h = refl

  told_unregistered : (p : Option (Phase W)) → p ≡ Some Told → is_registered p ≡ true → ⊥
  told_unregistered p is h = both_ways _ (ap is_registered is) h

  -- The same are told, nobody more is registered, and no more is free.
  pub unfair_still : (old new : Waiters ℕ W) (free free_now only : ℕ) → OwesNoWakeUnfair free only old → free_now ≤ free →
      ((q : ℕ) → is_told (phase_of new q) ≡ is_told (phase_of old q)) →
      ((q : ℕ) → is_registered (phase_of new q) ≡ true → is_registered (phase_of old q) ≡ true) → OwesNoWakeUnfair free_now only new
  unfair_still old new free free_now only was less same registered = record {
    told = was.told;
    are = record { once = was.are.once; all = λ q. same q ∙ was.are.all q };
    enough = λ q is. omega (arith, less, was.enough q (registered q is));
  }

  -- One name changed, and is not registered now unless it was.
  pub still_registered : (old new : Waiters ℕ W) (name : ℕ) (phase : Option (Phase W)) → Becomes old new name phase →
      (is_registered phase ≡ true → is_registered (phase_of old name) ≡ true) →
      (q : ℕ) → is_registered (phase_of new q) ≡ true → is_registered (phase_of old q) ≡ true
  still_registered old new name phase b here q is = elim (cases_eq q name) [
    | inl e ↦ rw e (here (sym (ap is_registered b.here) ∙ subst (λ (n : ℕ). is_registered (phase_of new n) ≡ true) e is))
    | inr ne ↦ sym (ap is_registered (b.others q ne)) ∙ is
  ]

  -- a told one was granted what it needs
  pub unfair_told_granted : (old new : Waiters ℕ W) (free only name : ℕ) (phase : Option (Phase W)) → OwesNoWakeUnfair free only old →
      Becomes old new name phase → is_told phase ≡ false → is_registered phase ≡ false → only ≤ free →
      OwesNoWakeUnfair (free - only) only new
  unfair_told_granted old new free only name phase was b not_told apart fits = record {
    told = without name was.told;
    are = told_without old new name phase was.told was.are b not_told;
    enough = λ q is.
        let before : is_registered (phase_of old q) ≡ true =
        still_registered old new name phase b (λ h. absurd (both_ways _ apart h)) q is in
        let over : free < (length was.told + 1) * only = was.enough q before in
        let wide : (length was.told + 1) * only ≤ ((length (without name was.told) + 1) + 1) * only =
        more_times (length was.told) (length (without name was.told) + 1) only (length_without_one name was.told was.are.once) in
        omega (arith, over, wide, times (length (without name was.told) + 1) only, fits);
  }

  -- one whose need is not free registers, told or fresh
  pub unfair_registered : (old new : Waiters ℕ W) (free only name : ℕ) (waker : W) → OwesNoWakeUnfair free only old →
      Becomes old new name (Some (Registered waker)) → free < only → OwesNoWakeUnfair free only new
  unfair_registered old new free only name waker was b over = record {
    told = without name was.told;
    are = told_without old new name (Some (Registered waker)) was.told was.are b refl;
    enough = λ q is.
        omega (arith, over, once only, more_times 0 (length (without name was.told)) only (omega arith));
  }
    where
      once : (n : ℕ) → (0 + 1) * n ≡ n
      once n = grind arith

  -- A telling round leaves no wake owed.
  pub unfair_tells : (old new : SemaphoreMachine W) (only : ℕ) (told : List ℕ) → IsSound old → old.own.is_fair ≡ false →
      old.own.asked ≡ OneNeed only → AreTold old.waiting.side told → Tells old new →
      OwesNoWakeUnfair old.own.free only new.waiting.side
  unfair_tells old new only told sound unfair asked are did = record {
    told = front ++ told;
    are = record {
      once = Apart-join front told (Apart-front front later (subst Apart is_front sound.waiters.ordered.once)) are.once off;
      all = all;
    };
    enough = enough;
  }
    where
      need : ℕ → ℕ
      need = need_of old.waiting.side

      front : List ℕ
      front = did.0

      later : List ℕ
      later = did.2.1.0

      is_front : old.waiting.side.queue ≡ front ++ later
      is_front = did.2.1.1

      in_queue : (q : ℕ) → holds q front ≡ true → holds q old.waiting.side.queue ≡ true
      in_queue q at = ap (holds q) is_front ∙ holds-append q front later ∙ or_left _ _ at

      off : (q : ℕ) → holds q front ≡ true → holds q told ≡ false
      off q at =
          let apart : holds q told ≡ true → holds q old.waiting.side.queue ≡ false = λ there.
          sound.waiters.ordered.queued q ∙ ap (λ b. is_queued b (phase_at old q)) unfair
          ∙ told_unqueued (phase_at old q) (are.all q ∙ there) in
          false_from_ne_true _ (λ there. both_ways _ (apart there) (in_queue q at))

      all : (q : ℕ) → is_told (phase_of new.waiting.side q) ≡ holds q (front ++ told)
      all q =
          let now = told_now old new sound did in
          elim (cases_Bool (holds q front)) [
            | inl at ↦ ap is_told (now.these q at) ∙ sym (holds-append q front told ∙ or_left _ _ at)
            | inr apart ↦ ap is_told (now.others q apart) ∙ are.all q ∙ sym (holds-append q front told ∙ ap (λ b. b || holds q told) apart)
          ]

      one : (q : ℕ) → holds q old.waiting.side.queue ≡ true → need q ≡ only
      one q at = one_need old only q sound asked (sound.needs q (queue_waits old q sound at))

      behind : (q : ℕ) → holds q front ≡ false → is_registered (phase_at old q) ≡ true → holds q later ≡ true
      behind q apart is =
          sym (ap (λ b. b || holds q later) apart) ∙ sym (holds-append q front later) ∙ sym (ap (holds q) is_front)
          ∙ sound.waiters.ordered.queued q ∙ registered_waits old.own.is_fair (phase_at old q) is

      over_one : (next : ℕ) (others : List ℕ) → later ≡ next ∷ others → old.own.free < (length (front ++ told) + 1) * only
      over_one next others is =
          let at : holds next old.waiting.side.queue ≡ true =
          ap (holds next) is_front ∙ holds-append next front later
          ∙ or_right (holds next front) _ (ap (holds next) is ∙ or_left _ _ (eqb_same next)) in
          let ones : sum_by need front ≡ length front * only = sum_one need only front (λ q there. one q (in_queue q there)) in
          let over : old.own.free < (length front + 1) * only =
          omega (arith, did.1.longest next others (is_front ∙ ap (λ xs. front ++ xs) is), ones, one next at, times (length front) only) in
          let wide : (length front + 1) * only ≤ (length (front ++ told) + 1) * only =
          more_times (length front) (length (front ++ told)) only (omega (arith, length-append front told)) in
          omega (arith, over, wide)

      enough : (q : ℕ) → is_registered (phase_of new.waiting.side q) ≡ true → old.own.free < (length (front ++ told) + 1) * only
      enough q is =
          let now = told_now old new sound did in
          elim (cases_Bool (holds q front)) [
            | inl at ↦ absurd (told_unregistered (phase_of new.waiting.side q) (now.these q at) is)
            | inr apart ↦
                let before : is_registered (phase_at old q) ≡ true = sym (ap is_registered (now.others q apart)) ∙ is in
                let first = some_first later q (behind q apart before) in
                over_one first.0 first.1 first.2
          ]
