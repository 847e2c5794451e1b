-- What each call on a semaphore does to its permits and, where it is fair, to its queue.
use Rattle.std.specs.Prelude.{◌≡◌, ◌+◌, ◌-◌, ◌≤◌, ◌⊎◌, ℕ, nat_lt, not, Bool, true, false}
use Rattle.std.specs.Prelude.{Option, Some, None, List, [], ◌∷◌, ◌++◌, refl}
use Rattle.std.proofs.Common.{ap, subst, sym, ◌∙◌, inl, inr, arith}
use Rattle.std.proofs.lemmas.Bool.{both_ways, leb-true, and_parts, not-true}
use Rattle.futures.specs.declared.task.Poll.{Poll}
use Rattle.futures.specs.declared.task.Poll.TheVariants.{Ready, Pending}
use Rattle.fi_parts.specs.declared.phase.Phase.{Phase}
use Rattle.fi_parts.specs.declared.phase.Phase.TheVariants.{Fresh, Registered, Told}
use Rattle.fi_parts.specs.Effects.{WaiterEffect, TakesEffect}
use Rattle.fi_parts.specs.Effects.WaiterEffect.{NoChange, EndsPlaced, Removes}
use Rattle.fi_parts.specs.Machine.{phase_at}
use Rattle.fi_parts.specs.MachineTable.{poll_change}
use Rattle.fi_parts.specs.Order.{holds, without}
use Rattle.fi_parts.specs.Places.{is_told}
use Rattle.fi_parts.specs.Waiting.{Waiting, is_queued}
use Rattle.fi_parts.specs.WakerHistory.{gives}
use Rattle.fi_parts.proofs.PairsWithin.{if_true, if_false}
use Rattle.fi_parts.proofs.Slots.{without_absent}
use Rattle.fi_locks.specs.declared.semaphore.Permits.{Permits}
use Rattle.fi_locks.specs.Semaphore.{SemaphoreMachine, granted, need_of, is_granted, StepsTelling, Makes, PollsAs, Polls}
use Rattle.fi_locks.specs.Semaphore.{cancel_tells, Cancels, TriesAcquire, Releases, GivesBack, Disarms, Wakes}
use Rattle.fi_locks.specs.Semaphore.{IsSound, asked_after}
use Rattle.fi_locks.specs.SemaphoreFairLaws.{taken_fairly}
use Rattle.fi_locks.specs.SemaphoreLaws.{taken_are_free, unqueued}
use Rattle.fi_run.specs.FirstPolls.{order_step}

granted_sum : (free held need : ℕ) → need ≤ free → (free - need) + (held + need) + 0 ≡ free + held + 0
granted_sum free held need fits = omega (arith, fits)

added_sum : (free held n : ℕ) → (free + n) + held + 0 ≡ free + held + n
added_sum free held n = omega arith

returned_sum : (free held n : ℕ) → n ≤ held → (free + n) + (held - n) + 0 ≡ free + held + 0
returned_sum free held n fits = omega (arith, fits)

disarmed_sum : (free held n : ℕ) → n ≤ held → free + (held - n) + n ≡ free + held + 0
disarmed_sum free held n fits = omega (arith, fits)

module _ {W : Type 0} where
  -- Its permits are those of before and those added, but for those taken away; and it is fair if it was.
  pub record Moves (added taken : ℕ) (old new : SemaphoreMachine W) : Type 0 where
    pub is_fair : new.own.is_fair ≡ old.own.is_fair
    pub sum : new.own.free + new.own.held + taken ≡ old.own.free + old.own.held + added

  module _ (old new : SemaphoreMachine W) where
    moves : (added taken : ℕ) (permits : Permits) → new.own ≡ permits → permits.is_fair ≡ old.own.is_fair →
        permits.free + permits.held + taken ≡ old.own.free + old.own.held + added → Moves added taken old new
    moves added taken permits own fair sum = record {
      is_fair = ap (λ (p : Permits). p.is_fair) own ∙ fair;
      sum = subst (λ (p : Permits). p.free + p.held + taken ≡ old.own.free + old.own.held + added) (sym own) sum;
    }

    keeps_permits : new.own ≡ old.own → Moves 0 0 old new
    keeps_permits own = moves 0 0 old.own own refl refl

    pub unchanged_permits : new ≡ old → Moves 0 0 old new
    unchanged_permits same = keeps_permits (ap (λ (m : SemaphoreMachine W). m.own) same)

    grants : (need : ℕ) → need ≤ old.own.free → new.own ≡ granted old.own need → Moves 0 0 old new
    grants need fits own = moves 0 0 (granted old.own need) own refl (granted_sum old.own.free old.own.held need fits)

    -- the permits after a telling round are those before it
    telling_own : (tells : Bool) (permits : Permits) (effect : WaiterEffect ℕ W) → StepsTelling tells old permits effect new →
        new.own ≡ permits
    telling_own true permits effect did = did.2.2.0
    telling_own false permits effect did = did.0

    pub made_permits : (need name : ℕ) → Makes old need name new → Moves 0 0 old new
    made_permits need name did = moves 0 0 (record old.own { asked = asked_after old.own.asked need }) did.0 refl refl

    pub woken_permits : (waker : Option W) → Wakes old waker new → Moves 0 0 old new
    woken_permits waker did = keeps_permits did.0

    pub tried_permits : (n : ℕ) (granting : Bool) → TriesAcquire old n granting new → Moves 0 0 old new
    tried_permits n true did = grants n (taken_are_free old.own old.waiting.side.queue n (sym did.0)) did.1.0
    tried_permits n false did = keeps_permits did.1.0

    -- permits of a fair semaphore that were tried for and granted
    pub tried_in_turn : (n : ℕ) → old.own.is_fair ≡ true → TriesAcquire old n true new →
        (old.waiting.side.queue ≡ []) ⊎ (n ≡ 0)
    tried_in_turn n fair did = taken_fairly old.own old.waiting.side.queue n fair (sym did.0)

    pub cancelled_permits : (name : ℕ) → Cancels old name new → Moves 0 0 old new
    cancelled_permits name did =
        keeps_permits (telling_own (cancel_tells old.own.is_fair (phase_at old name)) old.own (Removes name) did)

    pub released_permits : (n : ℕ) → Releases old n new → Moves n 0 old new
    released_permits n did =
        let permits = record old.own { free = old.own.free + n } in
        moves n 0 permits (telling_own (nat_lt 0 n) permits NoChange did.1) refl (added_sum old.own.free old.own.held n)

    pub given_back_permits : (n : ℕ) → GivesBack old n new → Moves 0 0 old new
    given_back_permits n did =
        let permits = record old.own { free = old.own.free + n; held = old.own.held - n } in
        moves 0 0 permits (telling_own (nat_lt 0 n) permits NoChange did.1) refl (returned_sum old.own.free old.own.held n did.0)

    pub disarmed_permits : (n : ℕ) → Disarms old n new → Moves 0 n old new
    disarmed_permits n did =
        moves 0 n (record old.own { held = old.own.held - n }) did.1.0 refl (disarmed_sum old.own.free old.own.held n did.0)

    module _ (name : ℕ) (waker : W) where
      polled_as : (phase : Option (Phase W)) (granting : Bool) (need : ℕ) (answer : Poll ℕ) →
          is_granted phase old need ≡ granting →
          PollsAs phase granting need old name waker answer new → Moves 0 0 old new
      polled_as (Some Fresh) true need answer takes did =
          grants need (taken_are_free old.own old.waiting.side.queue need takes) did.1.0
      polled_as (Some Fresh) false need answer lacks did = keeps_permits did.1.0
      polled_as (Some (Registered before)) true need answer takes did =
          grants need (leb-true need old.own.free (and_parts (not old.own.is_fair) _ takes).1) did.1.0
      polled_as (Some (Registered before)) false need answer lacks did = keeps_permits did.1.0
      polled_as (Some Told) true need answer takes did =
          grants need (leb-true need old.own.free takes)
          (telling_own old.own.is_fair (granted old.own need) (EndsPlaced name) did.1)
      polled_as (Some Told) false need answer lacks did = keeps_permits did.2.0
      polled_as phase granting need answer is did = absurd did

      pub polled_permits : (answer : Poll ℕ) → Polls old name waker answer new → Moves 0 0 old new
      polled_permits answer did =
          let need = need_of old.waiting.side name in
          polled_as (phase_at old name) (is_granted (phase_at old name) old need) need answer refl did

      -- a poll that is ready in a fair semaphore: the future was told, or came while nobody was queued, or needs no permits
      turn_as : (phase : Option (Phase W)) (granting : Bool) (need n : ℕ) → old.own.is_fair ≡ true → phase_at old name ≡ phase →
          is_granted phase old need ≡ granting → PollsAs phase granting need old name waker (Ready n) new →
          (is_told (phase_at old name) ≡ true) ⊎ ((old.waiting.side.queue ≡ []) ⊎ (need ≡ 0))
      turn_as (Some Fresh) true need n fair is takes did = inr (taken_fairly old.own old.waiting.side.queue need fair takes)
      turn_as (Some Fresh) false need n fair is takes did = absurd (cc did.0)
      turn_as (Some (Registered before)) true need n fair is takes did =
          absurd (both_ways _ (not-true old.own.is_fair (and_parts (not old.own.is_fair) _ takes).0) fair)
      turn_as (Some (Registered before)) false need n fair is takes did = absurd (cc did.0)
      turn_as (Some Told) true need n fair is takes did = inl (ap is_told is)
      turn_as (Some Told) false need n fair is takes did = absurd (cc did.1)
      turn_as phase granting need n fair is takes did = absurd did

      pub ready_in_turn : (n : ℕ) → old.own.is_fair ≡ true → Polls old name waker (Ready n) new →
          (is_told (phase_at old name) ≡ true) ⊎ ((old.waiting.side.queue ≡ []) ⊎ (need_of old.waiting.side name ≡ 0))
      ready_in_turn n fair did =
          let need = need_of old.waiting.side name in
          turn_as (phase_at old name) (is_granted (phase_at old name) old need) need n fair refl refl did

      -- a poll that is ready was granted what the future needs
      needed : (n need : ℕ) → Ready n ≡ Ready need → n ≡ need
      needed n need same = cc

      ready_as : (phase : Option (Phase W)) (granting : Bool) (need n : ℕ) →
          PollsAs phase granting need old name waker (Ready n) new →
          n ≡ need
      ready_as (Some Fresh) true need n did = needed n need did.0
      ready_as (Some Fresh) false need n did = absurd (cc did.0)
      ready_as (Some (Registered before)) true need n did = needed n need did.0
      ready_as (Some (Registered before)) false need n did = absurd (cc did.0)
      ready_as (Some Told) true need n did = needed n need did.0
      ready_as (Some Told) false need n did = absurd (cc did.1)
      ready_as phase granting need n did = absurd did

      pub ready_with_need : (n : ℕ) → Polls old name waker (Ready n) new →
          Polls old name waker (Ready (need_of old.waiting.side name)) new
      ready_with_need n did =
          let need = need_of old.waiting.side name in
          subst (λ m. Polls old name waker (Ready m) new)
          (ready_as (phase_at old name) (is_granted (phase_at old name) old need) need n did) did

    -- The queue of a fair semaphore.
    abbrev queue_in : Waiting ℕ W → List ℕ
    queue_in waiting = waiting.side.queue

    pub unchanged_queue : new ≡ old → old.waiting.side.queue ≡ new.waiting.side.queue
    unchanged_queue same = sym (ap (λ (m : SemaphoreMachine W). m.waiting.side.queue) same)

    -- who is told keeps its place
    telling_queue : (tells : Bool) (permits : Permits) (effect : WaiterEffect ℕ W) (queue : List ℕ) → permits.is_fair ≡ true →
        ((mid : Waiting ℕ W) → TakesEffect effect old.waiting mid → mid.side.queue ≡ queue) →
        StepsTelling tells old permits effect new → queue ≡ new.waiting.side.queue
    telling_queue true permits effect queue fair after did =
        sym (ap queue_in did.2.2.1.2 ∙ if_true permits.is_fair did.0.side.queue did.2.2.1.0 fair ∙ after did.0 did.1)
    telling_queue false permits effect queue fair after did = sym (after new.waiting did.1)

    pub tried_queue : (n : ℕ) (granting : Bool) → TriesAcquire old n granting new →
        old.waiting.side.queue ≡ new.waiting.side.queue
    tried_queue n granting did = sym (ap queue_in did.1.1)

    pub disarmed_queue : (n : ℕ) → Disarms old n new → old.waiting.side.queue ≡ new.waiting.side.queue
    disarmed_queue n did = sym (ap queue_in did.1.1)

    pub woken_queue : (waker : Option W) → Wakes old waker new →
        order_step (gives waker) old.waiting.side.queue ≡ new.waiting.side.queue
    woken_queue None did = sym (ap queue_in did.1.1)
    woken_queue (Some waker) did = sym (ap queue_in did.1.1)

    module _ (sound : IsSound old) (fair : old.own.is_fair ≡ true) where
      pub made_queue : (need name : ℕ) → Makes old need name new → without name old.waiting.side.queue ≡ new.waiting.side.queue
      made_queue need name did =
          without_absent name old.waiting.side.queue (unqueued old name sound (ap (is_queued old.own.is_fair) did.1.0))
          ∙ sym (ap queue_in did.1.1)

      pub cancelled_queue : (name : ℕ) → Cancels old name new → without name old.waiting.side.queue ≡ new.waiting.side.queue
      cancelled_queue name did =
          telling_queue (cancel_tells old.own.is_fair (phase_at old name)) old.own (Removes name)
          (without name old.waiting.side.queue) fair (λ mid taken. ap queue_in taken.1) did

      pub released_queue : (n : ℕ) → Releases old n new → old.waiting.side.queue ≡ new.waiting.side.queue
      released_queue n did =
          telling_queue (nat_lt 0 n) (record old.own { free = old.own.free + n }) NoChange old.waiting.side.queue fair
          (λ mid taken. ap queue_in taken) did.1

      pub given_back_queue : (n : ℕ) → GivesBack old n new → old.waiting.side.queue ≡ new.waiting.side.queue
      given_back_queue n did =
          telling_queue (nat_lt 0 n) (record old.own { free = old.own.free + n; held = old.own.held - n }) NoChange
          old.waiting.side.queue fair (λ mid taken. ap queue_in taken) did.1

      module _ (name : ℕ) (waker : W) where
        abbrev Queued : Poll ℕ → Type 0
        Queued answer = order_step (poll_change name waker answer) old.waiting.side.queue ≡ new.waiting.side.queue

        ends_queue : (need : ℕ) (answer : Poll ℕ) → answer ≡ Ready need →
            without name old.waiting.side.queue ≡ new.waiting.side.queue → Queued answer
        ends_queue need answer is queue = subst Queued (sym is) queue

        pends_queue : (answer : Poll ℕ) → answer ≡ Pending → Queued Pending → Queued answer
        pends_queue answer is queue = subst Queued (sym is) queue

        is_held : (phase : Option (Phase W)) → phase_at old name ≡ phase →
            holds name old.waiting.side.queue ≡ is_queued old.own.is_fair phase
        is_held phase is = sound.waiters.ordered.queued name ∙ ap (is_queued old.own.is_fair) is

        queued_as : (phase : Option (Phase W)) (granting : Bool) (need : ℕ) (answer : Poll ℕ) → phase_at old name ≡ phase →
            PollsAs phase granting need old name waker answer new → Queued answer
        queued_as (Some Fresh) true need answer is did =
            ends_queue need answer did.0 (without_absent name old.waiting.side.queue (is_held (Some Fresh) is)
            ∙ sym (ap queue_in did.1.1.1))
        queued_as (Some Fresh) false need answer is did =
            pends_queue answer did.0 (if_false (holds name old.waiting.side.queue) old.waiting.side.queue
            (old.waiting.side.queue ++ name ∷ []) (is_held (Some Fresh) is) ∙ sym (ap queue_in did.1.1.1))
        queued_as (Some (Registered before)) true need answer is did =
            ends_queue need answer did.0 (sym (ap queue_in did.1.1.1))
        queued_as (Some (Registered before)) false need answer is did =
            pends_queue answer did.0 (if_true (holds name old.waiting.side.queue) old.waiting.side.queue
            (old.waiting.side.queue ++ name ∷ []) (is_held (Some (Registered before)) is) ∙ sym (ap queue_in did.1.1.1))
        queued_as (Some Told) true need answer is did =
            ends_queue need answer did.0 (telling_queue old.own.is_fair (granted old.own need) (EndsPlaced name)
            (without name old.waiting.side.queue) fair (λ mid taken. ap queue_in taken.1) did.1)
        queued_as (Some Told) false need answer is did = absurd (both_ways _ did.0 fair)
        queued_as phase granting need answer is did = absurd did

        pub polled_queue : (answer : Poll ℕ) → Polls old name waker answer new → Queued answer
        polled_queue answer did =
            let need = need_of old.waiting.side name in
            queued_as (phase_at old name) (is_granted (phase_at old name) old need) need answer refl did
