-- Each call on a mutex is a line of its table, and keeps a mutex sound that owes no wake.
use Rattle.std.specs.Prelude.{◌≡◌, ◌≢◌, ◌&&◌, not, ℕ, ⊤, eqb, Bool, true, false, if◌then◌else◌, Option, Some, None, is_some}
use Rattle.std.specs.Prelude.{Result, List, [], ◌∷◌, ◌++◌, refl}
use Rattle.std.proofs.Common.{ap, subst, sym, ◌∙◌, inl, inr}
use Rattle.std.proofs.lemmas.Bool.{both_ways, cases_eq, cases_Bool, and_parts, and_right, or_cases, or_parts, or_from, or_left, eqb-true}
use Rattle.std.proofs.lemmas.Bool.{eq-eqb, ne_eqb, false_from_ne_true, true≢false, false≢true}
use Rattle.std.specs.Ordering.{nat_cmp}
use Rattle.std.specs.FinMap as map
use Rattle.futures.specs.declared.task.Poll.{Poll}
use Rattle.futures.specs.declared.task.Poll.TheVariants.{Ready}
use Rattle.fi_parts.specs.declared.phase.Phase.{Phase}
use Rattle.fi_parts.specs.declared.phase.Phase.TheVariants.{Fresh, Registered, Told, Ended}
use Rattle.fi_parts.specs.Effects.{WaiterEffect, TakesEffect, first_of}
use Rattle.fi_parts.specs.Effects.WaiterEffect.{NoChange, Inserts, Registers, KeepsWaiting, EndsPlaced, Removes}
use Rattle.fi_parts.specs.Effects.WaiterEffect.{NotifiesFront, PopsOldest, AndThen}
use Rattle.fi_parts.specs.Machine.{phase_at, StepsTo, HasSoundWaitersBy}
use Rattle.fi_parts.specs.MachineTable.{WaiterRules, TableLine, PollLine, poll_change}
use Rattle.fi_parts.specs.Order.{holds, without}
use Rattle.fi_parts.specs.Places.{is_told}
use Rattle.fi_parts.specs.PlaceRules.{queued_rule}
use Rattle.fi_parts.specs.WakerHistory.{WakerChange, gives}
use Rattle.fi_parts.specs.WakerHistory.WakerChange.{Leaves, NoEffect}
use Rattle.fi_parts.specs.Waiting.{Waiters, Waiting, phase_in, phase_of, is_queued}
use Rattle.fi_parts.proofs.Effects.{waits_known, untold, untold_if_leaving, effect_after, effect_sound}
use Rattle.fi_parts.proofs.Machines.{initial_holds, line_preserves, line, unchanged, inserts, removes, pops, ends_placed}
use Rattle.fi_parts.proofs.Machines.{registers, stays, added, phases_after}
use Rattle.fi_parts.proofs.Notified.{AllBecome}
use Rattle.fi_parts.proofs.Waiting.{Becomes}
use Rattle.fi_locks.specs.Mutex.{MutexMachine, MutexData, held, freed, is_empty, can_be_polled, is_wait_phase, tells_oldest, is_free}
use Rattle.fi_locks.specs.Mutex.{queue_of, opened, for_newcomer, for_registered, Makes, GrantsOr, PollsAs, Polls, CancelsAs, Cancels}
use Rattle.fi_locks.specs.Mutex.{TriesFor, TriesLock, with_value, UnlocksFrom, Unlocks, Wakes, IsSound, OwesNoWakeAs, OwesNoWake}

-- The oldest of a queue.

-- another isn't the oldest
other_than_oldest : (name q : ℕ) (queue : List ℕ) → holds name (first_of queue) ≡ true → q ≢ name →
    holds q (first_of queue) ≡ false
other_than_oldest name q [] at ne = refl
other_than_oldest name q (x ∷ xs) at ne = elim (or_cases (eqb name x) false at) [
  | inl same ↦ or_from (eqb q x) false (ne_eqb q x (λ e. ne (e ∙ sym (eqb-true name x same)))) refl
  | inr none ↦ absurd (false≢true none)
]

-- one who comes behind others isn't the oldest
oldest_of_more : (free : Bool) (queue : List ℕ) (name q : ℕ) → (free ≡ true → is_empty queue ≡ false) →
    (free && holds q (first_of queue)) ≡ (free && holds q (first_of (queue ++ name ∷ [])))
oldest_of_more false queue name q some = refl
oldest_of_more true [] name q some = absurd (true≢false (some refl))
oldest_of_more true (x ∷ xs) name q some = refl

-- the oldest stays it where another leaves
oldest_of_fewer : (free : Bool) (queue : List ℕ) (name q : ℕ) → (free && holds name (first_of queue)) ≡ false →
    (free && holds q (first_of queue)) ≡ (free && holds q (first_of (without name queue)))
oldest_of_fewer false queue name q off = refl
oldest_of_fewer true [] name q off = refl
oldest_of_fewer true (x ∷ xs) name q off = let other : eqb name x ≡ false = (or_parts (eqb name x) false off).0 in rw other refl

-- nothing is left of an empty queue
none_left : (queue rest : List ℕ) → queue ≡ [] → queue ≡ first_of queue ++ rest → rest ≡ []
none_left [] rest is split = sym split
none_left (x ∷ xs) rest is split = absurd (cc)

-- What there is for a poll.

module _ {T : Type 0} where
  none_is : (value : Option T) → value ≡ None → is_some value ≡ true → ⊥
  none_is value none is = both_ways (is_some value) (ap is_some none) is

  -- where there is nothing for a newcomer, a free mutex is fair, and somebody is queued
  nothing_for_newcomer : (is_fair : Bool) (queue : List ℕ) (value : Option T) →
      (if is_fair && not (is_empty queue) then None else value) ≡ None → is_some value ≡ true →
      (is_fair ≡ true) × (is_empty queue ≡ false)
  nothing_for_newcomer true [] value none is = absurd (none_is value none is)
  nothing_for_newcomer true (x ∷ xs) value none is = (refl, refl)
  nothing_for_newcomer false queue value none is = absurd (none_is value none is)

  -- where there is something for a newcomer in a fair mutex, nobody is queued
  pub some_for_newcomer : (is_fair : Bool) (queue : List ℕ) (value : Option T) (given : T) →
      (if is_fair && not (is_empty queue) then None else value) ≡ Some given → is_fair ≡ true → queue ≡ []
  some_for_newcomer true [] value given is fair = refl
  some_for_newcomer true (x ∷ xs) value given is fair = absurd (cc)
  some_for_newcomer false queue value given is fair = absurd (false≢true fair)

  -- a fair mutex has nothing for one who is registered
  pub some_for_registered : (is_fair : Bool) (value : Option T) (given : T) → (if is_fair then None else value) ≡ Some given →
      is_fair ≡ true → ⊥
  some_for_registered true value given is fair = absurd (cc)
  some_for_registered false value given is fair = false≢true fair

module _ {D W : Type 0} where
  queue_if : (waiting now : Waiting D W) → waiting ≡ now → waiting.side.queue ≡ now.side.queue
  queue_if waiting now is = ap (λ (w : Waiting D W). w.side.queue) is

  -- one future changed, and is told as it was
  told_as_before : (old new : Waiters D W) (name : ℕ) (phase : Option (Phase W)) → Becomes old new name phase →
      is_told phase ≡ is_told (phase_of old name) → (q : ℕ) → is_told (phase_of new q) ≡ is_told (phase_of old q)
  told_as_before old new name phase becomes same q = elim (cases_eq q name) [
    | inl e ↦ rw e (ap is_told becomes.here ∙ same)
    | inr ne ↦ ap is_told (becomes.others q ne)
  ]

  -- one future changed and isn't told, nor is another
  none_told : (old new : Waiters D W) (name : ℕ) (phase : Option (Phase W)) → Becomes old new name phase → is_told phase ≡ false →
      ((q : ℕ) → q ≢ name → is_told (phase_of old q) ≡ false) → (q : ℕ) → is_told (phase_of new q) ≡ false
  none_told old new name phase becomes off others q = elim (cases_eq q name) [
    | inl e ↦ rw e (ap is_told becomes.here ∙ off)
    | inr ne ↦ ap is_told (becomes.others q ne) ∙ others q ne
  ]

module _ {T W : Type 0} where
  -- What a future lacks is not said: whether a wake is owed rests on who is told.
  abbrev pub rules : Bool → WaiterRules (MutexData T) (Unit {0}) W
  rules is_fair =
      record {
        phases = is_wait_phase;
        known = waits_known;
        place = is_queued is_fair;
        places = queued_rule is_fair;
        lacks =
            λ own asks. ⊤;
      }

  -- what the parts of a machine say of it
  free_if : (mutex : MutexMachine T W) (own : MutexData T) → mutex.own ≡ own → is_free mutex ≡ is_some own.value
  free_if mutex own is = ap (λ (d : MutexData T). is_some d.value) is

  fair_if : (mutex : MutexMachine T W) (own : MutexData T) → mutex.own ≡ own → mutex.own.is_fair ≡ own.is_fair
  fair_if mutex own is = ap (λ (d : MutexData T). d.is_fair) is

  abbrev pub IsWell : MutexMachine T W → Type 0
  IsWell mutex = IsSound mutex × OwesNoWake mutex

  -- What a call leads to: a line of the table, the same fairness, and no wake owed.
  pub record MutexLine (on_wakers : WakerChange W) (old new : MutexMachine T W) : Type 0 where
    pub line : TableLine (rules old.own.is_fair) on_wakers old new
    pub is_fair : new.own.is_fair ≡ old.own.is_fair
    pub owes : OwesNoWakeAs old.own.is_fair new

  pub stays_well : {on_wakers : WakerChange W} (old new : MutexMachine T W) → MutexLine on_wakers old new → IsWell old →
      IsWell new
  stays_well old new did was =
      let sound : HasSoundWaitersBy (is_queued old.own.is_fair) is_wait_phase new =
      (line_preserves (rules old.own.is_fair) old new did.line (was.0, λ q is. tt)).0 in (
        subst (λ b. HasSoundWaitersBy (is_queued b) is_wait_phase new) (sym did.is_fair) sound,
        subst (λ b. OwesNoWakeAs b new) (sym did.is_fair) did.owes,
      )

  pub opened_well : (value : T) (is_fair : Bool) → IsWell (opened {W = W} value is_fair)
  opened_well value is_fair =
      ((initial_holds (rules is_fair) (record { is_fair = is_fair; value = Some value })).0, owes is_fair)
    where
      owes : (b : Bool) → OwesNoWakeAs b (opened {W = W} value is_fair)
      owes true = λ name. ap (λ o. is_told (phase_in o)) (map.get-empty nat_cmp name)
      owes false = λ free next later is. absurd (cc)

  -- No wake is owed, by what became of the told, the queue and the value.

  module _ (old new : MutexMachine T W) where
    owes_same : (keeps : Bool) → ((q : ℕ) → is_told (phase_at new q) ≡ is_told (phase_at old q)) → is_free new ≡ is_free old →
        queue_of new ≡ queue_of old → OwesNoWakeAs keeps old → OwesNoWakeAs keeps new
    owes_same true told free queue was = λ name.
        told name ∙ was name ∙ (λ i. sym free i && holds name (first_of (sym queue i)))
    owes_same false told free queue was = λ is next later at.
        let one = was (sym free ∙ is) next later (sym queue ∙ at) in (one.0, told one.0 ∙ one.1)

    -- it is held, and if it is fair nobody is told
    owes_held : (keeps : Bool) → is_free new ≡ false → (keeps ≡ true → (q : ℕ) → is_told (phase_at new q) ≡ false) →
        OwesNoWakeAs keeps new
    owes_held true free none = λ name. none refl name ∙ ap (λ b. b && holds name (first_of (queue_of new))) (sym free)
    owes_held false free none = λ is next later at. absurd (both_ways (is_free new) free is)

    -- one more is queued, where a free mutex is fair and somebody was queued
    owes_pushed : (keeps : Bool) (name : ℕ) → ((q : ℕ) → is_told (phase_at new q) ≡ is_told (phase_at old q)) →
        is_free new ≡ is_free old →
        queue_of new ≡ queue_of old ++ name ∷ [] → (is_free old ≡ true → (keeps ≡ true) × (is_empty (queue_of old) ≡ false)) →
        OwesNoWakeAs keeps old → OwesNoWakeAs keeps new
    owes_pushed true name told free queue some was = λ q.
        told q ∙ was q ∙ oldest_of_more (is_free old) (queue_of old) name q (λ is. (some is).1)
        ∙ (λ i. sym free i && holds q (first_of (sym queue i)))
    owes_pushed false name told free queue some was = λ is next later at. absurd (false≢true (some (sym free ∙ is)).0)

    -- one that isn't told is removed
    owes_removed : (keeps : Bool) (name : ℕ) → Becomes old.waiting.side new.waiting.side name None →
        is_told (phase_at old name) ≡ false →
        is_free new ≡ is_free old → queue_of new ≡ without name (queue_of old) → OwesNoWakeAs keeps old → OwesNoWakeAs keeps new
    owes_removed true name becomes off free queue was = λ q.
        told_as_before old.waiting.side new.waiting.side name None becomes (sym off) q ∙ was q
        ∙ oldest_of_fewer (is_free old) (queue_of old) name q (sym (was name) ∙ off)
        ∙ (λ i. sym free i && holds q (first_of (sym queue i)))
    owes_removed false name becomes off free queue was = λ is next later at. each (queue_of old) refl is next later at
      where
        empty : (later : List ℕ) (next : ℕ) → queue_of old ≡ [] → queue_of new ≡ next ∷ later → ⊥
        empty later next none at =
            let gone : queue_of new ≡ [] = queue ∙ ap (without name) none in cc

        each : (queue : List ℕ) → queue_of old ≡ queue → is_free new ≡ true → (next : ℕ) (later : List ℕ) →
            queue_of new ≡ next ∷ later →
            (q : ℕ) × (is_told (phase_at new q) ≡ true)
        each [] none is next later at = absurd (empty later next none at)
        each (x ∷ xs) some is next later at =
            let one = was (sym free ∙ is) x xs some in
            (one.0, told_as_before old.waiting.side new.waiting.side name None becomes (sym off) one.0 ∙ one.1)

    -- The oldest of the queue is told. If the mutex is fair it is free, and nobody was told.
    owes_told : (keeps : Bool) (mid : Waiting (Unit {0}) W) → AllBecome mid.side new.waiting.side (first_of mid.side.queue) Told →
        TakesEffect (NotifiesFront keeps (first_of mid.side.queue)) mid new.waiting → (keeps ≡ true → is_free new ≡ true) →
        (keeps ≡ true → (q : ℕ) → is_told (phase_of mid.side q) ≡ false) → OwesNoWakeAs keeps new
    owes_told true mid become did free none = λ q.
        let queue : queue_of new ≡ mid.side.queue = queue_if _ _ did.2 in
        let told : is_told (phase_at new q) ≡ holds q (first_of mid.side.queue) =
        elim (cases_Bool (holds q (first_of mid.side.queue))) [
          | inl at ↦ ap is_told (become.these q at) ∙ sym at
          | inr off ↦ ap is_told (become.others q off) ∙ none refl q ∙ sym off
        ] in
        told ∙ (λ i. sym (free refl) i && holds q (first_of (sym queue i)))
    owes_told false mid become did free none = λ is next later at. each mid.side.queue refl next later at
      where
        rest : queue_of new ≡ did.0
        rest = queue_if _ _ did.2

        each : (queue : List ℕ) → mid.side.queue ≡ queue → (next : ℕ) (later : List ℕ) → queue_of new ≡ next ∷ later →
            (q : ℕ) × (is_told (phase_at new q) ≡ true)
        each [] none next later at = let left : did.0 ≡ [] =
            none_left mid.side.queue did.0 none did.1 in absurd (cc (rest, left, at))
        each (x ∷ xs) some next later at =
            (x, ap is_told (become.these x (ap (λ q. holds x (first_of q)) some ∙ or_left (eqb x x) false (eq-eqb x x refl))))

  -- The value of a free mutex may be exchanged for another.
  pub revalued : (mutex : MutexMachine T W) (value : T) → is_free mutex ≡ true → IsWell mutex → IsWell (with_value mutex value)
  revalued mutex value free was =
      (was.0, owes_same mutex (with_value mutex value) mutex.own.is_fair (λ q. refl) (sym free) refl was.1)

  -- What the table's lines say of who is told.

  module _ (old : MutexMachine T W) (was : IsWell old) where
    fair_told : old.own.is_fair ≡ true → (q : ℕ) → is_told (phase_at old q) ≡ (is_free old && holds q (first_of (queue_of old)))
    fair_told fair = subst (λ b. OwesNoWakeAs b old) fair was.1

    -- nobody is queued
    none_if_empty : old.own.is_fair ≡ true → queue_of old ≡ [] → (q : ℕ) → is_told (phase_at old q) ≡ false
    none_if_empty fair empty q =
        fair_told fair q ∙ and_right (is_free old) (holds q (first_of (queue_of old))) (ap (λ qs. holds q (first_of qs)) empty)

    -- it is held
    none_if_held : old.own.is_fair ≡ true → is_free old ≡ false → (q : ℕ) → is_told (phase_at old q) ≡ false
    none_if_held fair off q = fair_told fair q ∙ ap (λ b. b && holds q (first_of (queue_of old))) off

    -- one is told
    module _ (name : ℕ) (told : is_told (phase_at old name) ≡ true) (fair : old.own.is_fair ≡ true) where
      pub told_is : (is_free old ≡ true) × (holds name (first_of (queue_of old)) ≡ true)
      told_is = and_parts (is_free old) (holds name (first_of (queue_of old))) (sym (fair_told fair name) ∙ told)

      no_other : (q : ℕ) → q ≢ name → is_told (phase_at old q) ≡ false
      no_other q ne =
          fair_told fair q
          ∙ and_right (is_free old) (holds q (first_of (queue_of old))) (other_than_oldest name q (queue_of old) told_is.1 ne)

  -- Polls.

  module _ (old : MutexMachine T W) (name : ℕ) (waker : W) (answer : Poll T) (new : MutexMachine T W) (was : IsWell old) where
    abbrev keeps : Bool
    keeps = old.own.is_fair

    -- What a poll leads to: a line of the table, the same fairness, and no wake owed.
    record Polled : Type 0 where
      line : PollLine (rules keeps) name (poll_change name waker answer) old new
      is_fair : new.own.is_fair ≡ keeps
      owes : OwesNoWakeAs keeps new

    -- after a grant it is held, and if it is fair nobody is told
    granted : (value : T) → (answer ≡ Ready value) × StepsTo old (held old.own) (EndsPlaced name) new →
        (keeps ≡ true → (q : ℕ) → q ≢ name → is_told (phase_at old q) ≡ false) → Polled
    granted value did none = record {
      line = ends_placed (rules keeps) (held old.own) name waker old new did (λ asks lack. tt);
      is_fair = fair_if new _ did.1.0;
      owes = owes_held old new keeps (free_if new _ did.1.0)
          (λ fair. none_told old.waiting.side new.waiting.side name (Some Ended)
          (phases_after (rules keeps) (held old.own) (EndsPlaced name) old new was.0 tt did.1) refl (none fair));
    }

    fresh_polled : (given : Option T) → for_newcomer old ≡ given → phase_at old name ≡ Some Fresh →
        GrantsOr (Registers name waker) given old name answer new → Polled
    fresh_polled (Some value) for_it is did =
        granted value did
        (λ fair q ne. none_if_empty old was fair (some_for_newcomer keeps (queue_of old) old.own.value value for_it fair) q)
    fresh_polled None for_it is did =
        let allows = untold keeps (phase_at old name) (ap is_told is) in
        let becomes = phases_after (rules keeps) old.own (Registers name waker) old new was.0 allows did.1 in
        record {
          line = registers (rules keeps) old.own name waker old new did allows tt (λ asks lack. tt);
          is_fair = fair_if new _ did.1.0;
          owes = owes_pushed old new keeps name
              (told_as_before old.waiting.side new.waiting.side name (Some (Registered waker)) becomes (sym (ap is_told is)))
              (free_if new _ did.1.0) (queue_if _ _ did.1.1.1)
              (nothing_for_newcomer keeps (queue_of old) old.own.value for_it) was.1;
        }

    registered_polled : (before : W) (given : Option T) → for_registered old ≡ given → phase_at old name ≡ Some (Registered before) →
        GrantsOr (KeepsWaiting name waker) given old name answer new → Polled
    registered_polled before (Some value) for_it is did =
        granted value did (λ fair q ne. absurd (some_for_registered keeps old.own.value value for_it fair))
    registered_polled before None for_it is did =
        let becomes = phases_after (rules keeps) old.own (KeepsWaiting name waker) old new was.0 tt did.1 in
        record {
          line = stays (rules keeps) old.own name waker old new did (λ asks lack. tt);
          is_fair = fair_if new _ did.1.0;
          owes = owes_same old new keeps
              (told_as_before old.waiting.side new.waiting.side name (Some (Registered waker)) becomes (sym (ap is_told is)))
              (free_if new _ did.1.0) (queue_if _ _ did.1.1.1) was.1;
        }

    told_polled : (given : Option T) → old.own.value ≡ given → phase_at old name ≡ Some Told → (keeps ≡ true → is_free old ≡ true) →
        GrantsOr (Registers name waker) given old name answer new → Polled
    told_polled (Some value) there is free did = granted value did (λ fair. no_other old was name (ap is_told is) fair)
    told_polled None there is free did =
        -- a held mutex whose told futures find it free if it is fair is unfair
        let unfair = false_from_ne_true keeps (λ fair. none_is old.own.value there (free fair)) in
        record {
          line = registers (rules keeps) old.own name waker old new did
              (untold_if_leaving keeps (phase_at old name) unfair) tt (λ asks lack. tt);
          is_fair = fair_if new _ did.1.0;
          owes = owes_held old new keeps (free_if new _ did.1.0 ∙ ap is_some there) (λ fair. absurd (both_ways keeps unfair fair));
        }

    polled_as : (phase : Option (Phase W)) → phase_at old name ≡ phase → PollsAs phase old name waker answer new → Polled
    polled_as (Some Fresh) is did = fresh_polled (for_newcomer old) refl is did
    polled_as (Some (Registered before)) is did = registered_polled before (for_registered old) refl is did
    polled_as (Some Told) is did = told_polled old.own.value refl is did.0 did.1
    polled_as phase is did = absurd did

    pub poll_line : Polls old name waker answer new → PollLine (rules keeps) name (poll_change name waker answer) old new
    poll_line did = (polled_as (phase_at old name) refl did).line

    pub polled : Polls old name waker answer new → MutexLine (poll_change name waker answer) old new
    polled did =
        let now = polled_as (phase_at old name) refl did in
        record { line = now.line.line; is_fair = now.is_fair; owes = now.owes }

  -- The other calls.

  module _ (old new : MutexMachine T W) where
    pub makes_pollable : (name : ℕ) → Makes old name new → can_be_polled (phase_at new name) ≡ true
    makes_pollable name did = ap can_be_polled (added (rules old.own.is_fair) old.own name tt old new did)

    own_as : (name : ℕ) (phase : Option (Phase W)) → CancelsAs phase old name new → new.own ≡ old.own
    own_as name (Some Told) did = did.0
    own_as name phase did = did.0

    pub cancel_keeps_own : (name : ℕ) → Cancels old name new → new.own ≡ old.own
    cancel_keeps_own name did = own_as name (phase_at old name) did

    module _ (was : IsWell old) where
      -- where nothing that matters to who is told has changed
      same_line : {on_wakers : WakerChange W} → TableLine (rules old.own.is_fair) on_wakers old new → new.own ≡ old.own →
          ((q : ℕ) → is_told (phase_at new q) ≡ is_told (phase_at old q)) → queue_of new ≡ queue_of old →
          MutexLine on_wakers old new
      same_line is own told queue = record {
        line = is;
        is_fair = fair_if new _ own;
        owes = owes_same old new old.own.is_fair told (free_if new _ own) queue was.1;
      }

      pub unchanged_well : new ≡ old → MutexLine NoEffect old new
      unchanged_well same =
          same_line (unchanged (rules old.own.is_fair) old new same) (ap (λ (m : MutexMachine T W). m.own) same)
          (λ q. ap (λ (m : MutexMachine T W). is_told (phase_at m q)) same) (ap (λ (m : MutexMachine T W). queue_of m) same)

      pub made : (name : ℕ) → Makes old name new → MutexLine (Leaves name) old new
      made name did =
          let becomes = phases_after (rules old.own.is_fair) old.own (Inserts name tt) old new was.0 tt did in
          same_line (inserts (rules old.own.is_fair) name tt old new did) did.0
          (told_as_before old.waiting.side new.waiting.side name (Some Fresh) becomes (sym (ap is_told did.1.0)))
          (queue_if _ _ did.1.1)

      pub woken : (waker : Option W) → Wakes old waker new → MutexLine (gives waker) old new
      woken waker did =
          same_line (pops (rules old.own.is_fair) waker old new did) did.0
          (λ q. ap is_told (phases_after (rules old.own.is_fair) old.own (PopsOldest waker) old new was.0 tt did q))
          (queue_if _ _ did.1.1)

      nothing_done : StepsTo old old.own NoChange new → MutexLine NoEffect old new
      nothing_done did =
          same_line (line (rules old.own.is_fair) old.own NoChange old new did tt (λ asks lack. tt)) did.0
          (λ q. ap is_told (phases_after (rules old.own.is_fair) old.own NoChange old new was.0 tt did q))
          (queue_if _ _ did.1)

      taken : (value : T) → for_newcomer old ≡ Some value → StepsTo old (held old.own) NoChange new → MutexLine NoEffect old new
      taken value for_it did = record {
        line = line (rules old.own.is_fair) (held old.own) NoChange old new did tt (λ asks lack. tt);
        is_fair = fair_if new (held old.own) did.0;
        owes = owes_held old new old.own.is_fair (free_if new _ did.0)
            (λ fair q. ap is_told (phases_after (rules old.own.is_fair) (held old.own) NoChange old new was.0 tt did q)
            ∙ none_if_empty old was fair (some_for_newcomer old.own.is_fair (queue_of old) old.own.value value for_it fair) q);
      }

      tried_for : (given : Option T) (answer : Option T) → for_newcomer old ≡ given → TriesFor given old answer new →
          MutexLine NoEffect old new
      tried_for (Some value) answer for_it did = taken value for_it did.1
      tried_for None answer for_it did = nothing_done did.1

      pub tried : (answer : Option T) → TriesLock old answer new → MutexLine NoEffect old new
      tried answer did = tried_for (for_newcomer old) answer refl did

      put_back : (value : T) → old.own.value ≡ None →
          StepsTo old (freed old.own value) (tells_oldest old.own.is_fair (queue_of old)) new → MutexLine NoEffect old new
      put_back value was_held did =
          let effect : WaiterEffect (Unit {0}) W = tells_oldest old.own.is_fair (queue_of old) in
          record {
            line = line (rules old.own.is_fair) (freed old.own value) effect old new did (refl, refl) (λ asks lack. tt);
            is_fair = fair_if new (freed old.own value) did.0;
            owes = owes_told old new old.own.is_fair old.waiting
                (phases_after (rules old.own.is_fair) (freed old.own value) effect old new was.0 (refl, refl) did) did.1
                (λ fair. free_if new _ did.0) (λ fair. none_if_held old was fair
                (ap is_some was_held));
          }

      unlocked_from : (there : Option T) (value : T) (answer : Result (Unit {0}) T) → old.own.value ≡ there →
          UnlocksFrom there old value answer new → MutexLine NoEffect old new
      unlocked_from None value answer is did = put_back value is did.1
      unlocked_from (Some kept) value answer is did = nothing_done did.1

      pub unlocked : (value : T) (answer : Result (Unit {0}) T) → Unlocks old value answer new → MutexLine NoEffect old new
      unlocked value answer did = unlocked_from old.own.value value answer refl did

      removed : (name : ℕ) → is_told (phase_at old name) ≡ false → StepsTo old old.own (Removes name) new →
          MutexLine (Leaves name) old new
      removed name off did = record {
        line = removes (rules old.own.is_fair) name old new did;
        is_fair = fair_if new old.own did.0;
        owes = owes_removed old new old.own.is_fair name
            (phases_after (rules old.own.is_fair) old.own (Removes name) old new was.0 tt did) off
            (free_if new _ did.0) (queue_if _ _ did.1.1) was.1;
      }

      -- a told one is removed, and the oldest told in its place
      passed_on : (name : ℕ) → is_told (phase_at old name) ≡ true →
          StepsTo old old.own (AndThen (Removes name) (tells_oldest old.own.is_fair (without name (queue_of old)))) new →
          MutexLine (Leaves name) old new
      passed_on name told did =
          let is_fair = old.own.is_fair in
          let queue = without name (queue_of old) in
          let effect : WaiterEffect (Unit {0}) W = AndThen (Removes name) (tells_oldest is_fair queue) in
          let mid = did.1.0 in
          let left : mid.side.queue ≡ queue = queue_if _ _ did.1.1.1 in
          let becomes = effect_after (queued_rule is_fair) is_wait_phase waits_known (Removes name) old.waiting mid tt was.0 did.1.1 in
          let sound = effect_sound (queued_rule is_fair) is_wait_phase waits_known (Removes name) old.waiting mid tt was.0 did.1.1 in
          let tells : TakesEffect (NotifiesFront is_fair (first_of mid.side.queue)) mid new.waiting =
          subst (λ names. TakesEffect (tells_oldest is_fair names) mid new.waiting) (sym left) did.1.2 in
          record {
            line = line (rules is_fair) old.own effect old new did (tt, λ between taken. (refl, refl), refl) (λ asks. tt);
            is_fair = fair_if new old.own did.0;
            owes = owes_told old new is_fair mid
                (effect_after (queued_rule is_fair) is_wait_phase waits_known (NotifiesFront is_fair
                (first_of mid.side.queue)) mid new.waiting
                (refl, refl) sound tells) tells
                (λ fair. free_if new _ did.0 ∙ (told_is old was name told fair).0)
                (λ fair. none_told old.waiting.side mid.side name None becomes refl (no_other old was name told fair));
          }

      cancelled_as : (name : ℕ) (phase : Option (Phase W)) → phase_at old name ≡ phase → CancelsAs phase old name new →
          MutexLine (Leaves name) old new
      cancelled_as name (Some Told) is did = passed_on name (ap is_told is) did
      cancelled_as name phase is did = removed name (ap is_told is) did

      pub cancelled : (name : ℕ) → Cancels old name new → MutexLine (Leaves name) old new
      cancelled name did = cancelled_as name (phase_at old name) refl did
