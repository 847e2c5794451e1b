-- What each line of a machine's table keeps.
use Rattle.std.specs.Prelude.{◌≡◌, ◌≢◌, ℕ, ◌==◌, if◌then◌else◌, Bool, true, false, Option, Some, None, Result, Ok, Err, List, [], ◌∷◌, refl}
use Rattle.std.proofs.Common.{sym, ◌∙◌, ap, subst, inl, inr, is_some, IfOk, OnErr}
use Rattle.std.proofs.lemmas.Bool.{both_ways, cases_eq, cases_Bool, eq-eqb, ne_eqb, false_from_ne_true}
use Rattle.std.specs.Ordering.{nat_cmp}
use Rattle.std.specs.FinMap as map
use Rattle.futures.specs.declared.task.Poll.{Poll}
use Rattle.futures.specs.declared.task.Poll.TheVariants.{Ready, Pending}
use Rattle.futures.specs.Poll.{OnPending}
use Rattle.fi_parts.specs.declared.phase.Phase.{Phase}
use Rattle.fi_parts.specs.declared.phase.Phase.TheVariants.{Fresh, Told, Complete}
use Rattle.fi_parts.specs.declared.phase.Notice.{Notice}
use Rattle.fi_parts.specs.Noticed.{phase_after}
use Rattle.fi_parts.specs.Oldest.{pop_first}
use Rattle.fi_parts.specs.Order.{holds}
use Rattle.fi_parts.specs.Waiting.{Waiters, Waiting, phase_of, phase_in, asks_of, asks_in, is_registered, no_futures, insert_fresh}
use Rattle.fi_parts.specs.Waiting.{without_future, IsLive, exchange, IsOrderedBy, AreSoundBy}
use Rattle.fi_parts.proofs.Waiting.{Becomes, noticed_phase, noticed_phase_other, placed, unregistered, asks-with_phase, asks-with_phases}
use Rattle.fi_parts.proofs.Sound.{sound_by-empty}
use Rattle.fi_parts.proofs.Oldest.{asks-with_asks, asks-with_asks_other}
use Rattle.fi_parts.proofs.FiniteMaps.{get-insert_same, get-insert_other, get-remove_same, get-remove_other}
use Rattle.fi_parts.specs.WakerHistory.{WakerChange, gives}
use Rattle.fi_parts.specs.WakerHistory.WakerChange.{Leaves, NoEffect}
use Rattle.fi_parts.proofs.PairsWithin.{if_true, if_false}
use Rattle.fi_parts.proofs.Results.{either}
use Rattle.fi_parts.specs.Effects.{WaiterEffect, TakesEffect}
use Rattle.fi_parts.specs.MachineTable.{keeps_asks, AllowsEffect, LacksAfter, StillLacks, waker_change, WaiterRules, TableLine, poll_change}
use Rattle.fi_parts.specs.MachineTable.{answered_change, PollLine}
use Rattle.fi_parts.specs.Effects.WaiterEffect.{NoChange, Inserts, Registers, RegistersApart, KeepsWaiting, Ends, EndsPlaced}
use Rattle.fi_parts.specs.Effects.WaiterEffect.{NotifiesOldest, NotifiesAll, NotifiesListed, NotifiesFront, PopsOldest, AndThen, Asks}
use Rattle.fi_parts.specs.Effects.WaiterEffect.{Removes, CompletesOldest}
use Rattle.fi_parts.specs.Machine.{Machine, phase_at, initial, StepsTo, HasSoundWaitersBy, AllLack}
use Rattle.fi_parts.specs.Stays.{AllStay, OthersStay}
use Rattle.fi_parts.specs.declared.errors.Fault.{Fault}
use Rattle.fi_parts.proofs.Effects.{After, AreNotified, IsOf, effect_after, effect_sound, notified_after, queues, oldest_are, all_are}
use Rattle.fi_parts.proofs.Effects.{listed_are, front_are, polled_lives, AreFit, SparedBy, are_live, stays_fit, IsFitIfPending}
use Rattle.fi_parts.proofs.Effects.{pending_is_fit, added_fresh}
use Rattle.fi_parts.proofs.Notified.{fit_one}

-- what stands at this name, and at others
if_one : {X : Type 0} (name q : ℕ) (here other now : X) → (name ≡ q → here ≡ now) → (q ≢ name → other ≡ now) →
    (if name == q then here else other) ≡ now
if_one name q here other now at off = elim (cases_eq name q) [
  | inl same ↦ if_true (name == q) here other (eq-eqb name q same) ∙ at same
  | inr ne ↦ if_false (name == q) here other (ne_eqb name q ne) ∙ off (λ e. ne (sym e))
]

module _ {D W : Type 0} where
  -- one name changed: another is registered as before, and asks the same
  asks_made : (side : Waiters D W) (name : ℕ) (asks : D) (q : ℕ) → q ≢ name → asks_of (insert_fresh side name asks) q ≡ asks_of side q
  asks_made side name asks q ne = ap asks_in (get-insert_other side.live name _ q ne)

  asks_forgotten : (side : Waiters D W) (name : ℕ) (q : ℕ) → q ≢ name → asks_of (without_future side name) q ≡ asks_of side q
  asks_forgotten side name q ne = ap asks_in (get-remove_other side.live name q ne)

  oldest_asks : (phase : Phase W) (names : List ℕ) (side : Waiters D W) (q : ℕ) →
      asks_of (pop_first phase side names) q ≡ asks_of side q
  oldest_asks phase [] side q = refl
  oldest_asks phase (n ∷ others) side q = asks-with_phase side.live n phase q

  -- one name asks for this, or for nothing, and the others for what they did
  asks_if : (old new : Waiters D W) (name q : ℕ) (asks : Option D) → asks_of new name ≡ asks →
      (q ≢ name → asks_of new q ≡ asks_of old q) → asks_of new q ≡ (if name == q then asks else asks_of old q)
  asks_if old new name q asks here other =
      sym (if_one name q asks (asks_of old q) (asks_of new q) (λ same. sym here ∙ ap (asks_of new) same) (λ ne. sym (other ne)))

  asks_asking : (name : ℕ) (asks : D) (side : Waiters D W) (q : ℕ) → IsLive side name →
      asks_of (exchange side name asks) q ≡ (if name == q then Some asks else asks_of side q)
  asks_asking name asks side q lives =
      asks_if side (exchange side name asks) name q (Some asks) (asks-with_asks side.live name asks lives)
      (λ ne. asks-with_asks_other side.live name asks q ne)

  asks_to : (new is : Waiting D W) (q : ℕ) → new ≡ is → asks_of new.side q ≡ asks_of is.side q
  asks_to new is q same = ap (λ (w : Waiting D W). asks_of w.side q) same

  -- an unregistered phase is not that of one who is registered
  not_so : (new : Waiters D W) (q : ℕ) (phase : Option (Phase W)) → phase_of new q ≡ phase → is_registered phase ≡ false →
      is_registered (phase_of new q) ≡ true → ⊥
  not_so new q phase here apart is = both_ways (is_registered phase) apart (sym (ap is_registered here) ∙ is)

  -- what this name asks for after an effect
  abbrev pub asks_step : WaiterEffect D W → ℕ → Option D → Option D
  asks_step (Inserts name asks) q before = if name == q then Some asks else before
  asks_step (Asks name asks) q before = if name == q then Some asks else before
  asks_step (CompletesOldest name asks) q before = if name == q then Some asks else before
  asks_step (Removes name) q before = if name == q then None else before
  asks_step (AndThen one other) q before = asks_step other q (asks_step one q before)
  asks_step effect q before = before

  -- An effect makes or removes a future; what another asks for stays.
  pub asks_after : (effect : WaiterEffect D W) (old new : Waiting D W) → TakesEffect effect old new → (q : ℕ) →
      asks_of new.side q ≡ asks_step effect q (asks_of old.side q)
  asks_after NoChange old new did q = asks_to new old q did
  asks_after (Inserts name asks) old new did q =
      asks_to new _ q did.1 ∙ asks_if old.side (insert_fresh old.side name asks) name q (Some asks)
      (ap asks_in (get-insert_same old.side.live name _)) (λ ne. asks_made old.side name asks q ne)
  asks_after (Asks name asks) old new did q = asks_to new _ q did.1 ∙ asks_asking name asks old.side q did.0
  asks_after (Removes name) old new did q =
      asks_to new _ q did.1 ∙ asks_if old.side (without_future old.side name) name q None (ap asks_in (get-remove_same old.side.live name))
      (λ ne. asks_forgotten old.side name q ne)
  asks_after (NotifiesOldest notice) old new did q = asks_to new _ q did ∙ oldest_asks (phase_after notice) old.side.queue old.side q
  asks_after (NotifiesAll notice) old new did q = asks_to new _ q did ∙ asks-with_phases (phase_after notice) old.side.queue old.side.live q
  asks_after (NotifiesListed notice names) old new did q =
      asks_to new _ q did.1 ∙ asks-with_phases (phase_after notice) names old.side.live q
  asks_after (NotifiesFront keeps front) old new did q = asks_to new _ q did.2 ∙ asks-with_phases Told front old.side.live q
  asks_after (CompletesOldest name asks) old new did q =
      asks_to new _ q did.3 ∙ asks-with_phase (exchange old.side name asks).live name Complete q ∙ asks_asking name asks old.side q did.2
  asks_after (PopsOldest waker) old new did q = asks_to new _ q did.1
  asks_after (AndThen one other) old new did q =
      asks_after other did.0 new did.2 q ∙ ap (asks_step other q) (asks_after one old did.0 did.1 q)
  asks_after effect old new did q = asks_to new _ q did.1 ∙ asks-with_phase old.side.live _ _ q

  -- Whoever is not made or removed asks for the same after an effect that keeps what is asked for.
  pub asks_stay : (effect : WaiterEffect D W) (old new : Waiting D W) → keeps_asks effect ≡ true → TakesEffect effect old new → (q : ℕ) →
      SparedBy (waker_change effect) q → asks_of new.side q ≡ asks_of old.side q
  asks_stay (Inserts name asks) old new keeps did q spared = asks_to new _ q did.1 ∙ asks_made old.side name asks q spared
  asks_stay (Removes name) old new keeps did q spared = asks_to new _ q did.1 ∙ asks_forgotten old.side name q spared
  asks_stay (Asks name asks) old new keeps did q spared = absurd (both_ways false refl keeps)
  asks_stay (CompletesOldest name asks) old new keeps did q spared = absurd (both_ways false refl keeps)
  asks_stay (AndThen one other) old new keeps did q spared = absurd (both_ways false refl keeps)
  asks_stay effect old new keeps did q spared = asks_after effect old new did q

module _ {S D W : Type 0} (rules : WaiterRules S D W) where
  abbrev Lack : S → Waiting D W → Type 0
  Lack own w = (q : ℕ) → is_registered (phase_of w.side q) ≡ true → rules.lacks own (asks_of w.side q)

  -- who has the phase that it had, and asks as before
  as_before : (old new : Waiting D W) (before after : S) → Lack before old → StillLacks rules.lacks before after → (q : ℕ) →
      phase_of new.side q ≡ phase_of old.side q → asks_of new.side q ≡ asks_of old.side q →
      is_registered (phase_of new.side q) ≡ true → rules.lacks after (asks_of new.side q)
  as_before old new before after was still q phases asks is =
      rw asks (still (asks_of old.side q) (was q (sym (ap is_registered phases) ∙ is)))

  -- one name has another phase now, and isn't registered
  lack_others : (old new : Waiting D W) (before after : S) (name : ℕ) (phase : Option (Phase W)) → is_registered phase ≡ false →
      Becomes old.side new.side name phase → ((q : ℕ) → q ≢ name → asks_of new.side q ≡ asks_of old.side q) →
      StillLacks rules.lacks before after → Lack before old → Lack after new
  lack_others old new before after name phase off stand asks still was q now = elim (cases_eq q name) [
    | inl same ↦ absurd (not_so new.side q phase (ap (phase_of new.side) same ∙ stand.here) off now)
    | inr ne ↦ as_before old new before after was still q (stand.others q ne) (asks q ne) now
  ]

  -- one name registers
  lack_one : (old new : Waiting D W) (before after : S) (name : ℕ) (phase : Option (Phase W)) → Becomes old.side new.side name phase →
      ((q : ℕ) → asks_of new.side q ≡ asks_of old.side q) → rules.lacks after (asks_of old.side name) →
      StillLacks rules.lacks before after → Lack before old → Lack after new
  lack_one old new before after name phase stand asks lacks still was q now = elim (cases_eq q name) [
    | inl same ↦ rw (asks q, same) lacks
    | inr ne ↦ as_before old new before after was still q (stand.others q ne) (asks q) now
  ]

  -- Whoever of these names was registered is notified; who was not notified was registered before, and asks the same.
  lack_notified : (phase : Phase W) (names : List ℕ) (old new : Waiting D W) (before after : S) →
      AreNotified rules.place rules.phases phase names old new → ((q : ℕ) → asks_of new.side q ≡ asks_of old.side q) →
      ((q : ℕ) → is_registered (phase_of old.side q) ≡ true → holds q names ≡ false → rules.lacks before (asks_of old.side q) →
      rules.lacks after (asks_of old.side q)) → Lack before old → Lack after new
  lack_notified phase names old new before after did asks still was q now =
      let has_become = notified_after rules.place rules.phases phase names old new did in
      elim (cases_Bool (holds q names)) [
        | inl at ↦ absurd (not_so new.side q (Some phase) (has_become.these q at) (unregistered (Some phase) did.may_be) now)
        | inr off ↦
            let registered : is_registered (phase_of old.side q) ≡ true = sym (ap is_registered (has_become.others q off)) ∙ now in
            rw (asks q) (still q registered off (was q registered))
      ]

  -- where the whole queue is notified, whoever is registered stands in it
  all_queued : (notice : Notice) (old : Waiting D W) (q : ℕ) → AllowsEffect rules.places rules.phases old (NotifiesAll notice) →
      IsOrderedBy rules.place old.side old.out → is_registered (phase_of old.side q) ≡ true → holds q old.side.queue ≡ false → ⊥
  all_queued notice old q allows was is off =
      both_ways (holds q old.side.queue) off
      (was.queued q ∙ placed rules.place rules.places (phase_of old.side q) is ∙ (queues rules.places rules.phases notice old allows).0)

  -- Who is registered after an effect was so before, or is the one that it registers.
  lack_after : (effect : WaiterEffect D W) (old new : Waiting D W) (before after : S) →
      AreSoundBy rules.place rules.phases old.side old.out →
      AllowsEffect rules.places rules.phases old effect → TakesEffect effect old new → After effect old new →
      LacksAfter rules.lacks before after old.side effect → Lack before old → Lack after new
  lack_after NoChange old new before after sound is did stand lack was = λ q now.
      as_before old new before after was lack q (stand q) (asks_to new old q did) now
  lack_after (Inserts name asks) old new before after sound is did stand lack was =
      lack_others old new before after name (Some Fresh) refl stand
      (λ q ne. asks_to new _ q did.1 ∙ asks_made old.side name asks q ne) lack was
  lack_after (Registers name waker) old new before after sound is did stand lack was =
      lack_one old new before after name _ stand (asks_after (Registers name waker) old new did) lack.0 lack.1 was
  lack_after (RegistersApart name waker) old new before after sound is did stand lack was =
      lack_one old new before after name _ stand (asks_after (RegistersApart name waker) old new did) lack.0 lack.1 was
  lack_after (KeepsWaiting name waker) old new before after sound is did stand lack was =
      lack_one old new before after name _ stand (asks_after (KeepsWaiting name waker) old new did)
      (lack (asks_of old.side name) (was name did.0)) lack was
  lack_after (Asks name asks) old new before after sound is did stand lack was = λ q now. elim (cases_eq q name) [
    | inl same ↦
        let here : asks_of new.side q ≡ Some asks =
        asks_to new _ q did.1 ∙ ap (asks_of (exchange old.side name asks)) same ∙ asks-with_asks old.side.live name asks did.0 in
        rw here (lack.0 (ap (λ n. is_registered (phase_of old.side n)) (sym same) ∙ sym (ap is_registered (stand q)) ∙ now))
    | inr ne ↦
        as_before old new before after was lack.1 q (stand q)
        (asks_to new _ q did.1 ∙ asks-with_asks_other old.side.live name asks q ne) now
  ]
  lack_after (Removes name) old new before after sound is did stand lack was =
      lack_others old new before after name None refl stand (λ q ne. asks_to new _ q did.1 ∙ asks_forgotten old.side name q ne) lack was
  lack_after (NotifiesOldest notice) old new before after sound is did stand lack was =
      lack_notified _ _ old new before after (oldest_are rules.places rules.phases notice old new is sound.ordered did)
      (asks_after (NotifiesOldest notice) old new did) (λ q was off. lack (asks_of old.side q)) was
  lack_after (NotifiesAll notice) old new before after sound is did stand lack was =
      lack_notified _ _ old new before after (all_are rules.places rules.phases notice old new is sound.ordered did)
      (asks_after (NotifiesAll notice) old new did) (λ q was off lacked. absurd (all_queued notice old q is sound.ordered was off)) was
  lack_after (NotifiesListed notice names) old new before after sound is did stand lack was =
      lack_notified _ names old new before after (listed_are rules.places rules.phases notice names old new is sound.ordered did)
      (asks_after (NotifiesListed notice names) old new did) lack was
  lack_after (NotifiesFront keeps front) old new before after sound is did stand lack was =
      lack_notified Told front old new before after (front_are rules.places rules.phases keeps front old new is sound.ordered did)
      (asks_after (NotifiesFront keeps front) old new did) (λ q was off. lack (asks_of old.side q)) was
  lack_after (CompletesOldest name asks) old new before after sound is did stand lack was =
      lack_others old new before after name (Some Complete) refl stand
      (λ q ne. asks_to new _ q did.3 ∙ asks-with_phase (exchange old.side name asks).live name Complete q
      ∙ asks-with_asks_other old.side.live name asks q ne) lack was
  lack_after (PopsOldest waker) old new before after sound is did stand lack was = λ q now.
      as_before old new before after was lack q (stand q) (asks_to new _ q did.1) now
  lack_after (AndThen one other) old new before after sound is did stand lack was = λ q now. lack (asks_of new.side q)
  lack_after effect old new before after sound is did stand lack was =
      lack_others old new before after _ _ refl stand (λ q ne. asks_after effect old new did q) lack was

  abbrev pub Holds : Machine S D W → Type 0
  Holds machine = HasSoundWaitersBy rules.place rules.phases machine × AllLack rules.lacks machine

  -- A machine's line keeps it sound, and no wake is owed after it.
  pub line_preserves : {on_wakers : WakerChange W} (old new : Machine S D W) → TableLine rules on_wakers old new → Holds old → Holds new
  line_preserves old new line was =
      let now = effect_after rules.places rules.phases rules.known line.effect old.waiting new.waiting line.allows was.0 line.steps.1 in
      let lack : Lack line.own new.waiting =
      lack_after line.effect old.waiting new.waiting old.own line.own was.0 line.allows line.steps.1 now line.lack was.1 in (
        effect_sound rules.places rules.phases rules.known line.effect old.waiting new.waiting line.allows was.0 line.steps.1,
        rw line.steps.0 lack,
      )

  pub initial_holds : (own : S) → Holds (initial own)
  initial_holds own = (
    sound_by-empty rules.place rules.places rules.phases rules.known.gone,
    λ q is. absurd (not_so no_futures q None (ap phase_in (map.get-empty nat_cmp q)) refl is),
  )

  -- The lines of a table.
  pub line : (own : S) (effect : WaiterEffect D W) (old new : Machine S D W) → StepsTo old own effect new →
      AllowsEffect rules.places rules.phases old.waiting effect → LacksAfter rules.lacks old.own own old.waiting.side effect →
      TableLine rules (waker_change effect) old new
  line own effect old new steps allows lack =
      record { own = own; effect = effect; steps = steps; allows = allows; lack = lack; effect_is = refl }

  -- a call that changed nothing
  pub unchanged : (old new : Machine S D W) → new ≡ old → TableLine rules NoEffect old new
  unchanged old new same =
      line old.own NoChange old new (ap (λ (m : Machine S D W). m.own) same, ap (λ (m : Machine S D W). m.waiting) same) tt
      (λ asks lack. lack)

  -- a making, a cancel, and the taking out of the oldest waker: the machine's own data stay
  pub inserts : (name : ℕ) (asks : D) (old new : Machine S D W) → StepsTo old old.own (Inserts name asks) new →
      TableLine rules (Leaves name) old new
  inserts name asks old new did = line old.own (Inserts name asks) old new did tt (λ asks lack. lack)

  pub removes : (name : ℕ) (old new : Machine S D W) → StepsTo old old.own (Removes name) new → TableLine rules (Leaves name) old new
  removes name old new did = line old.own (Removes name) old new did tt (λ asks lack. lack)

  pub pops : (waker : Option W) (old new : Machine S D W) → StepsTo old old.own (PopsOldest waker) new →
      TableLine rules (gives waker) old new
  pops waker old new did = line old.own (PopsOldest waker) old new did tt (λ asks lack. lack)

  -- Who was fit before a line is fit after it, but for the one that it ends or removes.
  line_keeps_fit : {on_wakers : WakerChange W} (fit : Option (Phase W) → Bool) → AreFit rules.phases fit → (old new : Machine S D W) →
      TableLine rules on_wakers old new → HasSoundWaitersBy rules.place rules.phases old → (q : ℕ) → SparedBy on_wakers q →
      fit (phase_at old q) ≡ true → fit (phase_at new q) ≡ true
  line_keeps_fit fit can old new did sound q spared =
      stays_fit rules.places rules.phases rules.known fit can did.effect old.waiting new.waiting did.allows sound did.steps.1
      (effect_after rules.places rules.phases rules.known did.effect old.waiting new.waiting did.allows sound did.steps.1) q
      (subst (λ (e : WakerChange W). SparedBy e q) (sym did.effect_is) spared)

  -- A poll by one effect on the name that was polled.
  pub polls : {on_wakers : WakerChange W} (own : S) (effect : WaiterEffect D W) (name : ℕ) (old new : Machine S D W) →
      StepsTo old own effect new → AllowsEffect rules.places rules.phases old.waiting effect →
      LacksAfter rules.lacks old.own own old.waiting.side effect → IsOf name effect → waker_change effect ≡ on_wakers →
      ((q : ℕ) → asks_step effect q (asks_of old.waiting.side q) ≡ asks_of old.waiting.side q) → PollLine rules name on_wakers old new
  polls own effect name old new steps allows lack of is same = record {
    line = record { own = own; effect = effect; steps = steps; allows = allows; lack = lack; effect_is = is };
    lives = polled_lives effect old.waiting new.waiting name of steps.1;
    asks = λ q. asks_after effect old.waiting new.waiting steps.1 q ∙ same q;
  }

  -- A poll by two effects, the first on the name that was polled; the second only names futures.
  pub polls_and_then : {on_wakers : WakerChange W} (own : S) (one other : WaiterEffect D W) (name : ℕ) (old new : Machine S D W) →
      HasSoundWaitersBy rules.place rules.phases old → StepsTo old own (AndThen one other) new →
      AllowsEffect rules.places rules.phases old.waiting (AndThen one other) → ((asks : Option D) → rules.lacks own asks) →
      IsOf name one → waker_change one ≡ on_wakers →
      ((q : ℕ) → asks_step (AndThen one other) q (asks_of old.waiting.side q) ≡ asks_of old.waiting.side q) →
      PollLine rules name on_wakers old new
  polls_and_then own one other name old new was steps allows lack of is same =
      let mid = steps.1.0 in
      let sound = effect_sound rules.places rules.phases rules.known one old.waiting mid allows.0 was steps.1.1 in
      let allowed = allows.1 mid steps.1.1 in
      let now = effect_after rules.places rules.phases rules.known other mid new.waiting allowed sound steps.1.2 in
      record {
        line = record { own = own; effect = AndThen one other; steps = steps; allows = allows; lack = lack; effect_is = is };
        lives = stays_fit rules.places rules.phases rules.known is_some (are_live rules.phases) other mid new.waiting allowed sound
            steps.1.2 now name (subst (λ (e : WakerChange W). SparedBy e name) (sym allows.2) tt)
            (polled_lives one old.waiting mid name of steps.1.1);
        asks = λ q. asks_after (AndThen one other) old.waiting new.waiting steps.1 q ∙ same q;
      }

  -- a poll that ended the future
  pub ends : {A : Type 0} {x : A} {answer : Poll A} (own : S) (name : ℕ) (waker : W) (old new : Machine S D W) →
      (answer ≡ Ready x) × StepsTo old own (Ends name) new → AllowsEffect rules.places rules.phases old.waiting (Ends name) →
      StillLacks rules.lacks old.own own → PollLine rules name (poll_change name waker answer) old new
  ends own name waker old new did allows still =
      polls own (Ends name) name old new did.1 allows still refl (ap (poll_change name waker) (sym did.0)) (λ q. refl)

  -- the same of one that may have a place in the queue, which it leaves
  pub ends_placed : {A : Type 0} {x : A} {answer : Poll A} (own : S) (name : ℕ) (waker : W) (old new : Machine S D W) →
      (answer ≡ Ready x) × StepsTo old own (EndsPlaced name) new → StillLacks rules.lacks old.own own →
      PollLine rules name (poll_change name waker answer) old new
  ends_placed own name waker old new did still =
      polls own (EndsPlaced name) name old new did.1 tt still refl (ap (poll_change name waker) (sym did.0)) (λ q. refl)

  -- a poll that registered it
  pub registers : {A : Type 0} {answer : Poll A} (own : S) (name : ℕ) (waker : W) (old new : Machine S D W) →
      (answer ≡ Pending) × StepsTo old own (Registers name waker) new →
      AllowsEffect rules.places rules.phases old.waiting (Registers name waker) → rules.lacks own (asks_of old.waiting.side name) →
      StillLacks rules.lacks old.own own → PollLine rules name (poll_change name waker answer) old new
  registers own name waker old new did allows lack still =
      polls own (Registers name waker) name old new did.1 allows (lack, still) refl (ap (poll_change name waker) (sym did.0)) (λ q. refl)

  -- a poll that registered it, without a place in the queue
  pub registers_apart : {A : Type 0} {answer : Poll A} (own : S) (name : ℕ) (waker : W) (old new : Machine S D W) →
      (answer ≡ Pending) × StepsTo old own (RegistersApart name waker) new →
      AllowsEffect rules.places rules.phases old.waiting (RegistersApart name waker) → rules.lacks own (asks_of old.waiting.side name) →
      StillLacks rules.lacks old.own own → PollLine rules name (poll_change name waker answer) old new
  registers_apart own name waker old new did allows lack still =
      polls own (RegistersApart name waker) name old new did.1 allows (lack, still) refl (ap (poll_change name waker) (sym did.0))
      (λ q. refl)

  -- a poll that left it registered
  pub stays : {A : Type 0} {answer : Poll A} (own : S) (name : ℕ) (waker : W) (old new : Machine S D W) →
      (answer ≡ Pending) × StepsTo old own (KeepsWaiting name waker) new → StillLacks rules.lacks old.own own →
      PollLine rules name (poll_change name waker answer) old new
  stays own name waker old new did still =
      polls own (KeepsWaiting name waker) name old new did.1 tt still refl (ap (poll_change name waker) (sym did.0)) (λ q. refl)

  -- a poll that was refused
  pub refused_poll : (name : ℕ) (old new : Machine S D W) → new ≡ old → is_some (phase_at old name) ≡ true →
      PollLine rules name NoEffect old new
  refused_poll name old new same lives = record {
    line = unchanged old new same;
    lives = ap (λ (m : Machine S D W). is_some (phase_at m name)) same ∙ lives;
    asks = λ q. ap (λ (m : Machine S D W). asks_of m.waiting.side q) same;
  }

  -- who was made is fresh
  pub added : (own : S) (name : ℕ) (asks : D) (old new : Machine S D W) → StepsTo old own (Inserts name asks) new →
      phase_at new name ≡ Some Fresh
  added own name asks old new did = added_fresh old.waiting new.waiting name asks did.1

  -- the phase of each name after a line
  pub phases_after : (own : S) (effect : WaiterEffect D W) (old new : Machine S D W) → HasSoundWaitersBy rules.place rules.phases old →
      AllowsEffect rules.places rules.phases old.waiting effect → StepsTo old own effect new → After effect old.waiting new.waiting
  phases_after own effect old new was allows steps =
      effect_after rules.places rules.phases rules.known effect old.waiting new.waiting allows was steps.1

-- a call that was refused
pub same_stays : {S D W : Type 0} (can_poll : Option (Phase W) → Bool) (name : ℕ) (old new : Machine S D W) → new ≡ old →
    OthersStay can_poll name old new
same_stays can_poll name old new same =
    subst (OthersStay can_poll name old) (sym same) (record { live = λ q ne lives. lives; pollable = λ q ne fits. fits })

-- Who lives or can be polled before a call does so after it, but for the one that it ends or removes.
module _ {S D W : Type 0} (rules : WaiterRules S D W) (can_poll : Option (Phase W) → Bool) (can : AreFit rules.phases can_poll)
    (old new : Machine S D W) (sound : HasSoundWaitersBy rules.place rules.phases old) where
  keep_fit : {on_wakers : WakerChange W} → TableLine rules on_wakers old new → (fit : Option (Phase W) → Bool) → AreFit rules.phases fit →
      (q : ℕ) → SparedBy on_wakers q → fit (phase_at old q) ≡ true → fit (phase_at new q) ≡ true
  keep_fit did fit may q spared = line_keeps_fit rules fit may old new did sound q spared

  -- a call that is nothing to the wakers
  pub all_stay : TableLine rules NoEffect old new → AllStay can_poll old new
  all_stay did = record {
    live = λ q. keep_fit did is_some (are_live rules.phases) q tt;
    pollable = λ q. keep_fit did can_poll can q tt;
  }

  apart_stay : {on_wakers : WakerChange W} (name : ℕ) → TableLine rules on_wakers old new → ((q : ℕ) → q ≢ name → SparedBy on_wakers q) →
      OthersStay can_poll name old new
  apart_stay name did spared = record {
    live = λ q ne. keep_fit did is_some (are_live rules.phases) q (spared q ne);
    pollable = λ q ne. keep_fit did can_poll can q (spared q ne);
  }

  -- a cancel
  pub others_stay : (name : ℕ) → TableLine rules (Leaves name) old new → OthersStay can_poll name old new
  others_stay name did = apart_stay name did (λ q ne. ne)

  -- a poll
  pub polling_stays : {A : Type 0} (name : ℕ) (waker : W) (answer : Poll A) → TableLine rules (poll_change name waker answer) old new →
      OthersStay can_poll name old new
  polling_stays name waker Pending did = apart_stay name did (λ q ne. tt)
  polling_stays name waker (Ready x) did = apart_stay name did (λ q ne. ne)

  -- a poll that may be refused
  pub answering_stays : {A : Type 0} (name : ℕ) (waker : W) (answer : Poll (Result A Fault)) →
      TableLine rules (answered_change name waker answer) old new → OthersStay can_poll name old new
  answering_stays name waker Pending did = apart_stay name did (λ q ne. tt)
  answering_stays name waker (Ready (Ok x)) did = apart_stay name did (λ q ne. ne)
  answering_stays name waker (Ready (Err fault)) did = apart_stay name did (λ q ne. tt)

  -- a making
  making_stays : (own : S) (name : ℕ) (asks : D) → StepsTo old own (Inserts name asks) new → AllStay can_poll old new
  making_stays own name asks did =
      let now = phases_after rules own (Inserts name asks) old new sound tt did in
      record {
        live = λ q. fit_one is_some old.waiting.side new.waiting.side q name (Some Fresh) refl now;
        pollable = λ q. fit_one can_poll old.waiting.side new.waiting.side q name (Some Fresh) can.fresh now;
      }

  -- a making that may be refused
  pub claiming_stays : {A E : Type 0} (result : Result A E) (name : A → ℕ) (own : S) (asks : D) →
      IfOk result (λ x. StepsTo old own (Inserts (name x) asks) new) → OnErr result (new ≡ old) → AllStay can_poll old new
  claiming_stays result name own asks made refused =
      either result _ _ (AllStay can_poll old new) made refused (λ x did. making_stays own (name x) asks did)
      (λ same. all_stay (unchanged rules old new same))

  -- a poll that is pending leaves its future fit to be polled
  is_fit : {on_wakers : WakerChange W} → TableLine rules on_wakers old new →
      IsFitIfPending rules.places rules.phases rules.known can_poll can on_wakers new.waiting
  is_fit did =
      subst (λ (e : WakerChange W). IsFitIfPending rules.places rules.phases rules.known can_poll can e new.waiting) did.effect_is
      (pending_is_fit rules.places rules.phases rules.known can_poll can did.effect old.waiting new.waiting did.allows sound did.steps.1
      (effect_after rules.places rules.phases rules.known did.effect old.waiting new.waiting did.allows sound did.steps.1))

  pub pending_stays : {A : Type 0} (name : ℕ) (waker : W) (answer : Poll A) → TableLine rules (poll_change name waker answer) old new →
      OnPending answer (can_poll (phase_at new name) ≡ true)
  pending_stays name waker Pending did = is_fit did
  pending_stays name waker (Ready x) did = tt

  pub pending_answer_stays : {A : Type 0} (name : ℕ) (waker : W) (answer : Poll (Result A Fault)) →
      TableLine rules (answered_change name waker answer) old new → OnPending answer (can_poll (phase_at new name) ≡ true)
  pending_answer_stays name waker Pending did = is_fit did
  pending_answer_stays name waker (Ready x) did = tt

-- What the history says of a name and what the name's phase says stay the same, where one name changed.
module _ {X D W : Type 0} (said : Option (Phase W) → X) where
  pub history_by : (old new : Waiters D W) (name : ℕ) (phase : Option (Phase W)) (was is : ℕ → X) → Becomes old new name phase →
      ((q : ℕ) → was q ≡ said (phase_of old q)) → is name ≡ said phase → (q : ℕ) →
      (if name == q then is q else was q) ≡ said (phase_of new q)
  history_by old new name phase was is b says here q =
      if_one name q (is q) (was q) (said (phase_of new q))
      (λ same. ap is (sym same) ∙ here ∙ ap said (sym b.here) ∙ ap (λ n. said (phase_of new n)) same)
      (λ ne. says q ∙ ap said (sym (b.others q ne)))

-- a notice leaves those who are not registered
pub apart_noticed : {W : Type 0} (phase : Phase W) (p : Option (Phase W)) → (is_registered p ≡ true → ⊥) → noticed_phase phase p ≡ p
apart_noticed phase p h = noticed_phase_other phase p (false_from_ne_true _ h)
