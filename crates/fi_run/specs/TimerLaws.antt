-- What the runs of a timer keep.
use Rattle.std.specs.Prelude.{◌≡◌, ◌≢◌, ◌<◌, ℕ, ◌==◌, if◌then◌else◌, Bool, true, false, nat_le, min, max, Option, Some, None}
use Rattle.std.specs.Prelude.{List, [], ◌∷◌, unwrap_or, refl}
use Rattle.std.specs.Duration.{as_nanos}
use Rattle.std.proofs.Common.{sym, ◌∙◌, ap, subst, inl, inr}
use Rattle.std.proofs.lemmas.Bool.{both_ways, cases_Bool, cases_eq, eq-eqb, ne_eqb, leb-false}
use Rattle.futures.specs.declared.task.Poll as polls
use Rattle.futures.specs.declared.task.Poll.TheVariants as polled
use Rattle.fi_parts.specs.declared.phase.Phase.{Phase}
use Rattle.fi_parts.specs.declared.phase.Phase.TheVariants.{Fresh, Registered, Told, Complete, Ended}
use Rattle.fi_parts.specs.declared.phase.Notice.TheVariants.{Tell}
use Rattle.fi_parts.specs.Deadlines.{expiry_of}
use Rattle.fi_parts.specs.Order.{holds}
use Rattle.fi_parts.specs.Effects.WaiterEffect.{Inserts, RegistersApart, KeepsWaiting, Ends, Removes, NotifiesListed, PopsOldest}
use Rattle.fi_parts.specs.Machine.{phase_at}
use Rattle.fi_parts.specs.MachineTable.{TableLine}
use Rattle.fi_parts.specs.Waiting.{asks_of, is_registered}
use Rattle.fi_parts.proofs.Machines.{line_preserves, unchanged, inserts, removes, pops, phases_after, asks_after}
use Rattle.fi_parts.proofs.Notified.{AllBecome}
use Rattle.fi_parts.proofs.PairsWithin.{if_true, if_false}
use Rattle.fi_parts.proofs.Waiting.{Becomes}
use Rattle.fi_parts.proofs.WakerHistories.{line_keeps_wakers, kept_at_first}
use Rattle.fi_locks.specs.Timer.{TimerMachine, expiry_after, Makes, PollsAs, Polls, Cancels, Checks, Wakes, IsSound}
use Rattle.fi_locks.specs.Timer.{OwesNoWake}
use Rattle.fi_locks.specs.TimerLaws as laws
use Rattle.fi_locks.specs.TimerLaws.{rules}
use Rattle.fi_run.specs.declared.answer.Answer.{Answer}
use Rattle.fi_run.specs.declared.answer.Answer.TheVariants.{Made, Pending, Ready, Done, Moment, Woken, Refused}
use Rattle.fi_run.specs.declared.timer.TimerCall.{TimerCall}
use Rattle.fi_run.specs.declared.timer.TimerCall.TheVariants.{Deadline, Delay, Poll, Cancel, Check, Next, NextWake}
use Rattle.fi_run.specs.Outgoing.{TakesOldest, machine_outgoing}
use Rattle.fi_run.specs.OutgoingLaws.{pops_oldest}
use Rattle.fi_run.specs.WakerChanges.{on_wakers}
use Rattle.fi_run.specs.Timer.{Opens, Step}
use Rattle.fi_run.specs.TimerHistory.{first_polled, checked, moments_at_first, IsLater, moments_step, moments_since_first_poll}
use Rattle.fi_run.specs.TimerHistory.{subject, PhaseSays, ExpiriesAreLater, HistoryHolds}

-- a later poll changes nothing
still_later : (expiry now : ℕ) (moments : Option (List ℕ)) → IsLater expiry moments → IsLater expiry (first_polled now moments)
still_later expiry now None later = absurd later
still_later expiry now (Some moments) later = later

-- a check at a moment before the expiry
later_checked : (expiry now : ℕ) (moments : Option (List ℕ)) → now < expiry → IsLater expiry moments → IsLater expiry (checked now moments)
later_checked expiry now None before later = absurd later
later_checked expiry now (Some moments) before later = (before, later)

-- what a poll with this answer adds to the moments
abbrev after_poll : polls.Poll (Unit {0}) → ℕ → Option (List ℕ) → Option (List ℕ)
after_poll (polled.Ready x) now moments = moments
after_poll polled.Pending now moments = first_polled now moments

module _ {W : Type 0} where
  -- Each step is a line of the table.
  is_line : (old : TimerMachine W) (call : TimerCall W) (answer : Answer ℕ W) (new : TimerMachine W) → Step old call answer new →
      TableLine rules (on_wakers (subject call) answer) old new
  is_line old call (Refused fault) new did = unchanged rules old new did.1
  is_line old (Deadline expiry) (Made slot) new did = inserts rules slot.0 expiry old new did
  is_line old (Delay now delay) (Made slot) new did = inserts rules slot.0 (expiry_after now (as_nanos delay)) old new did
  is_line old (Poll slot now waker) Ready new did = (laws.polled old slot.0 now waker (polled.Ready tt) new did).line
  is_line old (Poll slot now waker) Pending new did = (laws.polled old slot.0 now waker polled.Pending new did).line
  is_line old (Cancel slot) Done new did = removes rules slot.0 old new did
  is_line old (Check now) Done new did = laws.was_checked old new now did
  is_line old Next (Moment expiry) new did = unchanged rules old new did.1
  is_line old NextWake (Woken waker) new did = pops rules waker old new did
  is_line old call answer new did = absurd did

  pub timer_keeps : (old : TimerMachine W) (call : TimerCall W) (answer : Answer ℕ W) (new : TimerMachine W) →
      IsSound old → OwesNoWake old → Step old call answer new → IsSound new × OwesNoWake new
  timer_keeps old call answer new sound no_wake did = line_preserves rules old new (is_line old call answer new did) (sound, no_wake)

  -- each future's phase says of its moments what it should
  abbrev Says : (ℕ → Option (List ℕ)) → TimerMachine W → Type 0
  Says moments state = (name : ℕ) → PhaseSays (phase_at state name) (expiry_of state.waiting.side name) (moments name)

  -- the same expiries, where each future asks for the same
  same_expiry : (old new : TimerMachine W) (q : ℕ) → asks_of new.waiting.side q ≡ asks_of old.waiting.side q →
      expiry_of new.waiting.side q ≡ expiry_of old.waiting.side q
  same_expiry old new q same = ap (λ o. unwrap_or o 0) same

  -- One future's phase changed, and it alone has other moments.
  module _ (before after : ℕ → Option (List ℕ)) (old new : TimerMachine W) (slot : ℕ) (phase : Option (Phase W))
      (says : Says before old) (becomes : Becomes old.waiting.side new.waiting.side slot phase) where
    says_by : ((q : ℕ) → q ≢ slot → expiry_of new.waiting.side q ≡ expiry_of old.waiting.side q) →
        ((q : ℕ) → q ≢ slot → after q ≡ before q) →
        PhaseSays phase (expiry_of new.waiting.side slot) (after slot) → Says after new
    says_by expiries others here q = elim (cases_eq q slot) [
      | inl same ↦ subst (λ n. PhaseSays (phase_at new n) (expiry_of new.waiting.side n) (after n)) (sym same) (rw becomes.here here)
      | inr ne ↦ rw (becomes.others q ne, expiries q ne, others q ne) (says q)
    ]

  -- the same, where the moments are told apart by a test
  says_if : (before then_ : ℕ → Option (List ℕ)) (old new : TimerMachine W) (slot : ℕ) (phase : Option (Phase W)) → Says before old →
      Becomes old.waiting.side new.waiting.side slot phase →
      ((q : ℕ) → q ≢ slot → expiry_of new.waiting.side q ≡ expiry_of old.waiting.side q) →
      PhaseSays phase (expiry_of new.waiting.side slot) (then_ slot) → Says (λ q. if slot == q then then_ q else before q) new
  says_if before then_ old new slot phase says becomes expiries here =
      says_by before (λ q. if slot == q then then_ q else before q) old new slot phase says becomes expiries
      (λ q ne. if_false (slot == q) (then_ q) (before q) (ne_eqb slot q (λ e. ne (sym e))))
      (rw (if_true (slot == slot) (then_ slot) (before slot) (eq-eqb slot slot refl)) here)

  whole : (moments : ℕ → Option (List ℕ)) (old new : TimerMachine W) → Says moments old → new ≡ old → Says moments new
  whole moments old new was same = subst (Says moments) (sym same) was

  -- What a poll did: the future's phase now, and what that says of its moments.
  record PolledAs (before : Option (List ℕ)) (old new : TimerMachine W) (name now : ℕ) (answer : polls.Poll (Unit {0})) : Type 0 where
    phase : Option (Phase W)
    becomes : Becomes old.waiting.side new.waiting.side name phase
    says : PhaseSays phase (expiry_of old.waiting.side name) (after_poll answer now before)

  module _ (before : Option (List ℕ)) (old : TimerMachine W) (name now : ℕ) (waker : W) (answer : polls.Poll (Unit {0}))
      (new : TimerMachine W)
      (sound : IsSound old) where
    polls_as : (phase : Option (Phase W)) (come : Bool) → nat_le (expiry_of old.waiting.side name) now ≡ come →
        PhaseSays phase (expiry_of old.waiting.side name) before → PollsAs phase come old name now waker answer new →
        PolledAs before old new name now answer
    polls_as (Some Fresh) true is says did =
        record { phase = Some Ended; becomes = phases_after rules old.own (Ends name) old new sound tt did.1; says = tt }
    polls_as (Some Fresh) false is says did = record {
      phase = Some (Registered waker);
      becomes = phases_after rules (min old.own now) (RegistersApart name waker) old new sound tt did.1;
      says = rw (did.0, says) (leb-false (expiry_of old.waiting.side name) now is, tt);
    }
    polls_as (Some (Registered earlier)) come is says did = record {
      phase = Some (Registered waker);
      becomes = phases_after rules old.own (KeepsWaiting name waker) old new sound tt did.1;
      says = rw did.0 (still_later (expiry_of old.waiting.side name) now before says);
    }
    polls_as (Some Told) come is says did =
        record { phase = Some Ended; becomes = phases_after rules old.own (Ends name) old new sound tt did.1; says = tt }
    polls_as phase come is says did = absurd did

  module _ (moments : ℕ → Option (List ℕ)) (old new : TimerMachine W) (sound : IsSound old) (says : Says moments old) where
    did_poll : (name now : ℕ) (waker : W) (answer : polls.Poll (Unit {0})) → Polls old name now waker answer new →
        PolledAs (moments name) old new name now answer
    did_poll name now waker answer did =
        polls_as (moments name) old name now waker answer new sound (phase_at old name) (nat_le (expiry_of old.waiting.side name) now) refl
        (says name) did

    -- what a poll leaves of what each future asks for
    after_polled : (name now : ℕ) (waker : W) (answer : polls.Poll (Unit {0})) → Polls old name now waker answer new →
        (q : ℕ) → expiry_of new.waiting.side q ≡ expiry_of old.waiting.side q
    after_polled name now waker answer did q = same_expiry old new q ((laws.polled old name now waker answer new did).asks q)

    says_ready : (name now : ℕ) (waker : W) → Polls old name now waker (polled.Ready tt) new → Says moments new
    says_ready name now waker did =
        let poll = did_poll name now waker (polled.Ready tt) did in
        let expiries = after_polled name now waker (polled.Ready tt) did in
        says_by moments moments old new name poll.phase says poll.becomes (λ q ne. expiries q) (λ q ne. refl) (rw (expiries name) poll.says)

    says_pending : (name now : ℕ) (waker : W) → Polls old name now waker polled.Pending new →
        Says (λ q. if name == q then first_polled now (moments q) else moments q) new
    says_pending name now waker did =
        let poll = did_poll name now waker polled.Pending did in
        let expiries = after_polled name now waker polled.Pending did in
        says_if moments (λ q. first_polled now (moments q)) old new name poll.phase says poll.becomes (λ q ne. expiries q)
        (rw (expiries name) poll.says)

    says_made : (slot expiry : ℕ) → Makes old expiry slot new → Says (λ q. if slot == q then None else moments q) new
    says_made slot expiry did =
        says_if moments (λ q. None) old new slot (Some Fresh) says (phases_after rules old.own (Inserts slot expiry) old new sound tt did)
        (λ q ne. same_expiry old new q (asks_after (Inserts slot expiry) old.waiting new.waiting did.1 q ∙
        if_false (slot == q) (Some expiry) (asks_of old.waiting.side q) (ne_eqb slot q (λ e. ne (sym e))))) refl

    checked_says : (phase : Option (Phase W)) (expiry now : ℕ) (before : Option (List ℕ)) → PhaseSays phase expiry before →
        (is_registered phase ≡ true → now < expiry) → PhaseSays phase expiry (checked now before)
    checked_says None expiry now before says later = tt
    checked_says (Some Fresh) expiry now before says later = ap (checked now) says
    checked_says (Some (Registered waker)) expiry now before says later = later_checked expiry now before (later refl) says
    checked_says (Some Told) expiry now before says later = tt
    checked_says (Some Complete) expiry now before says later = tt
    checked_says (Some Ended) expiry now before says later = tt

    says_cancelled : (slot : ℕ) → Cancels old slot new → Says (λ q. if slot == q then None else moments q) new
    says_cancelled slot did =
        says_if moments (λ q. None) old new slot None says (phases_after rules old.own (Removes slot) old new sound tt did)
        (λ q ne. same_expiry old new q (asks_after (Removes slot) old.waiting new.waiting did.1 q ∙
        if_false (slot == q) None (asks_of old.waiting.side q) (ne_eqb slot q (λ e. ne (sym e))))) tt

    says_checked : (now : ℕ) → Checks old now new → Says (λ q. checked now (moments q)) new
    says_checked now did q = elim (cases_Bool (holds q did.0)) [
      | inl told ↦ rw (after.these q told) tt
      | inr apart ↦
          let later : is_registered (phase_at old q) ≡ true → now < expiry_of old.waiting.side q =
          λ waits. leb-false (expiry_of old.waiting.side q) now (laws.not_come old new now q waits (sym (did.1.exactly q) ∙ apart)) in
          rw (after.others q apart, expiry) (checked_says (phase_at old q) (expiry_of old.waiting.side q) now (moments q) (says q) later)
    ]
      where
        after : AllBecome old.waiting.side new.waiting.side did.0 Told
        after = phases_after rules (max old.own now) (NotifiesListed Tell did.0) old new sound refl did.2

        expiry : expiry_of new.waiting.side q ≡ expiry_of old.waiting.side q
        expiry = same_expiry old new q (asks_after (NotifiesListed Tell did.0) old.waiting new.waiting did.2.1 q)

    says_woken : (waker : Option W) → Wakes old waker new → Says moments new
    says_woken waker did q =
        rw (
          phases_after rules old.own (PopsOldest waker) old new sound tt did q,
          same_expiry old new q (asks_after (PopsOldest waker) old.waiting new.waiting did.1 q),
        ) (says q)

    says_after : (call : TimerCall W) (answer : Answer ℕ W) → Step old call answer new →
        Says (λ name. moments_step name call answer (moments name)) new
    says_after call (Refused fault) did = whole moments old new says did.1
    says_after (Deadline expiry) (Made slot) did = says_made slot.0 expiry did
    says_after (Delay now delay) (Made slot) did = says_made slot.0 (expiry_after now (as_nanos delay)) did
    says_after (Poll slot now waker) Ready did = says_ready slot.0 now waker did
    says_after (Poll slot now waker) Pending did = says_pending slot.0 now waker did
    says_after (Cancel slot) Done did = says_cancelled slot.0 did
    says_after (Check now) Done did = says_checked now did
    says_after Next (Moment expiry) did = whole moments old new says did.1
    says_after NextWake (Woken waker) did = says_woken waker did
    says_after call answer did = absurd did

  says_at_first : (phase : Option (Phase W)) (expiry : ℕ) → PhaseSays phase expiry (moments_at_first phase)
  says_at_first None expiry = tt
  says_at_first (Some Fresh) expiry = refl
  says_at_first (Some (Registered waker)) expiry = tt
  says_at_first (Some Told) expiry = tt
  says_at_first (Some Complete) expiry = tt
  says_at_first (Some Ended) expiry = tt

  -- what a registered future's phase says
  later_if_registered : (phase : Option (Phase W)) (expiry : ℕ) (moments : Option (List ℕ)) → PhaseSays phase expiry moments →
      is_registered phase ≡ true → IsLater expiry moments
  later_if_registered (Some (Registered waker)) expiry moments says is = says
  later_if_registered None expiry moments says is = absurd (both_ways false refl is)
  later_if_registered (Some Fresh) expiry moments says is = absurd (both_ways false refl is)
  later_if_registered (Some Told) expiry moments says is = absurd (both_ways false refl is)
  later_if_registered (Some Complete) expiry moments says is = absurd (both_ways false refl is)
  later_if_registered (Some Ended) expiry moments says is = absurd (both_ways false refl is)

  pub expiries_are_later : (first : TimerMachine W) (history : List (TimerCall W × Answer ℕ W)) (state : TimerMachine W) →
      HistoryHolds first history state → ExpiriesAreLater first history state
  expiries_are_later first history state has name is =
      later_if_registered (phase_at state name) (expiry_of state.waiting.side name) (moments_since_first_poll name first history)
      (has.moments name) is

  -- the trait's laws
  pub timer_starts : (opening : Unit {0}) (state : TimerMachine W) → Opens opening state → IsSound state × OwesNoWake state
  timer_starts opening state opens = subst (λ (s : TimerMachine W). IsSound s × OwesNoWake s) (sym opens) (laws.opened_holds {W = W})

  pub timer_history_initial : (state : TimerMachine W) → HistoryHolds state [] state
  timer_history_initial state = record {
    moments = λ name. says_at_first (phase_at state name) (expiry_of state.waiting.side name);
    wakers = kept_at_first {E = TimerCall W × Answer ℕ W} (λ entry. on_wakers (subject entry.0) entry.1) state.waiting;
  }

  pub timer_history_preserved : (first : TimerMachine W) (history : List (TimerCall W × Answer ℕ W)) (old : TimerMachine W)
      (call : TimerCall W) (answer : Answer ℕ W) (new : TimerMachine W) →
      IsSound old → OwesNoWake old → HistoryHolds first history old → Step old call answer new →
      HistoryHolds first ((call, answer) ∷ history) new
  timer_history_preserved first history old call answer new sound no_wake was did = record {
    moments = says_after (λ name. moments_since_first_poll name first history) old new sound was.moments call answer did;
    wakers = line_keeps_wakers rules (λ entry. on_wakers (subject entry.0) entry.1) first.waiting history (call, answer) old new sound
        (is_line old call answer new did) was.wakers;
  }

pub timer_takes_oldest : {W : Type 0} (old : TimerMachine W) (answer : Answer ℕ W) (new : TimerMachine W)
    → Step old NextWake answer new → TakesOldest machine_outgoing (λ waker. Woken waker) old answer new
timer_takes_oldest old (Woken waker) new did = pops_oldest (λ found. Woken found) old waker new did
timer_takes_oldest old (Refused fault) new did = absurd did.0
timer_takes_oldest old answer new did = absurd did
