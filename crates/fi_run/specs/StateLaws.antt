-- What the runs of a state broadcast keep.
use Rattle.std.specs.Prelude.{◌≡◌, ℕ, ◌==◌, ◌+◌, nat_lt, if◌then◌else◌, Bool, true, false, Option, Some, None, Result, Ok, Err}
use Rattle.std.specs.Prelude.{List, [], ◌∷◌, length, refl}
use Rattle.std.proofs.Common.{sym, ◌∙◌, ap, subst, inl, inr, arith}
use Rattle.std.proofs.lemmas.Bool.{eq-eqb, ne_eqb, cases_eq, ltb-true}
use Rattle.futures.specs.declared.task.Poll as polls
use Rattle.futures.specs.declared.task.Poll.TheVariants as polled
use Rattle.fi_parts.specs.declared.errors.ChannelSendError.{ChannelSendError}
use Rattle.fi_parts.specs.declared.errors.CloseStatus.{CloseStatus}
use Rattle.fi_parts.specs.declared.errors.CloseStatus.TheVariants.{NewlyClosed, AlreadyClosed}
use Rattle.fi_parts.specs.declared.errors.Fault.TheVariants.{Closed}
use Rattle.fi_parts.specs.declared.phase.Phase.{Phase}
use Rattle.fi_parts.specs.declared.phase.Phase.TheVariants.{Fresh, Registered}
use Rattle.fi_parts.specs.declared.phase.Notice.TheVariants.{Renew}
use Rattle.fi_parts.specs.Waiting.{asks_of}
use Rattle.fi_parts.specs.Effects.WaiterEffect.{NoChange, Inserts, Removes, NotifiesAll, PopsOldest}
use Rattle.fi_parts.specs.Machine.{phase_at}
use Rattle.fi_parts.specs.MachineTable.{TableLine}
use Rattle.fi_parts.proofs.PairsWithin.{none_some, some_same, if_true, if_false}
use Rattle.fi_parts.proofs.Machines.{unchanged, inserts, removes, pops, asks_after}
use Rattle.fi_parts.proofs.WakerHistories.{line_keeps_wakers, kept_at_first}
use Rattle.fi_channels.specs.StateBroadcast.{Newest, StateMachine, newer_than, newer_for, newer_at, can_send, with_next}
use Rattle.fi_channels.specs.StateBroadcast.{CopyOf}
use Rattle.fi_channels.specs.StateBroadcast.{FreshWaits, FreshPolls, PollsAs, Polls, SendsAt, ClosesAt, IsNumbered}
use Rattle.fi_channels.specs.StateBroadcast.{IsSound, OwesNoWake}
use Rattle.fi_channels.specs.StateLaws as laws
use Rattle.fi_channels.specs.StateLaws.{rules, same_preserves, sends_preserve, closes_preserve, own_polled}
use Rattle.fi_run.specs.declared.answer.Answer.{Answer}
use Rattle.fi_run.specs.declared.answer.Answer.TheVariants.{Made, Pending, State, Nothing, Done, Newly, Already, Woken, Back, Refused}
use Rattle.fi_run.specs.declared.state.StateCall.{StateCall}
use Rattle.fi_run.specs.declared.state.StateCall.TheVariants.{Receive, Poll, Cancel, TryReceive, Send, Close, NextWake}
use Rattle.fi_run.specs.Outgoing.{TakesOldest, machine_outgoing}
use Rattle.fi_run.specs.OutgoingLaws.{pops_oldest}
use Rattle.fi_run.specs.WakerChanges.{on_wakers}
use Rattle.fi_run.specs.State.{Step, Opens}
use Rattle.fi_run.specs.StateHistory.{newest_after, IsCopyOf, OpenFits, sends_step, sends, asked_step, asked_by, IsNewest, GivesNewest}
use Rattle.fi_run.specs.StateHistory.{closes_step, new_closes, subject, Counts, AsksAs, HistoryHolds}

-- a closed channel that was open a moment ago had its one new close
pub close_counts : (first : Bool) (closes : ℕ) → OpenFits first true closes → OpenFits first false (closes + 1)
close_counts true closes fits = omega (arith, fits)
close_counts false closes fits = absurd (true_false fits.0)
  where
    true_false : ◌≡◌ {A = Bool} true false → ⊥
    true_false e = cc

pub open_at_first : (is_open : Bool) → OpenFits is_open is_open 0
open_at_first true = refl
open_at_first false = (refl, refl)

copy_is : {T : Type 0} (is_clone : T → T → Type 0) (newer : Option T) (number id : ℕ) (copy : T) →
    CopyOf is_clone number newer (Some (id, copy)) →
    (value : T) × (newer ≡ Some value) × is_clone value copy × (id ≡ number)
copy_is is_clone None number id copy cloned = absurd (none_some (id, copy) (sym cloned))
copy_is {T} is_clone (Some value) number id copy cloned =
    let pair : (id, copy) ≡ (number, cloned.0) = some_same (id, copy) (number, cloned.0) cloned.2 in
    (value, refl, subst (λ (c : T). is_clone value c) (sym (ap (λ (p : ℕ × T). p.1) pair)) cloned.1, ap (λ (p : ℕ × T). p.0) pair)

module _ {T W : Type 0} where
  -- what a poll with this answer found: a clone of a newer state with its number
  abbrev WasGiven : (T → T → Type 0) → StateMachine T W → ℕ → polls.Poll (Option (ℕ × T)) → Type 0
  WasGiven is_clone old name (polled.Ready (Some given)) =
      (value : T) × (newer_at old name ≡ Some value) × is_clone value given.1 × (given.0 ≡ old.own.number)
  WasGiven is_clone old name answer = Unit {0}

  module _ (is_clone : T → T → Type 0) (old new : StateMachine T W) (name : ℕ) (waker : W) (answer : polls.Poll (Option (ℕ × T))) where
    given_waiting : (is_open : Bool) → FreshWaits is_open old name waker answer new → WasGiven is_clone old name answer
    given_waiting true did = subst (WasGiven is_clone old name) (sym did.0) tt
    given_waiting false did = subst (WasGiven is_clone old name) (sym did.0) tt

    given_fresh : (newer : Option T) → newer_at old name ≡ newer → FreshPolls is_clone newer old name waker answer new →
        WasGiven is_clone old name answer
    given_fresh None is did = given_waiting old.own.is_open did
    given_fresh (Some value) is did = subst (WasGiven is_clone old name) (sym did.2) (value, is, did.1, refl)

    given_as : (phase : Option (Phase W)) → PollsAs is_clone phase old name waker answer new → WasGiven is_clone old name answer
    given_as (Some Fresh) did = given_fresh (newer_at old name) refl did
    given_as (Some (Registered before)) did = subst (WasGiven is_clone old name) (sym did.0) tt
    given_as phase did = absurd did

    given : Polls is_clone old name waker answer new → WasGiven is_clone old name answer
    given did = given_as (phase_at old name) did

  -- what a send or a close with this answer did
  abbrev AfterSend : StateMachine T W → StateMachine T W → T → Result (Unit {0}) (ChannelSendError T) → Type 0
  AfterSend old new value (Ok x) = new.own ≡ with_next old.own value
  AfterSend old new value (Err e) = new.own ≡ old.own

  abbrev AfterClose : StateMachine T W → StateMachine T W → CloseStatus → Type 0
  AfterClose old new NewlyClosed = (old.own.is_open ≡ true) × (new.own ≡ record old.own { is_open = false })
  AfterClose old new AlreadyClosed = new.own ≡ old.own

  module _ (old new : StateMachine T W) where
    send_after : (value : T) (answer : Result (Unit {0}) (ChannelSendError T)) (can : Bool) → SendsAt can old value answer new →
        AfterSend old new value answer
    send_after value answer true did = subst (AfterSend old new value) (sym did.0) did.1.0
    send_after value answer false did = subst (AfterSend old new value) (sym did.0) did.1.0

    send_asks : (value : T) (answer : Result (Unit {0}) (ChannelSendError T)) (can : Bool) → SendsAt can old value answer new →
        (q : ℕ) → asks_of new.waiting.side q ≡ asks_of old.waiting.side q
    send_asks value answer true did q = asks_after (NotifiesAll Renew) old.waiting new.waiting did.1.1 q
    send_asks value answer false did q = asks_after NoChange old.waiting new.waiting did.1.1 q

    close_after : (status : CloseStatus) (is_open : Bool) → old.own.is_open ≡ is_open → ClosesAt is_open old status new →
        AfterClose old new status
    close_after status true is did = subst (AfterClose old new) (sym did.0) (is, did.1.0)
    close_after status false is did = subst (AfterClose old new) (sym did.0) did.1.0

    close_asks : (status : CloseStatus) (is_open : Bool) → ClosesAt is_open old status new → (q : ℕ) →
        asks_of new.waiting.side q ≡ asks_of old.waiting.side q
    close_asks status true did q = asks_after (NotifiesAll Renew) old.waiting new.waiting did.1.1 q
    close_asks status false did q = asks_after NoChange old.waiting new.waiting did.1.1 q

  -- a state that is newer than the one asked is the newest that was sent
  newest_by : (is_clone : T → T → Type 0) (first : StateMachine T W) (sent : List T) (old : StateMachine T W) (asked : ℕ) (value copy : T) →
      Counts first sent old → newer_than old.own asked ≡ Some value → is_clone value copy →
      IsNewest is_clone first sent (Some asked) old.own.number copy
  newest_by is_clone first sent old asked value copy counted newer cloned = each (nat_lt asked old.own.number) refl
    where
      each : (b : Bool) → nat_lt asked old.own.number ≡ b → IsNewest is_clone first sent (Some asked) old.own.number copy
      each true is =
          let held : ◌≡◌ {A = Option T} (Some value) (newest_after first.own.value sent) =
          sym newer ∙ if_true (nat_lt asked old.own.number) old.own.value None is ∙ counted.1 in
          (counted.0, ltb-true asked old.own.number is, subst (λ (o : Option T). IsCopyOf is_clone o copy) held cloned)
      each false is = absurd (none_some value (sym (if_false (nat_lt asked old.own.number) old.own.value None is) ∙ newer))

  newest_for : (is_clone : T → T → Type 0) (first : StateMachine T W) (sent : List T) (asked_now : ℕ → Option ℕ)
      (old : StateMachine T W) (name : ℕ)
      (asked : Option ℕ) (value copy : T) → asks_of old.waiting.side name ≡ asked → Counts first sent old → AsksAs asked_now old →
      newer_for old.own asked ≡ Some value → is_clone value copy → IsNewest is_clone first sent (asked_now name) old.own.number copy
  newest_for is_clone first sent asked_now old name None value copy is counted asks newer cloned = absurd (none_some value newer)
  newest_for is_clone first sent asked_now old name (Some asked) value copy is counted asks newer cloned =
      rw (asks name asked is) (newest_by is_clone first sent old asked value copy counted newer cloned)

module _ {T W : Type 0} (is_clone : T → T → Type 0) (is_infallible : T → Type 0) where
  -- Each step is a line of the table.
  is_line : (old : StateMachine T W) (call : StateCall T W) (answer : Answer T W) (new : StateMachine T W) → IsNumbered old.own →
      Step is_clone is_infallible old call answer new → TableLine rules (on_wakers (subject call) answer) old new
  is_line old call (Refused fault) new numbered did = unchanged rules old new did.1
  is_line old (Receive asked) (Made slot) new numbered did = inserts rules slot.0 asked old new did
  is_line old (Poll slot waker) Pending new numbered did = (laws.polled old slot.0 waker polled.Pending new is_clone numbered did).line
  is_line old (Poll slot waker) (State id value) new numbered did =
      (laws.polled old slot.0 waker (polled.Ready (Some (id, value))) new is_clone numbered did).line
  is_line old (Poll slot waker) Nothing new numbered did = (laws.polled old slot.0 waker (polled.Ready None) new is_clone numbered did).line
  is_line old (Cancel slot) Done new numbered did = removes rules slot.0 old new did
  is_line old (TryReceive asked) (State id value) new numbered did = unchanged rules old new did.1
  is_line old (TryReceive asked) Nothing new numbered did = unchanged rules old new did.1
  is_line old (Send value) Done new numbered did = laws.sent old new value (Ok tt) did
  is_line old (Send value) (Back back Closed) new numbered did = laws.sent old new value (Err (record { 0 = value })) did.1
  is_line old Close Newly new numbered did = laws.closed old new NewlyClosed did
  is_line old Close Already new numbered did = laws.closed old new AlreadyClosed did
  is_line old NextWake (Woken waker) new numbered did = pops rules waker old new did
  is_line old call answer new numbered did = absurd did

  -- what the state now says of the sends and the closes, and what each receive asks for
  abbrev Says : StateMachine T W → List T → ℕ → (ℕ → Option ℕ) → StateMachine T W → Type 0
  Says first sent closes asked state = Counts first sent state × OpenFits first.own.is_open state.own.is_open closes × AsksAs asked state

  same_says : (first : StateMachine T W) (sent : List T) (closes : ℕ) (asked : ℕ → Option ℕ) (old new : StateMachine T W) →
      Says first sent closes asked old →
      new.own ≡ old.own → ((q : ℕ) → asks_of new.waiting.side q ≡ asks_of old.waiting.side q) → Says first sent closes asked new
  same_says first sent closes asked old new was same asks = (
    subst (λ (n : Newest T). (n.number ≡ first.own.number + length sent) × (n.value ≡ newest_after first.own.value sent)) (sym same) was.0,
    subst (λ (n : Newest T). OpenFits first.own.is_open n.is_open closes) (sym same) was.1,
    λ name number is. was.2 name number (sym (asks name) ∙ is),
  )

  whole : (first : StateMachine T W) (sent : List T) (closes : ℕ) (asked : ℕ → Option ℕ) (old new : StateMachine T W) →
      Says first sent closes asked old → new ≡ old →
      Says first sent closes asked new
  whole first sent closes asked old new was same = subst (Says first sent closes asked) (sym same) was

  made_asks : (slot asked : ℕ) (before : ℕ → Option ℕ) (old new : StateMachine T W) → AsksAs before old →
      ((q : ℕ) → asks_of new.waiting.side q ≡ (if slot == q then Some asked else asks_of old.waiting.side q)) →
      AsksAs (λ q. if slot == q then Some asked else before q) new
  made_asks slot asked before old new was asks name number is = elim (cases_eq slot name) [
    | inl same ↦
        let here = eq-eqb slot name same in
        if_true (slot == name) (Some asked) (before name) here
        ∙ sym (if_true (slot == name) (Some asked) (asks_of old.waiting.side name) here)
        ∙ sym (asks name) ∙ is
    | inr ne ↦
        let off = ne_eqb slot name ne in
        if_false (slot == name) (Some asked) (before name) off
        ∙ was name number (sym (if_false (slot == name) (Some asked) (asks_of old.waiting.side name) off) ∙ sym (asks name) ∙ is)
  ]

  removed_asks : (slot : ℕ) (before : ℕ → Option ℕ) (old new : StateMachine T W) → AsksAs before old →
      ((q : ℕ) → asks_of new.waiting.side q ≡ (if slot == q then None else asks_of old.waiting.side q)) → AsksAs before new
  removed_asks slot before old new was asks name number is = elim (cases_eq slot name) [
    | inl same ↦
        absurd (none_some number (sym (if_true (slot == name) None (asks_of old.waiting.side name) (eq-eqb slot name same))
        ∙ sym (asks name) ∙ is))
    | inr ne ↦
        was name number (sym (if_false (slot == name) None (asks_of old.waiting.side name) (ne_eqb slot name ne)) ∙ sym (asks name) ∙ is)
  ]

  module _ (first : StateMachine T W) (sent : List T) (closes : ℕ) (asked : ℕ → Option ℕ) (old : StateMachine T W)
      (was : Says first sent closes asked old) (numbered : IsNumbered old.own) where
    says_polled : (slot : ℕ) (waker : W) (answer : polls.Poll (Option (ℕ × T))) (new : StateMachine T W) →
        Polls is_clone old slot waker answer new → Says first sent closes asked new
    says_polled slot waker answer new did =
        same_says first sent closes asked old new was (own_polled old slot waker answer new is_clone did)
        (laws.polled old slot waker answer new is_clone numbered did).asks

    says_after : (call : StateCall T W) (answer : Answer T W) (new : StateMachine T W) → Step is_clone is_infallible old call answer new →
        Says first (sends_step call answer sent) (closes_step call answer closes) (λ name. asked_step name call answer (asked name)) new
    says_after call (Refused fault) new did = whole first sent closes asked old new was did.1
    says_after (Receive number) (Made slot) new did = (
      subst (λ (n : Newest T). (n.number ≡ first.own.number + length sent) × (n.value ≡ newest_after first.own.value sent))
          (sym did.0) was.0,
      subst (λ (n : Newest T). OpenFits first.own.is_open n.is_open closes) (sym did.0) was.1,
      made_asks slot.0 number asked old new was.2 (asks_after (Inserts slot.0 number) old.waiting new.waiting did.1),
    )
    says_after (Poll slot waker) Pending new did = says_polled slot.0 waker polled.Pending new did
    says_after (Poll slot waker) (State id value) new did = says_polled slot.0 waker (polled.Ready (Some (id, value))) new did
    says_after (Poll slot waker) Nothing new did = says_polled slot.0 waker (polled.Ready None) new did
    says_after (Cancel slot) Done new did = (
      subst (λ (n : Newest T). (n.number ≡ first.own.number + length sent) × (n.value ≡ newest_after first.own.value sent))
          (sym did.0) was.0,
      subst (λ (n : Newest T). OpenFits first.own.is_open n.is_open closes) (sym did.0) was.1,
      removed_asks slot.0 asked old new was.2 (asks_after (Removes slot.0) old.waiting new.waiting did.1),
    )
    says_after (TryReceive number) (State id value) new did = whole first sent closes asked old new was did.1
    says_after (TryReceive number) Nothing new did = whole first sent closes asked old new was did.1
    says_after (Send value) Done new did =
        let own : new.own ≡ with_next old.own value = send_after old new value (Ok tt) (can_send old.own) did in (
          (ap (λ (n : Newest T). n.number) own ∙ omega (arith, was.0.0), ap (λ (n : Newest T). n.value) own),
          subst (λ (b : Bool). OpenFits first.own.is_open b closes) (sym (ap (λ (n : Newest T). n.is_open) own)) was.1,
          λ name number is. was.2 name number (sym (send_asks old new value (Ok tt) (can_send old.own) did name) ∙ is),
        )
    says_after (Send value) (Back back Closed) new did =
        same_says first sent closes asked old new was (send_after old new value (Err (record { 0 = value })) (can_send old.own) did.1)
        (send_asks old new value (Err (record { 0 = value })) (can_send old.own) did.1)
    says_after Close Newly new did =
        let now = close_after old new NewlyClosed old.own.is_open refl did in (
          (ap (λ (n : Newest T). n.number) now.1 ∙ was.0.0, ap (λ (n : Newest T). n.value) now.1 ∙ was.0.1),
          subst (λ (b : Bool). OpenFits first.own.is_open b (closes + 1)) (sym (ap (λ (n : Newest T). n.is_open) now.1))
              (close_counts first.own.is_open closes (subst (λ (b : Bool). OpenFits first.own.is_open b closes) now.0 was.1)),
          λ name number is. was.2 name number (sym (close_asks old new NewlyClosed old.own.is_open did name) ∙ is),
        )
    says_after Close Already new did =
        same_says first sent closes asked old new was (close_after old new AlreadyClosed old.own.is_open refl did)
        (close_asks old new AlreadyClosed old.own.is_open did)
    says_after NextWake (Woken waker) new did =
        same_says first sent closes asked old new was did.0 (asks_after (PopsOldest waker) old.waiting new.waiting did.1)
    says_after call answer new did = absurd did

  gives_newest : (first : StateMachine T W) (sent : List T) (asked : ℕ → Option ℕ) (old : StateMachine T W)
      (call : StateCall T W) (answer : Answer T W)
      (new : StateMachine T W) → Counts first sent old → AsksAs asked old → Step is_clone is_infallible old call answer new →
      GivesNewest is_clone first sent asked call answer
  gives_newest first sent asked old (Poll slot waker) (State id copy) new counted asks did =
      let was = given is_clone old new slot.0 waker (polled.Ready (Some (id, copy))) did in
      subst (λ (n : ℕ). IsNewest is_clone first sent (asked slot.0) n copy) (sym was.3)
      (newest_for is_clone first sent asked old slot.0 (asks_of old.waiting.side slot.0) was.0 copy refl counted asks was.1 was.2)
  gives_newest first sent asked old (TryReceive number) (State id copy) new counted asks did =
      let was = copy_is is_clone (newer_than old.own number) old.own.number id copy did.0 in
      subst (λ (n : ℕ). IsNewest is_clone first sent (Some number) n copy) (sym was.3)
      (newest_by is_clone first sent old number was.0 copy counted was.1 was.2)
  gives_newest first sent asked old call answer new counted asks did = tt

  -- the trait's laws
  abbrev Holds : StateMachine T W → Type 0
  Holds state = IsSound state × OwesNoWake state

  pub state_keeps : (old : StateMachine T W) (call : StateCall T W) (answer : Answer T W) (new : StateMachine T W) → IsSound old →
      OwesNoWake old →
      Step is_clone is_infallible old call answer new → Holds new
  state_keeps old call answer new sound no_wake did = keeps call answer did
    where
      line : (call : StateCall T W) (answer : Answer T W) → Step is_clone is_infallible old call answer new →
          TableLine rules (on_wakers (subject call) answer) old new
      line call answer did = is_line old call answer new sound.numbered did

      same : (call : StateCall T W) (answer : Answer T W) → Step is_clone is_infallible old call answer new → new.own ≡ old.own → Holds new
      same call answer did own = same_preserves old new (line call answer did) own (sound, no_wake)

      keeps : (call : StateCall T W) (answer : Answer T W) → Step is_clone is_infallible old call answer new → Holds new
      keeps call (Refused fault) did = same call (Refused fault) did (ap (λ (s : StateMachine T W). s.own) did.1)
      keeps (Receive asked) (Made slot) did = same (Receive asked) (Made slot) did did.0
      keeps (Poll slot waker) Pending did = same (Poll slot waker) Pending did (own_polled old slot.0 waker polled.Pending new is_clone did)
      keeps (Poll slot waker) (State id value) did =
          same (Poll slot waker) (State id value) did (own_polled old slot.0 waker (polled.Ready (Some (id, value))) new is_clone did)
      keeps (Poll slot waker) Nothing did =
          same (Poll slot waker) Nothing did (own_polled old slot.0 waker (polled.Ready None) new is_clone did)
      keeps (Cancel slot) Done did = same (Cancel slot) Done did did.0
      keeps (TryReceive asked) (State id value) did =
          same (TryReceive asked) (State id value) did (ap (λ (s : StateMachine T W). s.own) did.1)
      keeps (TryReceive asked) Nothing did = same (TryReceive asked) Nothing did (ap (λ (s : StateMachine T W). s.own) did.1)
      keeps (Send value) Done did = sends_preserve old new value (Ok tt) did (sound, no_wake)
      keeps (Send value) (Back back Closed) did = sends_preserve old new value (Err (record { 0 = value })) did.1 (sound, no_wake)
      keeps Close Newly did = closes_preserve old new NewlyClosed did (sound, no_wake)
      keeps Close Already did = closes_preserve old new AlreadyClosed did (sound, no_wake)
      keeps NextWake (Woken waker) did = same NextWake (Woken waker) did did.0
      keeps call answer did = absurd did

  pub state_starts : (opening : Unit {0}) (state : StateMachine T W) → Opens opening state → Holds state
  state_starts opening state opens = subst Holds (sym opens) laws.opened_holds

  pub state_history_initial : (state : StateMachine T W) → HistoryHolds is_clone state [] state
  state_history_initial state = record {
    counts = (omega arith, refl);
    is_open = open_at_first state.own.is_open;
    asked = λ name number is. is;
    states = tt;
    wakers = kept_at_first {E = StateCall T W × Answer T W} (λ entry. on_wakers (subject entry.0) entry.1) state.waiting;
  }

  pub state_history_preserved : (first : StateMachine T W) (history : List (StateCall T W × Answer T W))
      (old : StateMachine T W) (call : StateCall T W)
      (answer : Answer T W) (new : StateMachine T W) → IsSound old → OwesNoWake old → HistoryHolds is_clone first history old →
      Step is_clone is_infallible old call answer new → HistoryHolds is_clone first ((call, answer) ∷ history) new
  state_history_preserved first history old call answer new sound no_wake was did =
      let says = says_after first (sends history) (new_closes history)
      (λ name. asked_by first name history) old (was.counts, was.is_open, was.asked)
      sound.numbered call answer new did in
      record {
        counts = says.0;
        is_open = says.1;
        asked = says.2;
        states = (
          gives_newest first (sends history) (λ name. asked_by first name history) old call answer new
              was.counts was.asked did,
          was.states,
        );
        wakers = line_keeps_wakers rules (λ entry. on_wakers (subject entry.0) entry.1) first.waiting history
            (call, answer) old new sound.waiters
            (is_line old call answer new sound.numbered did) was.wakers;
      }

pub state_takes_oldest : {T W : Type 0} (is_clone : T → T → Type 0) (is_infallible : T → Type 0) (old : StateMachine T W)
    (answer : Answer T W) (new : StateMachine T W)
    → Step is_clone is_infallible old NextWake answer new → TakesOldest machine_outgoing (λ waker. Woken waker) old answer new
state_takes_oldest is_clone is_infallible old (Woken waker) new did = pops_oldest (λ found. Woken found) old waker new did
state_takes_oldest is_clone is_infallible old (Refused fault) new did = absurd did.0
state_takes_oldest is_clone is_infallible old answer new did = absurd did
