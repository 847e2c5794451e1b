-- What the runs of an event keep.
use Rattle.std.specs.Prelude.{◌≡◌, ℕ, ◌==◌, if◌then◌else◌, Bool, true, false, Option, Some, None, List, [], ◌∷◌, refl}
use Rattle.std.proofs.Common.{sym, ◌∙◌, ap, subst}
use Rattle.std.proofs.lemmas.Bool.{both_ways}
use Rattle.futures.specs.declared.task.Poll as polls
use Rattle.futures.specs.declared.task.Poll.TheVariants as polled
use Rattle.fi_parts.specs.declared.phase.Phase.{Phase}
use Rattle.fi_parts.specs.declared.phase.Phase.TheVariants.{Fresh, Registered, Told, Complete, Ended}
use Rattle.fi_parts.specs.declared.phase.Notice.TheVariants.{Tell}
use Rattle.fi_parts.proofs.Waiting.{Becomes, noticed_phase}
use Rattle.fi_parts.specs.Effects.WaiterEffect.{NoChange, Inserts, Registers, KeepsWaiting, Ends, Removes, NotifiesAll, PopsOldest}
use Rattle.fi_parts.specs.Machine.{phase_at}
use Rattle.fi_parts.specs.MachineTable.{TableLine}
use Rattle.fi_parts.proofs.Machines.{line_preserves, unchanged, inserts, removes, pops, phases_after, history_by, apart_noticed}
use Rattle.fi_parts.proofs.WakerHistories.{line_keeps_wakers, kept_at_first}
use Rattle.fi_channels.specs.Event.{EventMachine, PollsAs, SetsFrom, IsSound, OwesNoWake}
use Rattle.fi_channels.specs.EventLaws as laws
use Rattle.fi_channels.specs.EventLaws.{rules}
use Rattle.fi_run.specs.declared.answer.Answer.{Answer}
use Rattle.fi_run.specs.declared.answer.Answer.TheVariants.{Made, Pending, Ready, Done, Flag, Woken, Refused}
use Rattle.fi_run.specs.declared.event.EventCall.{EventCall}
use Rattle.fi_run.specs.declared.event.EventCall.TheVariants.{Wait, Poll, Cancel, Set, Reset, IsSet, NextWake}
use Rattle.fi_run.specs.Outgoing.{TakesOldest, machine_outgoing}
use Rattle.fi_run.specs.OutgoingLaws.{pops_oldest}
use Rattle.fi_run.specs.WakerChanges.{on_wakers}
use Rattle.fi_run.specs.Event.{Opens, Step}
use Rattle.fi_run.specs.EventHistory.{subject, flag_step, first_seen, set_from_then, seen_by, seen_step, was_set_since_first_poll}
use Rattle.fi_run.specs.EventHistory.{PollIsRight, HistoryHolds}

abbrev IsRight : polls.Poll (Unit {0}) → Option Bool → Type 0
IsRight (polled.Ready x) seen = seen ≡ Some true
IsRight polled.Pending seen = seen ≡ Some false

told_seen : {W : Type 0} (phase : Option (Phase W)) → set_from_then (seen_by phase) ≡ seen_by (noticed_phase Told phase)
told_seen None = refl
told_seen (Some Fresh) = refl
told_seen (Some (Registered w)) = refl
told_seen (Some Told) = refl
told_seen (Some Complete) = refl
told_seen (Some Ended) = refl

module _ {W : Type 0} where
  -- Each step is a line of the table.
  pub event_is_line : (old : EventMachine W) (call : EventCall W) (answer : Answer ℕ W) (new : EventMachine W) → Step old call answer new →
      TableLine rules (on_wakers (subject call) answer) old new
  event_is_line old call (Refused fault) new did = unchanged rules old new did.1
  event_is_line old Wait (Made slot) new did = inserts rules slot.0 tt old new did
  event_is_line old (Poll slot waker) Ready new did = (laws.polled old slot.0 waker (polled.Ready tt) new did).line
  event_is_line old (Poll slot waker) Pending new did = (laws.polled old slot.0 waker polled.Pending new did).line
  event_is_line old (Cancel slot) Done new did = removes rules slot.0 old new did
  event_is_line old Set Done new did = laws.was_set old new did
  event_is_line old Reset Done new did = laws.was_reset old new did
  event_is_line old IsSet (Flag flag) new did = unchanged rules old new did.1
  event_is_line old NextWake (Woken waker) new did = pops rules waker old new did
  event_is_line old call answer new did = absurd did

  pub event_keeps : (old : EventMachine W) (call : EventCall W) (answer : Answer ℕ W) (new : EventMachine W) →
      IsSound old → OwesNoWake old → Step old call answer new → IsSound new × OwesNoWake new
  event_keeps old call answer new sound no_wake did = line_preserves rules old new (event_is_line old call answer new did) (sound, no_wake)

  -- What a poll did: the wait's phase now, and that it says what was seen since its first poll.
  record Polled (old new : EventMachine W) (name : ℕ) (answer : polls.Poll (Unit {0})) : Type 0 where
    phase : Option (Phase W)
    becomes : Becomes old.waiting.side new.waiting.side name phase
    seen : first_seen (seen_by (phase_at old name)) old.own ≡ seen_by phase
    right : IsRight answer (seen_by phase)
    flag : new.own ≡ old.own

  module _ (old : EventMachine W) (name : ℕ) (waker : W) (answer : polls.Poll (Unit {0})) (new : EventMachine W) (sound : IsSound old) where
    polls_as : (phase : Option (Phase W)) (flag : Bool) → phase_at old name ≡ phase → old.own ≡ flag →
        PollsAs phase flag old name waker answer new → Polled old new name answer
    polls_as (Some Fresh) true is flag did = record {
      phase = Some Ended;
      becomes = phases_after rules true (Ends name) old new sound tt did.1;
      seen = rw (is, flag) refl;
      right = rw did.0 refl;
      flag = did.1.0 ∙ sym flag;
    }
    polls_as (Some Fresh) false is flag did = record {
      phase = Some (Registered waker);
      becomes = phases_after rules false (Registers name waker) old new sound tt did.1;
      seen = rw (is, flag) refl;
      right = rw did.0 refl;
      flag = did.1.0 ∙ sym flag;
    }
    polls_as (Some (Registered before)) now is flag did = record {
      phase = Some (Registered waker);
      becomes = phases_after rules now (KeepsWaiting name waker) old new sound tt did.1;
      seen = rw is refl;
      right = rw did.0 refl;
      flag = did.1.0 ∙ sym flag;
    }
    polls_as (Some Told) now is flag did = record {
      phase = Some Ended;
      becomes = phases_after rules now (Ends name) old new sound tt did.1;
      seen = rw is refl;
      right = rw did.0 refl;
      flag = did.1.0 ∙ sym flag;
    }
    polls_as phase now is flag did = absurd did

    did_poll : PollsAs (phase_at old name) old.own old name waker answer new → Polled old new name answer
    did_poll did = polls_as (phase_at old name) old.own refl refl did

  module _ (old new : EventMachine W) where
    set_flag : (flag : Bool) → SetsFrom flag old new → new.own ≡ true
    set_flag true did = did.0
    set_flag false did = did.0

    set_seen : (flag : Bool) → IsSound old → OwesNoWake old → old.own ≡ flag → SetsFrom flag old new →
        (q : ℕ) → phase_at new q ≡ noticed_phase Told (phase_at old q)
    set_seen true sound no_wake is did q =
        phases_after rules true NoChange old new sound tt did q
        ∙ sym (apart_noticed Told (phase_at old q) (λ waits. both_ways old.own (no_wake q waits) is))
    set_seen false sound no_wake is did q = phases_after rules true (NotifiesAll Tell) old new sound refl did q

  -- the flag after each step
  pub flag_after_step : (old : EventMachine W) (call : EventCall W) (answer : Answer ℕ W) (new : EventMachine W) → IsSound old →
      Step old call answer new → flag_step call answer old.own ≡ new.own
  flag_after_step old call (Refused fault) new sound did = ap (λ (s : EventMachine W). s.own) (sym did.1)
  flag_after_step old Wait (Made slot) new sound did = sym did.0
  flag_after_step old (Poll slot waker) Ready new sound did = sym (did_poll old slot.0 waker (polled.Ready tt) new sound did).flag
  flag_after_step old (Poll slot waker) Pending new sound did = sym (did_poll old slot.0 waker polled.Pending new sound did).flag
  flag_after_step old (Cancel slot) Done new sound did = sym did.0
  flag_after_step old Set Done new sound did = sym (set_flag old new old.own did)
  flag_after_step old Reset Done new sound did = sym did.0
  flag_after_step old IsSet (Flag flag) new sound did = ap (λ (s : EventMachine W). s.own) (sym did.1)
  flag_after_step old NextWake (Woken waker) new sound did = sym did.0
  flag_after_step old call answer new sound did = absurd did

  -- what was seen, after each step
  module _ (seen : ℕ → Option Bool) (old : EventMachine W) (new : EventMachine W) (sound : IsSound old)
      (says : (q : ℕ) → seen q ≡ seen_by (phase_at old q)) where
    seen_polled : (slot : ℕ) (waker : W) (answer : polls.Poll (Unit {0})) → PollsAs (phase_at old slot) old.own old slot waker answer new →
        (q : ℕ) → (if slot == q then first_seen (seen q) old.own else seen q) ≡ seen_by (phase_at new q)
    seen_polled slot waker answer did q =
        let now = did_poll old slot waker answer new sound did in
        history_by seen_by old.waiting.side new.waiting.side slot now.phase seen (λ n. first_seen (seen n) old.own) now.becomes says
        (rw (says slot) now.seen) q

    seen_after_step : (call : EventCall W) (answer : Answer ℕ W) → OwesNoWake old → Step old call answer new →
        (q : ℕ) → seen_step q call answer old.own (seen q) ≡ seen_by (phase_at new q)
    seen_after_step call (Refused fault) no_wake did q = says q ∙ ap (λ (s : EventMachine W). seen_by (phase_at s q)) (sym did.1)
    seen_after_step Wait (Made slot) no_wake did q =
        history_by seen_by old.waiting.side new.waiting.side slot.0 (Some Fresh) seen (λ n. None)
        (phases_after rules old.own (Inserts slot.0 tt) old new sound tt did) says refl q
    seen_after_step (Poll slot waker) Ready no_wake did q = seen_polled slot.0 waker (polled.Ready tt) did q
    seen_after_step (Poll slot waker) Pending no_wake did q = seen_polled slot.0 waker polled.Pending did q
    seen_after_step (Cancel slot) Done no_wake did q =
        history_by seen_by old.waiting.side new.waiting.side slot.0 None seen (λ n. None)
        (phases_after rules old.own (Removes slot.0) old new sound tt did) says refl q
    seen_after_step Set Done no_wake did q =
        ap set_from_then (says q) ∙ told_seen (phase_at old q) ∙ ap seen_by (sym (set_seen old new old.own sound no_wake refl did q))
    seen_after_step Reset Done no_wake did q = says q ∙ ap seen_by (sym (phases_after rules false NoChange old new sound tt did q))
    seen_after_step IsSet (Flag flag) no_wake did q = says q ∙ ap (λ (s : EventMachine W). seen_by (phase_at s q)) (sym did.1)
    seen_after_step NextWake (Woken waker) no_wake did q =
        says q ∙ ap seen_by (sym (phases_after rules old.own (PopsOldest waker) old new sound tt did q))
    seen_after_step call answer no_wake did q = absurd did

  right_after_step : (seen : ℕ → Option Bool) (old : EventMachine W) (call : EventCall W) (answer : Answer ℕ W) (new : EventMachine W) →
      IsSound old → ((q : ℕ) → seen q ≡ seen_by (phase_at new q)) → Step old call answer new → PollIsRight call answer seen
  right_after_step seen old call (Refused fault) new sound says did = tt
  right_after_step seen old (Poll slot waker) Ready new sound says did =
      let now = did_poll old slot.0 waker (polled.Ready tt) new sound did in says slot.0 ∙ ap seen_by now.becomes.here ∙ now.right
  right_after_step seen old (Poll slot waker) Pending new sound says did =
      let now = did_poll old slot.0 waker polled.Pending new sound did in says slot.0 ∙ ap seen_by now.becomes.here ∙ now.right
  right_after_step seen old call answer new sound says did = tt

  -- the trait's laws
  pub event_starts : (opening : Bool) (state : EventMachine W) → Opens opening state → IsSound state × OwesNoWake state
  event_starts opening state opens =
      subst (λ (s : EventMachine W). IsSound s × OwesNoWake s) (sym opens) (laws.opened_holds {W = W} opening)

  pub event_history_initial : (state : EventMachine W) → HistoryHolds state [] state
  event_history_initial state = record {
    flag = refl;
    phases = λ name. refl;
    polls = tt;
    wakers = kept_at_first {E = EventCall W × Answer ℕ W} (λ entry. on_wakers (subject entry.0) entry.1) state.waiting;
  }

  pub event_history_preserved : (first : EventMachine W) (history : List (EventCall W × Answer ℕ W)) (old : EventMachine W)
      (call : EventCall W) (answer : Answer ℕ W) (new : EventMachine W) →
      IsSound old → OwesNoWake old → HistoryHolds first history old → Step old call answer new →
      HistoryHolds first ((call, answer) ∷ history) new
  event_history_preserved first history old call answer new sound no_wake was did =
      let seen : (q : ℕ) → was_set_since_first_poll q first ((call, answer) ∷ history) ≡ seen_by (phase_at new q) =
      λ q. rw was.flag (seen_after_step (λ n. was_set_since_first_poll n first history) old new sound was.phases
      call answer no_wake did q) in
      record {
        flag = ap (flag_step call answer) was.flag ∙ flag_after_step old call answer new sound did;
        phases = seen;
        polls = (
          right_after_step (λ name. was_set_since_first_poll name first ((call, answer) ∷ history))
              old call answer new sound seen did,
          was.polls,
        );
        wakers = line_keeps_wakers rules (λ entry. on_wakers (subject entry.0) entry.1) first.waiting history (call, answer) old new sound
            (event_is_line old call answer new did) was.wakers;
      }

pub event_takes_oldest : {W : Type 0} (old : EventMachine W) (answer : Answer ℕ W) (new : EventMachine W)
    → Step old NextWake answer new → TakesOldest machine_outgoing (λ waker. Woken waker) old answer new
event_takes_oldest old (Woken waker) new did = pops_oldest (λ found. Woken found) old waker new did
event_takes_oldest old (Refused fault) new did = absurd did.0
event_takes_oldest old answer new did = absurd did
