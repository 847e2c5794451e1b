-- What a history of an event says. A history is a list of calls with their answers, the newest first, since some first state.
use Rattle.std.specs.Prelude.{◌≡◌, ⊤, ℕ, ◌==◌, Bool, true, false, if◌then◌else◌, Option, Some, None, List, [], ◌∷◌}
use Rattle.fi_parts.specs.declared.phase.Phase.{Phase}
use Rattle.fi_parts.specs.declared.phase.Phase.TheVariants.{Registered, Told, Ended}
use Rattle.fi_parts.specs.Machine.{phase_at}
use Rattle.fi_parts.specs.WakerHistory.{KeepsWakers}
use Rattle.fi_channels.specs.Event.{EventMachine}
use Rattle.fi_run.specs.declared.answer.Answer.{Answer}
use Rattle.fi_run.specs.declared.answer.Answer.TheVariants.{Made, Pending, Ready, Done, Refused}
use Rattle.fi_run.specs.declared.event.EventCall.{EventCall}
use Rattle.fi_run.specs.declared.event.EventCall.TheVariants.{Wait, Poll, Cancel, Set, Reset}
use Rattle.fi_run.specs.WakerChanges.{Subject, on_wakers}
use Rattle.fi_run.specs.WakerChanges.Subject.{Polling, Cancelling, Other}

abbrev pub first_seen : Option Bool → Bool → Option Bool
first_seen None flag = Some flag
first_seen (Some seen) flag = Some seen

abbrev pub set_from_then : Option Bool → Option Bool
set_from_then None = None
set_from_then (Some seen) = Some true

-- The phase of a wait says whether the event was set since its first poll; None: it was not polled yet, or is not live.
abbrev pub seen_by : {W : Type 0} → Option (Phase W) → Option Bool
seen_by (Some (Registered waker)) = Some false
seen_by (Some Told) = Some true
seen_by (Some Ended) = Some true
seen_by phase = None

module _ {W : Type 0} where
  abbrev pub flag_step : EventCall W → Answer ℕ W → Bool → Bool
  flag_step call (Refused fault) flag = flag
  flag_step Set Done flag = true
  flag_step Reset Done flag = false
  flag_step call answer flag = flag

  -- the flag now
  abbrev pub flag_after : EventMachine W → List (EventCall W × Answer ℕ W) → Bool
  flag_after first [] = first.own
  flag_after first (entry ∷ history) = flag_step entry.0 entry.1 (flag_after first history)

  abbrev pub seen_step : ℕ → EventCall W → Answer ℕ W → Bool → Option Bool → Option Bool
  seen_step name call (Refused fault) flag seen = seen
  seen_step name Wait (Made slot) flag seen = if slot.0 == name then None else seen
  seen_step name (Poll slot waker) Ready flag seen = if slot.0 == name then first_seen seen flag else seen
  seen_step name (Poll slot waker) Pending flag seen = if slot.0 == name then first_seen seen flag else seen
  seen_step name (Cancel slot) Done flag seen = if slot.0 == name then None else seen
  seen_step name Set Done flag seen = set_from_then seen
  seen_step name call answer flag seen = seen

  -- Whether the event was set at some moment from the first poll of this wait to now; None: it was not polled yet. A wait that
  -- was polled before the first state has a phase there that says it.
  abbrev pub was_set_since_first_poll : ℕ → EventMachine W → List (EventCall W × Answer ℕ W) → Option Bool
  was_set_since_first_poll name first [] = seen_by (phase_at first name)
  was_set_since_first_poll name first (entry ∷ history) =
      seen_step name entry.0 entry.1 (flag_after first history) (was_set_since_first_poll name first history)

  abbrev pub PollIsRight : EventCall W → Answer ℕ W → (ℕ → Option Bool) → Type 0
  PollIsRight call (Refused fault) was_set = ⊤
  PollIsRight (Poll slot waker) Ready was_set = was_set slot.0 ≡ Some true
  PollIsRight (Poll slot waker) Pending was_set = was_set slot.0 ≡ Some false
  PollIsRight call answer was_set = ⊤

  -- Each poll that was not refused is ready exactly if the event was set at some moment from the wait's first poll to then.
  abbrev pub PollsAreRight : EventMachine W → List (EventCall W × Answer ℕ W) → Type 0
  PollsAreRight first [] = ⊤
  PollsAreRight first (entry ∷ history) =
      PollIsRight entry.0 entry.1 (λ name. was_set_since_first_poll name first (entry ∷ history)) × PollsAreRight first history

  -- whom a call concerns
  abbrev pub subject : EventCall W → Subject W
  subject (Poll slot waker) = Polling slot.0 waker
  subject (Cancel slot) = Cancelling slot.0
  subject call = Other

  -- The waker of a pending wait's last poll is registered, or stands in out beside its name, or was handed out since.
  abbrev pub WakersAreKept : EventMachine W → List (EventCall W × Answer ℕ W) → EventMachine W → Type 0
  WakersAreKept first history state = KeepsWakers (λ entry. on_wakers (subject entry.0) entry.1) first.waiting history state.waiting

  -- What holds of a first state, the history since, and the state now.
  pub record HistoryHolds (first : EventMachine W) (history : List (EventCall W × Answer ℕ W)) (state : EventMachine W) : Type 0 where
    pub flag : flag_after first history ≡ state.own
    pub phases : (name : ℕ) → was_set_since_first_poll name first history ≡ seen_by (phase_at state name)
    pub polls : PollsAreRight first history
    pub wakers : WakersAreKept first history state
