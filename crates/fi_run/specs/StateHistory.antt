-- What a history of a state broadcast says. A history is a list of calls with their answers, the newest first, since some first
-- state.
use Rattle.std.specs.Prelude.{◌≡◌, ⊤, ℕ, ◌==◌, ◌+◌, ◌<◌, if◌then◌else◌, Bool, true, false, Option, Some, None, List, [], ◌∷◌, length}
use Rattle.fi_parts.specs.Waiting.{asks_of}
use Rattle.fi_parts.specs.WakerHistory.{KeepsWakers}
use Rattle.fi_channels.specs.StateBroadcast.{StateMachine}
use Rattle.fi_run.specs.declared.answer.Answer.{Answer}
use Rattle.fi_run.specs.declared.answer.Answer.TheVariants.{Made, State, Done, Newly, Refused}
use Rattle.fi_run.specs.declared.state.StateCall.{StateCall}
use Rattle.fi_run.specs.declared.state.StateCall.TheVariants.{Receive, Poll, Cancel, TryReceive, Send, Close}
use Rattle.fi_run.specs.WakerChanges.{Subject, on_wakers}
use Rattle.fi_run.specs.WakerChanges.Subject.{Polling, Cancelling, Other}

module _ {T : Type 0} where
  -- the newest state after these sends, where this was the newest before
  abbrev pub newest_after : Option T → List T → Option T
  newest_after before [] = before
  newest_after before (value ∷ earlier) = Some value

  -- there is a value, and this is its clone
  abbrev pub IsCopyOf : (T → T → Type 0) → Option T → T → Type 0
  IsCopyOf is_clone None copy = ⊥
  IsCopyOf is_clone (Some value) copy = is_clone value copy

-- An open channel had no new close; one that was open at first and is closed had one. One that was closed at first is closed, and had
-- none.
abbrev pub OpenFits : Bool → Bool → ℕ → Type 0
OpenFits true true closes = closes ≡ 0
OpenFits true false closes = closes ≡ 1
OpenFits false is_open closes = (is_open ≡ false) × (closes ≡ 0)

module _ {T W : Type 0} where
  abbrev pub sends_step : StateCall T W → Answer T W → List T → List T
  sends_step call (Refused fault) before = before
  sends_step (Send value) Done before = value ∷ before
  sends_step call answer before = before

  -- the values of the sends that were accepted, the newest first
  abbrev pub sends : List (StateCall T W × Answer T W) → List T
  sends [] = []
  sends (entry ∷ history) = sends_step entry.0 entry.1 (sends history)

  abbrev pub asked_step : ℕ → StateCall T W → Answer T W → Option ℕ → Option ℕ
  asked_step name call (Refused fault) last = last
  asked_step name (Receive asked) (Made slot) last = if slot.0 == name then Some asked else last
  asked_step name call answer last = last

  -- the number that the last receive of this name was made with; if none was made since, the one that it asked for at first
  abbrev pub asked_by : StateMachine T W → ℕ → List (StateCall T W × Answer T W) → Option ℕ
  asked_by first name [] = asks_of first.waiting.side name
  asked_by first name (entry ∷ history) = asked_step name entry.0 entry.1 (asked_by first name history)

  -- After these sends since the first state, this is a clone of the newest state; its number is that of the first state and one
  -- more for each send, and greater than the one asked.
  abbrev pub IsNewest : (T → T → Type 0) → StateMachine T W → List T → Option ℕ → ℕ → T → Type 0
  IsNewest is_clone first sent None number copy = ⊥
  IsNewest is_clone first sent (Some asked) number copy =
      (number ≡ first.own.number + length sent) × (asked < number) × IsCopyOf is_clone (newest_after first.own.value sent) copy

  -- an entry that delivered a state delivered the newest, after these sends, to a receive that asked so
  abbrev pub GivesNewest : (T → T → Type 0) → StateMachine T W → List T → (ℕ → Option ℕ) → StateCall T W → Answer T W → Type 0
  GivesNewest is_clone first sent asked (Poll slot waker) (State id copy) = IsNewest is_clone first sent (asked slot.0) id copy
  GivesNewest is_clone first sent asked (TryReceive seen) (State id copy) = IsNewest is_clone first sent (Some seen) id copy
  GivesNewest is_clone first sent asked call answer = ⊤

  -- Every delivered state is the newest, and newer than the one asked for.
  abbrev pub StatesAreNewest : (T → T → Type 0) → StateMachine T W → List (StateCall T W × Answer T W) → Type 0
  StatesAreNewest is_clone first [] = ⊤
  StatesAreNewest is_clone first (entry ∷ history) =
      GivesNewest is_clone first (sends history) (λ name. asked_by first name history) entry.0 entry.1
      × StatesAreNewest is_clone first history

  abbrev pub closes_step : StateCall T W → Answer T W → ℕ → ℕ
  closes_step call (Refused fault) n = n
  closes_step Close Newly n = n + 1
  closes_step call answer n = n

  -- how many closes were answered Newly
  abbrev pub new_closes : List (StateCall T W × Answer T W) → ℕ
  new_closes [] = 0
  new_closes (entry ∷ history) = closes_step entry.0 entry.1 (new_closes history)

  -- whom a call concerns
  abbrev pub subject : StateCall T W → Subject W
  subject (Poll slot waker) = Polling slot.0 waker
  subject (Cancel slot) = Cancelling slot.0
  subject call = Other

  -- The waker of a pending receive's last poll is registered, or stands in out beside its name, or was handed out since.
  abbrev pub WakersAreKept : StateMachine T W → List (StateCall T W × Answer T W) → StateMachine T W → Type 0
  WakersAreKept first history state = KeepsWakers (λ entry. on_wakers (subject entry.0) entry.1) first.waiting history state.waiting

  -- The number is the first state's and one more for each send; the value is that of the last send.
  abbrev pub Counts : StateMachine T W → List T → StateMachine T W → Type 0
  Counts first sent state = (state.own.number ≡ first.own.number + length sent) × (state.own.value ≡ newest_after first.own.value sent)

  -- a live receive keeps the number that it was made with
  abbrev pub AsksAs : (ℕ → Option ℕ) → StateMachine T W → Type 0
  AsksAs asked state = (name number : ℕ) → asks_of state.waiting.side name ≡ Some number → asked name ≡ Some number

  -- What holds of a first state, the history since, and the state now.
  pub record HistoryHolds (is_clone : T → T → Type 0) (first : StateMachine T W) (history : List (StateCall T W × Answer T W))
      (state : StateMachine T W) : Type 0 where
    pub counts : Counts first (sends history) state
    pub is_open : OpenFits first.own.is_open state.own.is_open (new_closes history)
    pub asked : AsksAs (λ name. asked_by first name history) state
    pub states : StatesAreNewest is_clone first history
    pub wakers : WakersAreKept first history state
