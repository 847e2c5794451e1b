-- What a history of a timer says. A history is a list of calls with their answers, the newest first, since some first state.
use Rattle.std.specs.Prelude.{◌≡◌, ◌<◌, ⊤, ℕ, ◌==◌, true, if◌then◌else◌, Option, Some, None, List, [], ◌∷◌}
use Rattle.fi_parts.specs.declared.phase.Phase.{Phase}
use Rattle.fi_parts.specs.declared.phase.Phase.TheVariants.{Fresh, Registered}
use Rattle.fi_parts.specs.Deadlines.{expiry_of}
use Rattle.fi_parts.specs.Machine.{phase_at}
use Rattle.fi_parts.specs.Waiting.{is_registered}
use Rattle.fi_parts.specs.WakerHistory.{KeepsWakers}
use Rattle.fi_locks.specs.Timer.{TimerMachine}
use Rattle.fi_run.specs.declared.answer.Answer.{Answer}
use Rattle.fi_run.specs.declared.answer.Answer.TheVariants.{Made, Pending, Done, Refused}
use Rattle.fi_run.specs.declared.timer.TimerCall.{TimerCall}
use Rattle.fi_run.specs.declared.timer.TimerCall.TheVariants.{Deadline, Delay, Poll, Cancel, Check}
use Rattle.fi_run.specs.WakerChanges.{Subject, on_wakers}
use Rattle.fi_run.specs.WakerChanges.Subject.{Polling, Cancelling, Other}

-- a first poll at this moment; a later one adds nothing
abbrev pub first_polled : ℕ → Option (List ℕ) → Option (List ℕ)
first_polled now None = Some (now ∷ [])
first_polled now (Some moments) = Some moments

-- a check at this moment
abbrev pub checked : ℕ → Option (List ℕ) → Option (List ℕ)
checked now None = None
checked now (Some moments) = Some (now ∷ moments)

-- A future that waited in the first state was polled before it; that poll's moment is not known.
abbrev pub moments_at_first : {W : Type 0} → Option (Phase W) → Option (List ℕ)
moments_at_first (Some Fresh) = None
moments_at_first None = None
moments_at_first phase = Some []

-- each of these moments is before this expiry
abbrev pub AllBefore : ℕ → List ℕ → Type 0
AllBefore expiry [] = ⊤
AllBefore expiry (moment ∷ moments) = (moment < expiry) × AllBefore expiry moments

-- It was polled, and each of these moments is before this expiry.
abbrev pub IsLater : ℕ → Option (List ℕ) → Type 0
IsLater expiry None = ⊥
IsLater expiry (Some moments) = AllBefore expiry moments

module _ {W : Type 0} where
  abbrev pub moments_step : ℕ → TimerCall W → Answer ℕ W → Option (List ℕ) → Option (List ℕ)
  moments_step name call (Refused fault) moments = moments
  moments_step name (Deadline expiry) (Made slot) moments = if slot.0 == name then None else moments
  moments_step name (Delay now delay) (Made slot) moments = if slot.0 == name then None else moments
  moments_step name (Poll slot now waker) Pending moments = if slot.0 == name then first_polled now moments else moments
  moments_step name (Cancel slot) Done moments = if slot.0 == name then None else moments
  moments_step name (Check now) Done moments = checked now moments
  moments_step name call answer moments = moments

  -- The moment of the first pending poll of this future, and of each check since, the newest first; None: it was not polled yet.
  abbrev pub moments_since_first_poll : ℕ → TimerMachine W → List (TimerCall W × Answer ℕ W) → Option (List ℕ)
  moments_since_first_poll name first [] = moments_at_first (phase_at first name)
  moments_since_first_poll name first (entry ∷ history) = moments_step name entry.0 entry.1 (moments_since_first_poll name first history)

  -- The expiry of each registered future is later than the moment of its first poll and of every check since.
  abbrev pub ExpiriesAreLater : TimerMachine W → List (TimerCall W × Answer ℕ W) → TimerMachine W → Type 0
  ExpiriesAreLater first history state = (name : ℕ) → is_registered (phase_at state name) ≡ true →
      IsLater (expiry_of state.waiting.side name) (moments_since_first_poll name first history)

  -- whom a call concerns
  abbrev pub subject : TimerCall W → Subject W
  subject (Poll slot now waker) = Polling slot.0 waker
  subject (Cancel slot) = Cancelling slot.0
  subject call = Other

  -- The waker of a pending future's last poll is registered, or stands in out beside its name, or was handed out since.
  abbrev pub WakersAreKept : TimerMachine W → List (TimerCall W × Answer ℕ W) → TimerMachine W → Type 0
  WakersAreKept first history state = KeepsWakers (λ entry. on_wakers (subject entry.0) entry.1) first.waiting history state.waiting

  -- What a future's phase says of the moments of its first poll and of the checks since.
  abbrev pub PhaseSays : Option (Phase W) → ℕ → Option (List ℕ) → Type 0
  PhaseSays (Some Fresh) expiry moments = moments ≡ None
  PhaseSays (Some (Registered waker)) expiry moments = IsLater expiry moments
  PhaseSays phase expiry moments = ⊤

  -- What holds of a first state, the history since, and the state now.
  pub record HistoryHolds (first : TimerMachine W) (history : List (TimerCall W × Answer ℕ W)) (state : TimerMachine W) : Type 0 where
    pub moments : (name : ℕ) → PhaseSays (phase_at state name) (expiry_of state.waiting.side name)
        (moments_since_first_poll name first history)
    pub wakers : WakersAreKept first history state
