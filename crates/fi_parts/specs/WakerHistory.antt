-- Which wakers a history has left waiting. A history is a list of calls with their answers, the newest first.
use Rattle.std.specs.Prelude.{◌≡◌, ◌⊎◌, ℕ, ◌==◌, if◌then◌else◌, Option, Some, None, List, [], ◌∷◌}
use Rattle.fi_parts.specs.declared.phase.Phase.TheVariants.{Registered}
use Rattle.fi_parts.specs.Waiting.{Waiting, phase_of, displaced}

-- What a call with its answer is to the wakers: a poll of this name that is pending with this waker; an ending poll, a making or a
-- cancel of it; the handing out of this waker; or nothing.
pub data WakerChange (W : Type 0) : Type 0 where
  Pends : ℕ → W → WakerChange W
  Leaves : ℕ → WakerChange W
  Gives : W → WakerChange W
  NoEffect : WakerChange W

abbrev pub IsIn : {X : Type 0} → X → List X → Type 0
IsIn x [] = ⊥
IsIn x (y ∷ ys) = (y ≡ x) ⊎ IsIn x ys

module _ {W : Type 0} where
  -- the handing out of this waker, if there is one
  abbrev pub gives : Option W → WakerChange W
  gives None = NoEffect
  gives (Some waker) = Gives waker

  abbrev pub last_waker_step : ℕ → WakerChange W → Option W → Option W
  last_waker_step name (Pends other waker) last = if other == name then Some waker else last
  last_waker_step name (Leaves other) last = if other == name then None else last
  last_waker_step name on_wakers last = last

  abbrev pub handed_step : ℕ → WakerChange W → List W → List W
  handed_step name (Pends other waker) handed = if other == name then [] else handed
  handed_step name (Leaves other) handed = if other == name then [] else handed
  handed_step name (Gives waker) handed = waker ∷ handed
  handed_step name NoEffect handed = handed

  -- the wakers that were handed out since that poll (or since the future was made or cancelled)
  abbrev pub handed_since : {E : Type 0} → (E → WakerChange W) → ℕ → List E → List W
  handed_since waker_change name [] = []
  handed_since waker_change name (entry ∷ history) = handed_step name (waker_change entry) (handed_since waker_change name history)

module _ {D W : Type 0} where
  -- The waker of the last poll of this live future that was not refused, if that poll is pending; where it was not polled since
  -- the first state, the waker that it had there.
  abbrev pub last_waker : {E : Type 0} → (E → WakerChange W) → Waiting D W → ℕ → List E → Option W
  last_waker waker_change first name [] = displaced first.side first.out name
  last_waker waker_change first name (entry ∷ history) =
      last_waker_step name (waker_change entry) (last_waker waker_change first name history)

  -- this name is registered with this waker, or the waker stands in out beside it
  abbrev pub HasWaker : Waiting D W → ℕ → W → Type 0
  HasWaker waiting name waker = (phase_of waiting.side name ≡ Some (Registered waker)) ⊎ IsIn (name, waker) waiting.out

  -- The waker of a pending future's last poll is registered, or stands in out beside its name, or was handed out since.
  abbrev pub KeepsWakers : {E : Type 0} → (E → WakerChange W) → Waiting D W → List E → Waiting D W → Type 0
  KeepsWakers waker_change first history now = (name : ℕ) (waker : W) → last_waker waker_change first name history ≡ Some waker →
      HasWaker now name waker ⊎ IsIn waker (handed_since waker_change name history)
