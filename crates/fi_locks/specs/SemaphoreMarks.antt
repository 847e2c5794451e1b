-- Where the telling rounds of a semaphore go on.
use Rattle.std.specs.Prelude.{◌≡◌, ◌+◌, ◌-◌, ◌≤◌, ◌<◌, ◌&&◌, ⊤, ℕ, Bool, true, false, Option, List, [], ◌∷◌, ◌++◌, sum_by, MatchOption}
use Rattle.fi_parts.specs.declared.errors.Slot.{Slot}
use Rattle.fi_parts.specs.Order.{without}
use Rattle.fi_parts.specs.Places.{is_told}
use Rattle.fi_parts.specs.Waiting.{Waiters, Waiting, phase_of, front_told}
use Rattle.fi_locks.specs.declared.semaphore.Marks.{Marks}
use Rattle.fi_locks.specs.Semaphore.{Permits, SemaphoreMachine, need_of, Tells}
use Rattle.fi_locks.specs.ToldFutures.{IsToldFront}

-- this is the first of the list, or the list is empty
abbrev pub IsFirst : Option Slot → List ℕ → Type 0
IsFirst first names = MatchOption first (names ≡ []) (λ slot. (later : List ℕ) × (names ≡ slot.0 ∷ later))

-- what is promised once this need is promised no longer, if it was
abbrev pub left_promised : Bool → ℕ → ℕ → ℕ
left_promised true promised need = promised - need
left_promised false promised need = promised

module _ {W : Type 0} where
  -- Those told are a front of the queue and need together what is promised, which is free; this is the oldest that is not told.
  pub record MarksFair (free promised : ℕ) (untold : Option Slot) (side : Waiters ℕ W) : Type 0 where
    pub told : List ℕ
    pub rest : List ℕ
    pub front : IsToldFront side told rest
    pub sums : sum_by (need_of side) told ≡ promised
    pub fits : promised ≤ free
    pub first : IsFirst untold rest

  -- in an unfair semaphore, whose told futures are not queued, nothing is marked
  abbrev pub MarksIf : Bool → ℕ → ℕ → Option Slot → Waiters ℕ W → Type 0
  MarksIf true free promised untold side = MarksFair free promised untold side
  MarksIf false free promised untold side = promised ≡ 0

  abbrev pub IsMarked : Permits → Marks → Waiters ℕ W → Type 0
  IsMarked permits marks side = MarksIf permits.is_fair permits.free marks.promised marks.untold side

  -- the same of all but this name, which is about to leave the queue
  pub record MarksWithout (name free promised : ℕ) (untold : Option Slot) (side : Waiters ℕ W) : Type 0 where
    pub told : List ℕ
    pub rest : List ℕ
    pub front : IsToldFront side told rest
    pub sums : sum_by (need_of side) (without name told) ≡ promised
    pub fits : promised ≤ free
    pub first : IsFirst untold (without name rest)

  -- what is promised once a future of this name has left
  abbrev pub promised_without : Bool → ℕ → Waiters ℕ W → ℕ → ℕ
  promised_without is_fair promised side name =
      left_promised (is_fair && is_told (phase_of side name)) promised (need_of side name)

  abbrev pub MarksWithoutIf : Bool → ℕ → ℕ → ℕ → Option Slot → Waiters ℕ W → Type 0
  MarksWithoutIf true name free promised untold side = MarksWithout name free promised untold side
  MarksWithoutIf false name free promised untold side = promised ≡ 0

  -- How far a telling round has come: this front was told, its needs were taken from what is free, and this one is next.
  pub record Walk (keeps : Bool) (free : ℕ) (start now : Waiting ℕ W) (available : ℕ) (next : Option Slot) : Type 0 where
    pub front : List ℕ
    pub rest : List ℕ
    pub split : start.side.queue ≡ front ++ rest
    pub told : now ≡ front_told keeps start front rest
    pub left : sum_by (need_of start.side) front + available ≡ free
    pub at : IsFirst next rest

  -- nobody is next, or one who needs more than what is left
  abbrev pub IsStopped : Waiters ℕ W → ℕ → Option Slot → Type 0
  IsStopped side available next = MatchOption next ⊤ (λ slot. available < need_of side slot.0)

  -- a telling round, or none
  abbrev pub TellsIf : Bool → SemaphoreMachine W → SemaphoreMachine W → Type 0
  TellsIf true old new = Tells old new
  TellsIf false old new = new ≡ old
