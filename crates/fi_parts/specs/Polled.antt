-- Who may be polled, and what a poll leaves behind.
use Rattle.std.specs.Prelude.{◌≡◌, ℕ, Bool, true, false, Option, Some, None}
use Rattle.futures.specs.declared.task.Poll.{Poll}
use Rattle.futures.specs.declared.task.Poll.TheVariants.{Ready, Pending}
use Rattle.fi_parts.specs.declared.phase.Phase.{Phase}
use Rattle.fi_parts.specs.declared.phase.Phase.TheVariants.{Fresh, Registered, Told, Complete}
use Rattle.fi_parts.specs.declared.phase.NotPolled.{NotPolled}
use Rattle.fi_parts.specs.declared.phase.NotPolled.TheVariants.{NoFuture, WouldWait}

-- A future outside its primitive: its name there, and whether it was polled to its end.
pub record LocalFuture : Type 0 where
  pub name : ℕ
  pub has_ended : Bool

abbrev pub is_ready : {A : Type 0} → Poll A → Bool
is_ready (Ready x) = true
is_ready Pending = false

-- the waker of a poll, where the poll did not register it
abbrev pub unused_after : {A W : Type 0} → Poll A → W → Option W
unused_after (Ready x) waker = Some waker
unused_after Pending waker = None

-- Whether a poll would be ready: it would be if this is true, and else it would wait, whatever its waker is.
abbrev pub WouldBeReady : {A S W : Type 0} → (W → Poll A → S → Type 0) → Bool → Type 0
WouldBeReady {A} {S} {W} polls is_ready_now =
    (waker : W) (answer : Poll A) (new : S) → polls waker answer new → is_ready answer ≡ is_ready_now

-- Why a poll with this waker was refused: no future could be polled, or it would have had to wait, which was not allowed.
abbrev pub IsRefused : {W : Type 0} → NotPolled W → W → (pollable may_wait : Bool) → (waits : Type 0) → Type 0
IsRefused (NoFuture back) waker pollable may_wait waits = (back ≡ waker) × (pollable ≡ false)
IsRefused (WouldWait back) waker pollable may_wait waits = (back ≡ waker) × (pollable ≡ true) × (may_wait ≡ false) × waits

-- A cancel where the future lives, which leaves the waker that it had; else nothing changes, and nothing is left.
abbrev pub LeavesWhere : {S W : Type 0} → Bool → Type 0 → Option W → S → Option W → S → Type 0
LeavesWhere true cancels had old left new = cancels × (left ≡ had)
LeavesWhere false cancels had old left new = (new ≡ old) × (left ≡ None)

-- a poll may be made: the future lives and has not ended
abbrev pub can_be_polled : {W : Type 0} → Option (Phase W) → Bool
can_be_polled (Some Fresh) = true
can_be_polled (Some (Registered waker)) = true
can_be_polled (Some Told) = true
can_be_polled phase = false

-- the phases of a future that is told what it waited for: none is complete
abbrev pub is_wait_phase : {W : Type 0} → Option (Phase W) → Bool
is_wait_phase (Some Complete) = false
is_wait_phase phase = true
