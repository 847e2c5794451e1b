-- A poll of a machine's future, which is cancelled at once where it is ready.
use Rattle.std.specs.Prelude.{◌≡◌, ◌&&◌, ℕ, Bool, true, false, None, is_some}
use Rattle.futures.specs.declared.task.Poll.{Poll}
use Rattle.fi_parts.specs.Machine.{Machine, phase_at, displaced_at}
use Rattle.fi_parts.specs.Polled.{is_ready}

module _ {S D W : Type 0} where
  -- Where this is true, the future of this name, which lives, is cancelled, which leaves no waker; else nothing more happens.
  abbrev pub IsLeftIf : Bool → (Machine S D W → ℕ → Machine S D W → Type 0) → ℕ → Machine S D W → Machine S D W → Type 0
  IsLeftIf true cancels name old new =
      (is_some (phase_at old name) ≡ true) × cancels old name new × (displaced_at old name ≡ None)
  IsLeftIf false cancels name old new = new ≡ old

  -- A poll, and then a cancel if the poll was ready and its future is to leave.
  abbrev pub PollsAndLeaves : {A : Type 0} → Bool → (Machine S D W → ℕ → W → Poll A → Machine S D W → Type 0)
      → (Machine S D W → ℕ → Machine S D W → Type 0) → Machine S D W → ℕ → W → Poll A → Machine S D W → Type 0
  PollsAndLeaves leaves polls cancels old name waker answer new =
      (mid : Machine S D W) × polls old name waker answer mid × IsLeftIf (leaves && is_ready answer) cancels name mid new
