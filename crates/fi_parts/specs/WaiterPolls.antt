-- What a poll does to a future: a registered one stays registered with its newest waker, a fresh one is registered unless the poll
-- ends it, and any other ends.
use Rattle.std.specs.Prelude.{◌≡◌, ⊤, ℕ, Bool, true, false, Option, Some, None}
use Rattle.futures.specs.declared.task.Poll.{Poll}
use Rattle.futures.specs.declared.task.Poll.TheVariants.{Ready, Pending}
use Rattle.fi_parts.specs.declared.phase.Phase.{Phase}
use Rattle.fi_parts.specs.declared.phase.Phase.TheVariants.{Fresh, Registered, Ended}
use Rattle.fi_parts.specs.declared.phase.PollStep.{PollStep}
use Rattle.fi_parts.specs.declared.phase.PollStep.TheVariants.{Stays, Joins, Ends as EndsWith}
use Rattle.fi_parts.specs.Waiting.{Waiters, Waiting, registered, stays, ended}
use Rattle.fi_parts.specs.Effects.{TakesEffect}
use Rattle.fi_parts.specs.Effects.WaiterEffect.{Registers, KeepsWaiting, Ends}

module _ {W : Type 0} where
  -- the phase after a poll with this waker
  abbrev pub phase_after_poll : Bool → Phase W → W → Phase W
  phase_after_poll ends (Registered before) waker = Registered waker
  phase_after_poll false Fresh waker = Registered waker
  phase_after_poll ends phase waker = Ended

  -- A poll of a future of this phase has to wait.
  abbrev pub has_to_wait : Bool → Option (Phase W) → Bool
  has_to_wait ends (Some (Registered before)) = true
  has_to_wait false (Some Fresh) = true
  has_to_wait ends phase = false

  -- what the poll did, and the waker that it hands back
  abbrev pub poll_step : Bool → Phase W → W → PollStep W
  poll_step ends (Registered before) waker = Stays before
  poll_step false Fresh waker = Joins
  poll_step ends phase waker = EndsWith waker

  -- Where the poll left its future waiting, this holds.
  abbrev pub OnWaits : PollStep W → Type 0 → Type 0
  OnWaits (EndsWith waker) Holds = ⊤
  OnWaits step Holds = Holds

module _ {D W : Type 0} where
  -- the futures after a poll of the one under this name, which had this phase
  abbrev pub waiters_after_poll : Bool → Phase W → Waiters D W → ℕ → W → Waiters D W
  waiters_after_poll ends (Registered before) side name waker = stays side name waker
  waiters_after_poll false Fresh side name waker = registered side name waker
  waiters_after_poll ends phase side name waker = ended side name

  -- A poll of the future under this name, which has this phase, and its answer.
  abbrev pub PollsWaiter : Option (Phase W) → Bool → Waiting D W → ℕ → W → Poll (Unit {0}) → Waiting D W → Type 0
  PollsWaiter (Some (Registered before)) ends old name waker answer new =
      (answer ≡ Pending) × TakesEffect (KeepsWaiting name waker) old new
  PollsWaiter (Some Fresh) false old name waker answer new = (answer ≡ Pending) × TakesEffect (Registers name waker) old new
  PollsWaiter (Some phase) ends old name waker answer new = (answer ≡ Ready tt) × TakesEffect (Ends name) old new
  PollsWaiter None ends old name waker answer new = ⊥
