-- A poll that may be refused is a line of its table, answered or not.
use Rattle.std.specs.Prelude.{◌≡◌, ℕ, true, Result, Ok, Err, is_some}
use Rattle.futures.specs.declared.task.Poll.{Poll}
use Rattle.futures.specs.declared.task.Poll.TheVariants.{Ready, Pending}
use Rattle.fi_parts.specs.declared.errors.Fault.{Fault}
use Rattle.fi_parts.specs.Machine.{Machine, phase_at}
use Rattle.fi_parts.specs.MachineTable.{WaiterRules, PollLine, poll_change, answered_change}
use Rattle.fi_parts.proofs.Machines.{refused_poll}
use Rattle.fi_channels.specs.Polled.{Answered}

module _ {A S D W : Type 0} (rules : WaiterRules S D W) (old : Machine S D W) (name : ℕ) (waker : W) (new : Machine S D W)
    (Polled : Poll A → Machine S D W → Type 0) (Refused : Fault → Machine S D W → Type 0) where
  pub answered : ((answer : Poll A) → Polled answer new → PollLine rules name (poll_change name waker answer) old new) →
      ((fault : Fault) → Refused fault new → (new ≡ old) × (is_some (phase_at old name) ≡ true)) →
      (answer : Poll (Result A Fault)) → Answered Polled Refused answer new →
      PollLine rules name (answered_change name waker answer) old new
  answered polled refused (Ready (Ok x)) did = polled (Ready x) did
  answered polled refused (Ready (Err fault)) did = let same = refused fault did in refused_poll rules name old new same.0 same.1
  answered polled refused Pending did = polled Pending did
