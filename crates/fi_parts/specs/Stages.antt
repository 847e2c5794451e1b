-- How far futures are, and who stands in a queue.
use Rattle.std.specs.Prelude.{◌≡◌, ℕ, ◌++◌, List, map}
use Rattle.fi_parts.specs.declared.errors.Slot.{Slot}
use Rattle.fi_parts.specs.declared.phase.Phase.{Phase}
use Rattle.fi_parts.specs.declared.phase.Phase.TheVariants.{Fresh, Registered, Told, Complete, Ended}
use Rattle.fi_parts.specs.declared.phase.Stage.{Stage}
use Rattle.fi_parts.specs.declared.phase.Stage.TheVariants as stages

abbrev pub stage_of : {W : Type 0} → Phase W → Stage
stage_of Fresh = stages.Fresh
stage_of (Registered waker) = stages.Registered
stage_of Told = stages.Notified
stage_of Complete = stages.Complete
stage_of Ended = stages.Ended

abbrev pub numbers_of : List Slot → List ℕ
numbers_of slots = map (λ (slot : Slot). slot.0) slots

-- behind the old slots stand those of this queue, in its order
abbrev pub AppendsQueue : List ℕ → List Slot → List Slot → Type 0
AppendsQueue queue old new = numbers_of new ≡ numbers_of old ++ queue
