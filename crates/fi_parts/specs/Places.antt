-- Which phases have a place in the queue.
use Rattle.std.specs.Prelude.{Bool, true, false, Option, Some}
use Rattle.fi_parts.specs.declared.phase.Phase.{Phase}
use Rattle.fi_parts.specs.declared.phase.Phase.TheVariants.{Told}

abbrev pub is_told : {W : Type 0} → Option (Phase W) → Bool
is_told (Some Told) = true
is_told phase = false

-- no future has a place: there is no queue
abbrev pub never_queued : {W : Type 0} → Option (Phase W) → Bool
never_queued phase = false
