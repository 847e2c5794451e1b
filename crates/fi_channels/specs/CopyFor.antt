-- What a receive of a state broadcast is given, by its phase.
use Rattle.std.specs.Prelude.{◌≡◌, ℕ, Option, Some, None}
use Rattle.fi_parts.specs.declared.phase.Phase.{Phase}
use Rattle.fi_parts.specs.declared.phase.Phase.TheVariants.{Fresh}
use Rattle.fi_channels.specs.StateBroadcast.{CopyOf}

-- a fresh one a clone of this newer state, with this number; any other nothing
abbrev pub CopyFor : {T W : Type 0} → (T → T → Type 0) → ℕ → Option (Phase W) → Option T → Option (ℕ × T) → Type 0
CopyFor is_clone number (Some Fresh) newer answer = CopyOf is_clone number newer answer
CopyFor is_clone number phase newer answer = answer ≡ None
