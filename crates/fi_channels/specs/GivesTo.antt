-- What a receive of a channel of one value is given, by its phase.
use Rattle.std.specs.Prelude.{◌≡◌, Option, Some, None}
use Rattle.fi_parts.specs.declared.phase.Phase.{Phase}
use Rattle.fi_parts.specs.declared.phase.Phase.TheVariants.{Fresh}
use Rattle.fi_channels.specs.declared.oneshot.content.Content.{Content}
use Rattle.fi_channels.specs.Oneshot.{Giving, GivesFrom}

-- a fresh one what a channel with this content gives, after which the channel holds what is left; any other nothing
abbrev pub GivesTo : {T W : Type 0} → Giving T → Option (Phase W) → Content T → Option T → Content T → Type 0
GivesTo giving (Some Fresh) content answer left = GivesFrom giving content answer left
GivesTo giving phase content answer left = (answer ≡ None) × (left ≡ content)
