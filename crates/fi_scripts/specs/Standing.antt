-- What stands under labels.
use Rattle.std.specs.Prelude.{ℕ, Option}
use Rattle.fi_scripts.specs.Stored.{stored}
use Rattle.fi_scripts.specs.declared.labelled.Labelled.{Labelled}

-- under a label of this code
abbrev pub standing : {V : Type 0} → Labelled V → ℕ → Option V
standing labelled = stored labelled.short.items labelled.long.items
