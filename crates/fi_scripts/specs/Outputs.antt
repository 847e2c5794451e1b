-- What is on its way to a writer.
use Rattle.std.specs.Prelude.{◌≡◌, ℕ, List, ◌++◌, Option, Some, None}
use Rattle.std.specs.Io.KnownBytes.{Appends, append_known}
use Rattle.fi_scripts.specs.declared.output.Output.{Output}

-- what the writer holds, and then what was collected
abbrev pub on_its_way : {W : Type 0} → (W → Option (List ℕ)) → Output W → Option (List ℕ)
on_its_way contents output = append_known (contents output.writer.now) output.collected.now.items

-- The output goes on with a text; without a text it can't.
abbrev pub GoesOn : {W : Type 0} → (W → Option (List ℕ)) → Output W → Output W → Option (List ℕ) → Type 0
GoesOn contents old new None = ⊥
GoesOn contents old new (Some text) = Appends (on_its_way contents old) (on_its_way contents new) text

-- It goes on with some text of which this holds.
abbrev pub Tells : {W : Type 0} → (W → Option (List ℕ)) → Output W → Output W → (List ℕ → Type 0) → Type 0
Tells contents old new holds = (text : List ℕ) × holds text × GoesOn contents old new (Some text)

-- It is on its way to the same writer.
abbrev pub SameWriter : {W : Type 0} → Output W → Output W → Type 0
SameWriter old new = new.writer.ghost_name ≡ old.writer.ghost_name

-- Nothing was written, and what is collected only grew.
abbrev pub Collects : {W : Type 0} → Output W → Output W → Type 0
Collects old new = (new.writer ≡ old.writer)
    × (more : List ℕ) × (new.collected.now.items ≡ old.collected.now.items ++ more)
