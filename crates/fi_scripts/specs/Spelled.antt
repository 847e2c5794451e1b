-- What a line spells.
use Rattle.std.specs.Prelude.{◌≡◌, ◌≢◌, ⊤, ℕ, List, Option, None, Some}
use Rattle.fi_scripts.specs.Cuts.{IsCut}
use Rattle.fi_scripts.specs.Labels.{IsLabel, code_of}
use Rattle.fi_scripts.specs.Lines.{HasWords, Fit, numerals}
use Rattle.fi_scripts.specs.declared.label.Label.{Label}
use Rattle.fi_run.specs.declared.script.row.Numbers.{Numbers}
use Rattle.fi_run.specs.declared.script.verb.Verb.{Verb}
use Rattle.fi_scripts.specs.declared.words.Words.{Words}

-- the label that a word spells
abbrev pub IsLabelOf : Option (List ℕ) → Option Label → Type 0
IsLabelOf None None = ⊤
IsLabelOf (Some word) (Some label) = IsLabel word × (label.code ≡ code_of word)
IsLabelOf word label = ⊥

abbrev pub IsSpelled : List ℕ → Words → Type 0
IsSpelled line words =
    (label : Option (List ℕ)) × HasWords line words.verb label words.numbers × IsLabelOf label words.label

abbrev pub IsNotSpelled : List ℕ → Type 0
IsNotSpelled line = (verb : Verb) (label : Option (List ℕ)) (numbers : Numbers) → HasWords line verb label numbers → ⊥

-- The text is neither a numeral of 64 bits nor two of them with a space between.
abbrev pub IsNoNumerals : List ℕ → Type 0
IsNoNumerals text = (numbers : Numbers) → Fit numbers → Some text ≢ numerals numbers

-- The text is a label of this code, and after one space what stands behind it.
abbrev pub LabelBegins : List ℕ → ℕ → Option (List ℕ) → Type 0
LabelBegins text code rest = (word : List ℕ) × IsCut 32 text word rest × IsLabel word × (code ≡ code_of word)
