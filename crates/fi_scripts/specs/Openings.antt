-- The openings of each primitive, in the words of first lines.
use Rattle.std.specs.Prelude.{⊤, ℕ, ◌<◌, ◌≤◌, ◌^◌, Bool, true, false, List, Option, None, Some, codes}
use Rattle.std.specs.Fmt.{decimal}
use Rattle.fi_run.specs.declared.script.row.Numbers.TheVariants.{Two}
use Rattle.fi_scripts.specs.Language.{Openings}
use Rattle.fi_scripts.specs.Lines.{joined, numerals}
use Rattle.fi_scripts.specs.declared.buffer.Buffer.{Buffer}
use Rattle.fi_scripts.specs.declared.buffer.Buffer.TheVariants.{Array0, Array1, Array2, Array5, Fixed, Growing}

-- ---- the event
abbrev pub event_text : Bool → Option (List ℕ)
event_text true = Some (codes "set")
event_text false = Some (codes "reset")

abbrev pub event_openings : Openings Bool
event_openings = record { is_nameable = λ is_set. ⊤; text = event_text }

-- ---- the channels and the timer, whose openings are one
abbrev pub only_opening : Openings (Unit {0})
only_opening = record { is_nameable = λ opening. ⊤; text = λ opening. None }

-- ---- fair and unfair primitives
abbrev pub fairness_text : Bool → List ℕ
fairness_text true = codes "fair"
fairness_text false = codes "unfair"

-- A number of 64 bits, and whether it is fair: the word comes first, then the number in plain decimal.
abbrev pub fair_openings : Openings (ℕ × Bool)
fair_openings = record {
  is_nameable = λ opening. opening.0 < 2 ^ 64;
  text = λ opening. Some (joined (fairness_text opening.1) (Some (decimal opening.0)));
}

-- ---- the worker pool
-- The limit, a number of 64 bits, and the capacity, each in plain decimal.
abbrev pub pool_openings : Openings (ℕ × ℕ)
pool_openings = record {
  is_nameable = λ opening. (opening.0 < 2 ^ 64) × (opening.1 ≤ 65536);
  text = λ opening. numerals (Two opening.0 opening.1);
}

-- ---- the channel of many values
-- the words after its name
abbrev pub buffer_text : Buffer → List ℕ
buffer_text Array0 = codes "array 0"
buffer_text Array1 = codes "array 1"
buffer_text Array2 = codes "array 2"
buffer_text Array5 = codes "array 5"
buffer_text (Fixed capacity) = joined (codes "fixed") (Some (decimal capacity))
buffer_text (Growing capacity) = joined (codes "growing") (Some (decimal capacity))

abbrev pub IsNameable : Buffer → Type 0
IsNameable (Fixed capacity) = capacity ≤ 65536
IsNameable (Growing capacity) = capacity ≤ 65536
IsNameable buffer = ⊤

abbrev pub channel_openings : Openings Buffer
channel_openings = record { is_nameable = IsNameable; text = λ buffer. Some (buffer_text buffer) }

-- Of a channel over a buffer that is known already, no words are an opening.
abbrev pub no_openings : Openings ℕ
no_openings = record { is_nameable = λ capacity. ⊥; text = λ capacity. None }
