-- What a whole script's answer is.
use Rattle.std.specs.Prelude.{◌≡◌, ◌⊎◌, ⊤, ℕ, List, [], Option, IfSome}
use Rattle.std.specs.Io.KnownBytes.{Appends}
use Rattle.fi_scripts.specs.declared.fault.ScriptFault.{ScriptFault}
use Rattle.fi_scripts.specs.declared.fault.ScriptFault.TheVariants.{Read, Write, BadLine, NoMemory}
use Rattle.fi_scripts.specs.declared.named.Named.{Named}
use Rattle.fi_scripts.specs.Answered.{AnswersRest, AnswersFront, AnswersBeginning}
use Rattle.fi_scripts.specs.Cuts.{IsCut}
use Rattle.fi_scripts.specs.Lines.{joined}
use Rattle.fi_scripts.specs.Primitives.{known, openings_of}

-- The first line is the primitive's name, and what stands after it for the opening, which is one that scripts can name.
abbrev pub IsFirst : (named : Named) → List ℕ → (known named).Opening → Type 0
IsFirst named line opening = (openings_of named).is_nameable opening
    × (line ≡ joined (known named).name ((openings_of named).text opening))

-- The first line of a script is that of an opening, and the primitive answered all other lines with this text.
pub record AnswersScript (script text : List ℕ) : Type 0 where
  pub first : List ℕ
  pub rest : Option (List ℕ)
  pub named : Named
  pub cut : IsCut 10 script first rest
  pub answered : AnswersRest (known named).spoken (IsFirst named first) rest text

-- No opening has this first line.
abbrev pub IsNoFirst : List ℕ → Type 0
IsNoFirst line = (named : Named) (opening : (known named).Opening) → IsFirst named line opening → ⊥

-- The line of this number was refused: the first one, with no text, or a later one, when those before it had been
-- answered with this text.
pub record RefusesScript (number : ℕ) (script text : List ℕ) : Type 0 where
  pub first : List ℕ
  pub rest : Option (List ℕ)
  pub cut : IsCut 10 script first rest
  pub refused : ((number ≡ 1) × (text ≡ []) × IsNoFirst first)
      ⊎ ((named : Named) × AnswersFront (known named).spoken (IsFirst named first) rest number text)

-- Memory was refused before a primitive was opened, or after it had answered the first lines with this text.
pub record StopsScript (script text : List ℕ) : Type 0 where
  pub first : List ℕ
  pub rest : Option (List ℕ)
  pub cut : IsCut 10 script first rest
  pub stopped : (text ≡ []) ⊎ ((named : Named) × AnswersBeginning (known named).spoken (IsFirst named first) rest text)

-- Why a script was not answered to its end: where reading failed, nothing was written; a line is refused by its number;
-- where memory was refused, this was written.
abbrev pub IfFault : Type 0 → (ℕ → Type 0) → Type 0 → ScriptFault → Type 0
IfFault untouched refused short Read = untouched
IfFault untouched refused short Write = ⊤
IfFault untouched refused short (BadLine number) = refused number
IfFault untouched refused short NoMemory = untouched ⊎ short

-- A script was read whole, and this of it was written.
abbrev pub Turns : Option (List ℕ) → Option (List ℕ) → Option (List ℕ) → (List ℕ → List ℕ → Type 0) → Type 0
Turns input before after answers =
    (script : List ℕ) × (text : List ℕ) × IfSome input (λ all. script ≡ all) × answers script text
    × Appends before after text
