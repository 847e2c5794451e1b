-- What one line does.
use Rattle.std.specs.Prelude.{◌≡◌, ◌⊎◌, ⊤, ℕ, Bool, true, false, List, [], ◌∷◌, ◌++◌, ◌+◌, length, Option, None, Some, codes}
use Rattle.fi_scripts.specs.Cuts.{NextLine}
use Rattle.fi_scripts.specs.Language.{Spoken}
use Rattle.fi_scripts.specs.Lines.{Labels, NoLabels, LabelsAfter, HoldsLine, StandsFor, IsBad}
use Rattle.fi_scripts.specs.Texts.{answer_text, wakes_text}
use Rattle.fi_scripts.specs.declared.fault.ScriptFault.{ScriptFault}
use Rattle.fi_scripts.specs.declared.fault.ScriptFault.TheVariants.{Read, Write, BadLine, NoMemory}
use Rattle.fi_run.specs.declared.script.row.Row.{Row}
use Rattle.fi_run.specs.declared.answer.Answer.{Answer}
use Rattle.fi_run.specs.declared.answer.Answer.TheVariants.{Done}

-- Why not all lines were answered: one was refused, by its number, or memory was. A fault of reading is no reason.
abbrev pub IfStopped : (ℕ → Type 0) → Type 0 → ScriptFault → Type 0
IfStopped bad short Read = ⊥
IfStopped bad short Write = ⊤
IfStopped bad short (BadLine line) = bad line
IfStopped bad short NoMemory = short

-- These are the next lines, in order, and this is left behind them.
unfoldable pub LinesAre : Option (List ℕ) → List (List ℕ) → Option (List ℕ) → Type 0
LinesAre rest [] left = left ≡ rest
LinesAre rest (line ∷ lines) left =
    (after : Option (List ℕ)) × NextLine rest (Some line) after × LinesAre after lines left

-- a whole line of output: an answer's text, if it has one, with the wakers behind it
abbrev pub line_text : Option (List ℕ) → List ℕ → Option (List ℕ)
line_text None wakes = None
line_text (Some text) wakes = Some (text ++ wakes ++ 10 ∷ [])

-- Of a primitive, as scripts speak of it.
module _ {S O C : Type 0} (primitive : Spoken S O C) where
  -- A line with these labels in use was answered: with `ok` where it is `wakes`, else with the answer of the call that
  -- it stands for.
  -- Nothing else was called, but for the wakers.
  abbrev pub Calls : List ℕ → Bool → Labels → S → Answer ℕ ℕ → Labels → S → Type 0
  Calls line holds labels old answer after new =
      ((line ≡ codes "wakes") × (holds ≡ false) × (answer ≡ Done) × (new ≡ old) × (after ≡ labels))
      ⊎ ((own : List ℕ) × (row : Row) × (label : Option (List ℕ)) × (call : C) × HoldsLine holds line own
      × StandsFor primitive.call_of labels own row label call × primitive.step old call answer new
      × LabelsAfter row label answer labels after)

  -- The text of a line that is held has no wakers, which stay; that of another has all of them, and none is left.
  abbrev pub TellsWakers : Bool → S → Answer ℕ ℕ → S → List ℕ → Type 0
  TellsWakers true called answer new text = (new ≡ called) × (line_text (answer_text answer) [] ≡ Some text)
  TellsWakers false called answer new text =
      (primitive.outgoing.wakers new ≡ [])
      × (primitive.outgoing.without_wakers new ≡ primitive.outgoing.without_wakers called)
      × (line_text (answer_text answer) (wakes_text true (primitive.outgoing.wakers called)) ≡ Some text)

  pub record AnswersLine (line : List ℕ) (labels : Labels) (old : S) (after : Labels) (new : S) (text : List ℕ) : Type 0
    where
      pub holds : Bool
      pub answer : Answer ℕ ℕ
      pub called : S
      pub calls : Calls line holds labels old answer after called
      pub tells : TellsWakers holds called answer new text

  -- These lines were answered in order, with this text.
  unfoldable pub AnswersLines : List (List ℕ) → Labels → S → Labels → S → List ℕ → Type 0
  AnswersLines [] labels old after new text = (after ≡ labels) × (new ≡ old) × (text ≡ [])
  AnswersLines (line ∷ lines) labels old after new text =
      (between : S) × (later : Labels) × (front : List ℕ) × (rest : List ℕ)
      × AnswersLine line labels old later between front × AnswersLines lines later between after new rest
      × (text ≡ front ++ rest)

  -- A primitive was opened, as this says, with no label in use, and answered the first of the lines that are left of a script.
  pub record AnswersBeginning (asked : O → Type 0) (rest : Option (List ℕ)) (text : List ℕ) : Type 0 where
    pub opening : O
    pub as_asked : asked opening
    pub first : S
    pub last : S
    pub labels : Labels
    pub after : Labels
    pub lines : List (List ℕ)
    pub end : Option (List ℕ)
    pub opened : primitive.opens opening first
    pub no_labels : NoLabels labels
    pub are : LinesAre rest lines end
    pub answered : AnswersLines lines labels first after last text

  -- It answered them all.
  pub record AnswersRest (asked : O → Type 0) (rest : Option (List ℕ)) (text : List ℕ) : Type 0 where
    pub beginning : AnswersBeginning asked rest text
    pub ended : NextLine beginning.end None beginning.end

  -- It answered those before the line of this number, which stands for no call; the first of them has the number 2.
  pub record AnswersFront (asked : O → Type 0) (rest : Option (List ℕ)) (number : ℕ) (text : List ℕ) : Type 0 where
    pub beginning : AnswersBeginning asked rest text
    pub bad : List ℕ
    pub later : Option (List ℕ)
    pub next : NextLine beginning.end (Some bad) later
    pub is_bad : IsBad primitive.call_of beginning.after bad
    pub number_is : number ≡ length beginning.lines + 2

  -- It was refused before the first of these lines, as nothing was asked for, or at one of them.
  abbrev pub RefusesLine : (O → Type 0) → Option (List ℕ) → ℕ → List ℕ → Type 0
  RefusesLine asked rest number text =
      ((number ≡ 1) × (text ≡ []) × ((opening : O) → asked opening → ⊥)) ⊎ AnswersFront asked rest number text

  -- Memory was refused before the primitive was opened, or after it had answered the first of these lines.
  abbrev pub RunsShort : (O → Type 0) → Option (List ℕ) → List ℕ → Type 0
  RunsShort asked rest text = (text ≡ []) ⊎ AnswersBeginning asked rest text
