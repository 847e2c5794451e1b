-- What a line of calls stands for.
use Rattle.std.specs.Prelude.{◌≡◌, ◌≢◌, ⊤, ℕ, Bool, true, false, List, ◌∷◌, ◌++◌, Option, None, Some, IfSome, codes, ◌<◌, ◌^◌}
use Rattle.std.specs.Fmt.{decimal}
use Rattle.fi_run.specs.declared.answer.Answer.{Answer}
use Rattle.fi_run.specs.declared.answer.Answer.TheVariants.{Made}
use Rattle.fi_run.specs.Rows.{labelled_row}
use Rattle.fi_run.specs.Verbs.{verb_text}
use Rattle.fi_run.specs.declared.script.row.Numbers.{Numbers}
use Rattle.fi_run.specs.declared.script.row.Numbers.TheVariants.{Absent, One, Two}
use Rattle.fi_run.specs.declared.script.row.MadeFuture.{MadeFuture}
use Rattle.fi_run.specs.declared.script.row.Row.{Row}
use Rattle.fi_run.specs.declared.script.row.Row.TheVariants as row
use Rattle.fi_run.specs.declared.script.verb.Verb.{Verb}
use Rattle.fi_scripts.specs.Labels.{IsLabel}

-- a word, and after one space what stands behind it
abbrev pub joined : List ℕ → Option (List ℕ) → List ℕ
joined word None = word
joined word (Some rest) = word ++ 32 ∷ rest

-- numbers in plain decimal, with a space between two, if there are any
abbrev pub numerals : Numbers → Option (List ℕ)
numerals Absent = None
numerals (One number) = Some (decimal number)
numerals (Two first second) = Some (joined (decimal first) (Some (decimal second)))

-- each has at most 64 bits
abbrev pub Fit : Numbers → Type 0
Fit Absent = ⊤
Fit (One number) = number < 2 ^ 64
Fit (Two first second) = (first < 2 ^ 64) × (second < 2 ^ 64)

-- the words after a verb
abbrev pub words_after : Option (List ℕ) → Numbers → Option (List ℕ)
words_after None numbers = numerals numbers
words_after (Some label) numbers = Some (joined label (numerals numbers))

-- The line is a verb, then a label if it has one, then numbers of 64 bits if it has any.
pub record HasWords (line : List ℕ) (verb : Verb) (label : Option (List ℕ)) (numbers : Numbers) : Type 0 where
  pub text : line ≡ joined (verb_text verb) (words_after label numbers)
  pub label_is : IfSome label IsLabel
  pub numbers_fit : Fit numbers

-- The futures that the labels in use stand for.
abbrev pub Labels : Type 0
Labels = List ℕ → Option MadeFuture

-- no label is in use
abbrev pub NoLabels : Labels → Type 0
NoLabels labels = (word : List ℕ) → labels word ≡ None

-- The label stands for this future, or is free, from now on; the others stay.
abbrev pub Rebinds : List ℕ → Option MadeFuture → Labels → Labels → Type 0
Rebinds label future old new =
    (new label ≡ future) × ((other : List ℕ) → IsLabel other → other ≢ label → new other ≡ old other)

-- what a line of these words asks for
abbrev pub row_of : Labels → Verb → Option (List ℕ) → Numbers → Option Row
row_of labels verb None numbers = Some (row.Plain verb numbers)
row_of labels verb (Some label) numbers = labelled_row verb numbers (labels label)

-- A label is in use from the making of its future until its cancel, and keeps the verb that made it.
abbrev pub LabelsAfter : Row → Option (List ℕ) → Answer ℕ ℕ → Labels → Labels → Type 0
LabelsAfter (row.Make verb numbers) (Some label) (Made slot) old new =
    Rebinds label (Some (record { verb = verb; slot = slot })) old new
LabelsAfter (row.Cancel future numbers) (Some label) answer old new = Rebinds label None old new
LabelsAfter row label answer old new = new ≡ old

-- The line as a whole, or what follows `hold` in it.
abbrev pub HoldsLine : Bool → List ℕ → List ℕ → Type 0
HoldsLine true line call = line ≡ joined (codes "hold") (Some call)
HoldsLine false line call = line ≡ call

-- Of a primitive with these calls for rows.
module _ {C : Type 0} (call_of : Row → Option C) where
  -- The line stands for this call, where these labels are in use.
  pub record StandsFor (labels : Labels) (line : List ℕ) (row : Row) (label : Option (List ℕ)) (call : C) : Type 0 where
    pub verb : Verb
    pub numbers : Numbers
    pub words : HasWords line verb label numbers
    pub row_is : row_of labels verb label numbers ≡ Some row
    pub call_is : call_of row ≡ Some call

  -- It stands for no call.
  abbrev pub IsNoCall : Labels → List ℕ → Type 0
  IsNoCall labels line = (row : Row) (label : Option (List ℕ)) (call : C) → StandsFor labels line row label call → ⊥

  -- It is no line of a script: it is not `wakes`, and no call, held or not.
  pub record IsBad (labels : Labels) (line : List ℕ) : Type 0 where
    pub not_wakes : line ≢ codes "wakes"
    pub no_call : (holds : Bool) (call : List ℕ) → HoldsLine holds line call → IsNoCall labels call
