-- What a line asks a session for.
use Rattle.std.specs.Prelude.{◌≡◌, ℕ, Bool, false, List, Option, None, Some, codes}
use Rattle.fi_scripts.specs.Lines.{Labels, LabelsAfter, StandsFor, HoldsLine}
use Rattle.fi_scripts.specs.Spelled.{IsLabelOf}
use Rattle.fi_scripts.specs.declared.requests.Request.{Request}
use Rattle.fi_run.specs.declared.script.row.Row.{Row}
use Rattle.fi_run.specs.declared.answer.Answer.{Answer}
use Rattle.fi_run.specs.declared.answer.Answer.TheVariants.{Done}

module _ {C : Type 0} (call_of : Row → Option C) where
  -- The line stands for the request's call.
  abbrev pub Requests : Labels → List ℕ → Request C → Type 0
  Requests labels line request =
      (label : Option (List ℕ)) × StandsFor call_of labels line request.row label request.call
      × IsLabelOf label request.label

  -- It asks for the wakers alone, or for a call, and may hold the wakers back.
  abbrev pub Asks : Labels → List ℕ → Bool → Option (Request C) → Type 0
  Asks labels line holds None = (line ≡ codes "wakes") × (holds ≡ false)
  Asks labels line holds (Some request) = (call : List ℕ) × HoldsLine holds line call × Requests labels call request

-- The call was made, and the labels are what it leaves of them.
abbrev pub Performs : {S C : Type 0} → (S → C → Answer ℕ ℕ → S → Type 0) → Option (Request C) → Labels → S → Answer ℕ ℕ
    → Labels → S → Type 0
Performs step None labels old answer after new = (answer ≡ Done) × (new ≡ old) × (after ≡ labels)
Performs step (Some request) labels old answer after new = step old request.call answer new
    × ((label : Option (List ℕ)) → IsLabelOf label request.label → LabelsAfter request.row label answer labels after)
