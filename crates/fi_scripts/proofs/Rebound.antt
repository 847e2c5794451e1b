-- Labels after a store or a removal.
use Rattle.std.proofs.Common.{◌≡◌, ℕ, List, subst}
use Rattle.std.specs.Prelude.{Option, None, Some}
use Rattle.fi_parts.specs.declared.errors.Slot.{Slot}
use Rattle.fi_run.specs.declared.answer.Answer.{Answer}
use Rattle.fi_run.specs.declared.answer.Answer.TheVariants.{Made}
use Rattle.fi_scripts.specs.InUse.{labels_of}
use Rattle.fi_scripts.specs.Labels.{IsLabel, code_of}
use Rattle.fi_scripts.specs.Lines.{Rebinds, LabelsAfter}
use Rattle.fi_scripts.specs.Spelled.{IsLabelOf}
use Rattle.fi_scripts.specs.Standing.{standing}
use Rattle.fi_scripts.specs.Stored.{Stores}
use Rattle.fi_scripts.specs.declared.label.Label.{Label}
use Rattle.fi_scripts.specs.declared.labelled.Labelled.{Labelled}
use Rattle.fi_run.specs.declared.script.row.Numbers.{Numbers}
use Rattle.fi_run.specs.declared.script.row.MadeFuture.{MadeFuture}
use Rattle.fi_run.specs.declared.script.row.Row.{Row}
use Rattle.fi_run.specs.declared.script.row.Row.TheVariants.{Make, Cancel}
use Rattle.fi_run.specs.declared.script.verb.Verb.{Verb}
use Rattle.fi_scripts.proofs.Labels.{one_word}

rebinds : (word : List ℕ) (future : Option MadeFuture) (code : ℕ) (old new : Labelled MadeFuture) → IsLabel word
    → code ≡ code_of word → Stores code future (standing old) (standing new)
    → Rebinds word future (labels_of old) (labels_of new)
rebinds word future code old new label is stores =
    let here : Stores (code_of word) future (standing old) (standing new) = subst
    (λ c. Stores c future (standing old) (standing new)) is stores in
    (here.here, λ other label' apart. here.elsewhere (code_of other) (λ same. apart (one_word other word label' label same)))

module _ (old new : Labelled MadeFuture) (label : Option Label) (l : Label) (is : label ≡ Some l) where
  pub bound : (slot : Slot) (row : Row) (verb : Verb) (numbers : Numbers) (answer : Answer ℕ ℕ)
      → row ≡ Make verb numbers → answer ≡ Made slot
      → Stores l.code (Some (record { verb = verb; slot = slot })) (standing old) (standing new)
      → (word : Option (List ℕ)) → IsLabelOf word label → LabelsAfter row word answer (labels_of old) (labels_of new)
  bound slot row verb numbers answer is_row is_answer stores None labelled =
      absurd (subst (λ (o : Option Label). IsLabelOf None o) is labelled)
  bound slot row verb numbers answer is_row is_answer stores (Some word) labelled =
      let it = subst (λ (o : Option Label). IsLabelOf (Some word) o) is labelled in
      rw (is_row, is_answer) (rebinds word (Some (record { verb = verb; slot = slot })) l.code old new it.0 it.1 stores)

  pub unbound : (future : MadeFuture) (row : Row) (numbers : Numbers) (answer : Answer ℕ ℕ) → row ≡ Cancel future numbers
      → Stores l.code None (standing old) (standing new)
      → (word : Option (List ℕ)) → IsLabelOf word label → LabelsAfter row word answer (labels_of old) (labels_of new)
  unbound future row numbers answer is_row stores None labelled =
      absurd (subst (λ (o : Option Label). IsLabelOf None o) is labelled)
  unbound future row numbers answer is_row stores (Some word) labelled =
      let it = subst (λ (o : Option Label). IsLabelOf (Some word) o) is labelled in
      rw is_row (rebinds word None l.code old new it.0 it.1 stores)
