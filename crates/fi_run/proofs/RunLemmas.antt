use Rattle.std.proofs.Common.{◌≡◌, List, [], ◌∷◌, ◌++◌, map, refl, ap, sym, subst, ◌∙◌, append_assoc}
use Rattle.std.proofs.lemmas.List.{map-append}
use Rattle.fi_run.specs.Run.{IsRun, Answers, history_after}

-- a run steps on by one step
pub run_more : {S C A : Type 0} (step : S → C → A → S → Type 0) (old : S) (entries : List (C × A)) (mid : S) (call : C) (answer : A)
    (new : S) →
    IsRun step old entries mid → step mid call answer new → IsRun step old (entries ++ (call, answer) ∷ []) new
run_more {S} step old [] mid call answer new run taken =
    (new, subst (λ (s : S). step s call answer new) run taken, refl)
run_more step old (entry ∷ entries) mid call answer new run taken =
    (run.0, run.1, run_more step run.0 entries mid call answer new run.2 taken)

past_more : {E : Type 0} (entries : List E) (entry : E) (history : List E) → history_after (entries ++ entry ∷ []) history
    ≡ entry ∷ history_after entries history
past_more [] entry history = refl
past_more (e ∷ entries) entry history = past_more entries entry (e ∷ history)

-- a front of the calls steps on by one call
pub answers_more : {S C A : Type 0} (step : S → C → A → S → Type 0) (history_invariant : S → List (C × A) → S → Type 0) (old : S)
    (calls : List C) (before after : List A) (mid : S) (call : C) (answer : A) (new : S) →
    ((first : S) (history : List (C × A)) → history_invariant first history mid → history_invariant first ((call, answer) ∷ history) new) →
    Answers step history_invariant old calls before after mid → step mid call answer new
    → Answers step history_invariant old (calls ++ call ∷ []) before (after ++ answer ∷ []) new
answers_more step history_invariant old calls before after mid call answer new goes_on so_far taken = record {
  entries = so_far.entries ++ (call, answer) ∷ [];
  calls_are = simp map-append (ap (λ cs. cs ++ call ∷ []) so_far.calls_are);
  answers_are = simp map-append (ap (λ as'. as' ++ answer ∷ []) so_far.answers_are ∙ append_assoc before
      (map (λ entry. entry.1) so_far.entries) (answer ∷ []));
  run = run_more step old so_far.entries mid call answer new so_far.run taken;
  remembered = λ first history was. rw (past_more so_far.entries (call, answer) history)
      (goes_on first (history_after so_far.entries history) (so_far.remembered first history was));
}

-- What each step says of the history and of the state, a run says.
pub run_recalls : {S C A : Type 0} (step : S → C → A → S → Type 0) (history_invariant : List (C × A) → S → Type 0) →
    ((history : List (C × A)) (old : S) (call : C) (answer : A) (new : S) → history_invariant history old → step old call answer new
    → history_invariant ((call, answer) ∷ history) new) →
    (history : List (C × A)) (old : S) (entries : List (C × A)) (new : S) → history_invariant history old → IsRun step old entries new
    → history_invariant (history_after entries history) new
run_recalls step history_invariant remembers history old [] new remembered run = subst (history_invariant history) (sym run) remembered
run_recalls step history_invariant remembers history old (entry ∷ entries) new remembered run =
    run_recalls step history_invariant remembers (entry ∷ history) run.0 entries new
    (remembers history old entry.0 entry.1 run.0 remembered run.1) run.2

-- What each step keeps, a run keeps, and each entry steps into the history.
pub run_keeps : {S C A : Type 0} (step : S → C → A → S → Type 0) (is_sound owes_no_wake : S → Type 0)
    (history_invariant : List (C × A) → S → Type 0) →
    ((old : S) (call : C) (answer : A) (new : S) → is_sound old → owes_no_wake old → step old call answer new → is_sound new
    × owes_no_wake new) →
    ((history : List (C × A)) (old : S) (call : C) (answer : A) (new : S) → is_sound old → owes_no_wake old
    → history_invariant history old → step old call answer new → history_invariant ((call, answer) ∷ history) new) →
    (history : List (C × A)) (old : S) (entries : List (C × A)) (new : S) → is_sound old → owes_no_wake old
    → history_invariant history old →
    IsRun step old entries new → is_sound new × owes_no_wake new × history_invariant (history_after entries history) new
run_keeps {S} {C} {A} step is_sound owes_no_wake history_invariant keeps remembers history old entries new sound no_wake remembered run =
    run_recalls step (λ (now : List (C × A)) (s : S). is_sound s × owes_no_wake s × history_invariant now s)
    (λ now before call answer after was taken.
    let kept : is_sound after × owes_no_wake after = keeps before call answer after was.0 was.1 taken in
    (kept.0, kept.1, remembers now before call answer after was.0 was.1 was.2 taken))
    history old entries new (sound, no_wake, remembered) run
