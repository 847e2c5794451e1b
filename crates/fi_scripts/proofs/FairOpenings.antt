-- Openings that begin with `fair` or `unfair`.
use Rattle.std.proofs.Common.{◌≡◌, ◌≢◌, ℕ, ◌<◌, ◌^◌, List, sym, ap, ◌∙◌}
use Rattle.std.specs.Prelude.{Bool, Option, Some, None}
use Rattle.std.specs.Fmt.{decimal}
use Rattle.fi_scripts.specs.Cuts.{IsCut}
use Rattle.fi_scripts.specs.Language.{AsksFor, AsksForNone}
use Rattle.fi_scripts.specs.Lines.{joined}
use Rattle.fi_scripts.specs.Openings.{fairness_text, fair_openings}
use Rattle.fi_scripts.proofs.Reading.{one_place, cut_of, of_cut, some_same, none_is_not, fairness_lacks}

module _ (text word : List ℕ) (rest : Option (List ℕ)) (cut : IsCut 32 text word rest) where
  parts : (opening : ℕ × Bool) → Some text ≡ fair_openings.text opening
      → (word ≡ fairness_text opening.1) × (rest ≡ Some (decimal opening.0))
  parts opening asks =
      one_place 32 word (fairness_text opening.1) rest (Some (decimal opening.0)) text cut
      (cut_of text (fairness_text opening.1) (Some (decimal opening.0)) (some_same _ _ asks) (fairness_lacks opening.1))

  pub other_word : ((is_fair : Bool) → word ≢ fairness_text is_fair) → AsksForNone fair_openings (Some text)
  other_word none opening asks = none opening.1 (parts opening asks.1).0

  pub word_alone : rest ≡ None → AsksForNone fair_openings (Some text)
  word_alone alone opening asks = none_is_not (sym alone ∙ (parts opening asks.1).1)

  pub other_number : (last : List ℕ) → rest ≡ Some last → ((n : ℕ) → n < 2 ^ 64 → last ≢ decimal n)
      → AsksForNone fair_openings (Some text)
  other_number last is none opening asks =
      none opening.0 asks.0 (some_same _ _ (sym is ∙ (parts opening asks.1).1))

  pub word_and_number : (last : List ℕ) (is_fair : Bool) (n : ℕ) → rest ≡ Some last → word ≡ fairness_text is_fair
      → last ≡ decimal n → n < 2 ^ 64 → AsksFor fair_openings (Some text) (n, is_fair)
  word_and_number last is_fair n is fair number small = (
    small,
    ap (λ (t : List ℕ). Some t) (of_cut text word rest cut ∙ ap (λ r. joined word r) is
        ∙ ap (λ w. joined w (Some last)) fair ∙ ap (λ d. joined (fairness_text is_fair) (Some d)) number),
  )
