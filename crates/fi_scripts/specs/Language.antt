-- How scripts speak of a primitive.
use Rattle.std.specs.Prelude.{◌≡◌, ℕ, List, Option}
use Rattle.fi_run.specs.Outgoing.{Outgoing}
use Rattle.fi_run.specs.declared.answer.Answer.{Answer}
use Rattle.fi_run.specs.declared.script.row.Row.{Row}

-- The words of its openings.
pub record Openings (O : Type 0) : Type 1 where
  -- which of them scripts can name
  pub is_nameable : O → Type 0
  -- what stands after its name for such an opening
  pub text : O → Option (List ℕ)

module _ {O : Type 0} (openings : Openings O) where
  -- The words after its name, if any stand there, ask for this opening.
  abbrev pub AsksFor : Option (List ℕ) → O → Type 0
  AsksFor words opening = openings.is_nameable opening × (words ≡ openings.text opening)

  -- They ask for none.
  abbrev pub AsksForNone : Option (List ℕ) → Type 0
  AsksForNone words = (opening : O) → AsksFor words opening → ⊥

-- A primitive's machine, and how scripts speak of it.
pub record Spoken (S O C : Type 0) : Type 1 where
  pub opens : O → S → Type 0
  pub step : S → C → Answer ℕ ℕ → S → Type 0
  pub outgoing : Outgoing S ℕ
  pub openings : Openings O
  -- the call that a line asks for
  pub call_of : Row → Option C

abbrev pub spoken : {S O C : Type 0} → (O → S → Type 0) → (S → C → Answer ℕ ℕ → S → Type 0) → Outgoing S ℕ → Openings O
    → (Row → Option C) → Spoken S O C
spoken opens step outgoing openings call_of =
    record { opens = opens; step = step; outgoing = outgoing; openings = openings; call_of = call_of }
