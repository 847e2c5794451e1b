-- Cuts at the first separator, and how they leave fewer bytes.
use Rattle.std.proofs.Common.{◌≡◌, ◌≢◌, ℕ, ◌+◌, ◌-◌, ◌≤◌, ◌<◌, ◌++◌, List, [], ◌∷◌, length, take, drop, get_or, refl, sym, subst}
use Rattle.std.proofs.Common.{ap, ◌∙◌, arith, append_assoc, length-append}
use Rattle.std.proofs.lemmas.Bool.{eqb-true, eq-eqb}
use Rattle.std.proofs.lemmas.List.{take-append-drop, get_or-take, length-take-le, take_all, length-drop}
use Rattle.std.proofs.lemmas.List.Elements.{All-from_get_or}
use Rattle.std.proofs.lemmas.Grind.{take_at_read}
use Rattle.std.specs.Prelude.{Option, Some, None, All}
use Rattle.memchr.specs.Find.{Nowhere, NoneBefore, Passes, is_byte}
use Rattle.fi_scripts.specs.Cuts.{IsCut, NextLine}

-- no byte before a place is the separator, if none was found there
lacks : (separator : ℕ) (bytes : List ℕ) (n : ℕ) → n ≤ length bytes → Nowhere (Passes (is_byte separator) bytes) 0 n
    → All (λ byte. byte ≢ separator) (take n bytes)
lacks separator bytes n within nowhere =
    All-from_get_or (λ byte. byte ≢ separator) (take n bytes) 0
    (λ i below.
    let under : i < n = omega (arith, below, length-take-le n bytes within) in
    λ same. nowhere i (omega arith) under (eq-eqb _ _ (sym (get_or-take n bytes i 0 under) ∙ same)))

-- what stands after the separator, as a slice up to the end
pub cut_at : (separator : ℕ) (bytes : List ℕ) (at : ℕ)
    → NoneBefore (Passes (is_byte separator) bytes) 0 (length bytes) at → Passes (is_byte separator) bytes at
    → IsCut separator bytes (take at bytes) (Some (take (length bytes - (at + 1)) (drop (at + 1) bytes)))
cut_at separator bytes at before here =
    let rest : take (length bytes - (at + 1)) (drop (at + 1) bytes) ≡ drop (at + 1) bytes = take_all _
    (drop (at + 1) bytes) (omega (arith, before.high, length-drop (at + 1) bytes)) in
    let found : get_or bytes at 0 ≡ separator = eqb-true _ _ here in
    let front : take (at + 1) bytes ≡ take at bytes ++ separator ∷ [] = (take_at_read bytes at 0 before.high).1 ∙ ap
    (λ byte. take at bytes ++ byte ∷ []) found in (
      sym (take-append-drop (at + 1) bytes) ∙ ap (λ xs. xs ++ drop (at + 1) bytes) front ∙ append_assoc (take at bytes)
          (separator ∷ []) (drop (at + 1) bytes)
          ∙ ap (λ xs. take at bytes ++ separator ∷ xs) (sym rest),
      lacks separator bytes at (omega (arith, before.high)) before.before,
    )

pub cut_nowhere : (separator : ℕ) (bytes : List ℕ) → Nowhere (Passes (is_byte separator) bytes) 0 (length bytes)
    → IsCut separator bytes bytes None
cut_nowhere separator bytes nowhere = (
  refl,
  subst (All (λ byte. byte ≢ separator)) (take_all (length bytes) bytes (omega arith))
      (lacks separator bytes (length bytes) (omega arith) nowhere),
)

-- what is left of a script, its next line's end counted
abbrev pub bytes_left : Option (List ℕ) → ℕ
bytes_left None = 0
bytes_left (Some bytes) = length bytes + 1

pub cut_shortens : (separator : ℕ) (bytes piece : List ℕ) (rest : Option (List ℕ)) → IsCut separator bytes piece rest
    → bytes_left rest < length bytes + 1
cut_shortens separator bytes piece None cut = omega arith
cut_shortens separator bytes piece (Some rest) cut =
    let whole : length bytes ≡ length (piece ++ separator ∷ rest) = ap length cut.0 in
    omega (arith, whole, length-append piece (separator ∷ rest))

pub line_shortens : (before : Option (List ℕ)) (line : List ℕ) (after : Option (List ℕ))
    → NextLine before (Some line) after → bytes_left after < bytes_left before
line_shortens None line after next = absurd (cc next.0)
line_shortens (Some []) line after next = absurd (cc next.0)
line_shortens (Some (byte ∷ bytes)) line after next = cut_shortens 10 (byte ∷ bytes) line after next
