-- Bytes that are cut at separators.
use Rattle.std.specs.Prelude.{◌≡◌, ◌≢◌, ℕ, ◌++◌, List, [], ◌∷◌, All, Option, Some, None}

-- The piece stands before the first separator, and the rest after it; with no separator the piece is all.
abbrev pub IsCut : ℕ → List ℕ → List ℕ → Option (List ℕ) → Type 0
IsCut separator bytes piece None = (bytes ≡ piece) × All (λ byte. byte ≢ separator) piece
IsCut separator bytes piece (Some rest) = (bytes ≡ piece ++ separator ∷ rest) × All (λ byte. byte ≢ separator) piece

-- The next line of what is left of a script; a line feed at the very end ends the last line.
abbrev pub NextLine : Option (List ℕ) → Option (List ℕ) → Option (List ℕ) → Type 0
NextLine None line after = (line ≡ None) × (after ≡ None)
NextLine (Some []) line after = (line ≡ None) × (after ≡ Some [])
NextLine (Some (byte ∷ bytes)) None after = ⊥
NextLine (Some (byte ∷ bytes)) (Some line) after = IsCut 10 (byte ∷ bytes) line after
