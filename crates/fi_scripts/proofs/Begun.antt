-- Texts of which a beginning was written.
use Rattle.std.proofs.Common.{◌≡◌, ℕ, List, [], ◌∷◌, ◌++◌, take, drop, refl, sym, ap, subst, ◌∙◌, append_assoc}
use Rattle.std.specs.Prelude.{Option, None, Some}
use Rattle.std.proofs.lemmas.List.{append-nil, take-append-drop}
use Rattle.std.specs.Io.KnownBytes.{Appends, Keeps}
use Rattle.fi_scripts.specs.Begun.{Begins}
use Rattle.fi_scripts.proofs.Bytes.{appends_twice}

-- the first n bytes are a beginning
pub begins_at : (old new : Option (List ℕ)) (n : ℕ) (bytes : List ℕ) → Appends old new (take n bytes)
    → Begins old new bytes
begins_at old new n bytes written = (take n bytes, drop n bytes, sym (take-append-drop n bytes), written)

-- A beginning of the first text is one of both.
pub begins_first : (old new : Option (List ℕ)) (text more : List ℕ) → Begins old new text
    → Begins old new (text ++ more)
begins_first old new text more begun =
    (begun.0, begun.1 ++ more, ap (λ xs. xs ++ more) begun.2 ∙ append_assoc begun.0 begun.1 more, begun.3)

-- So is the first text with a beginning of the second.
pub begins_second : (old between new : Option (List ℕ)) (text more : List ℕ) → Appends old between text
    → Begins between new more → Begins old new (text ++ more)
begins_second old between new text more written begun = (
  text ++ begun.0,
  begun.1,
  ap (λ xs. text ++ xs) begun.2 ∙ sym (append_assoc text begun.0 begun.1),
  appends_twice
      old between new text begun.0 written begun.3,
)

take_no : (xs : List ℕ) → take 0 xs ≡ []
take_no [] = refl
take_no (x ∷ xs) = refl

take_none : (n : ℕ) (xs : List ℕ) → n ≡ 0 → take n xs ≡ []
take_none n xs is = ap (λ (k : ℕ). take k xs) is ∙ take_no xs

-- A failed write, and one that takes no byte, leave a beginning.
begins_kept : (old between new : Option (List ℕ)) (n : ℕ) (bytes none : List ℕ) → Appends old between (take n bytes)
    → Appends between new none → none ≡ [] → Begins old new bytes
begins_kept old between new n bytes none written last is =
    begins_at old new n bytes (subst (λ xs. Appends old new xs)
    (ap (λ xs. take n bytes ++ xs) is ∙ append-nil (take n bytes))
    (appends_twice old between new (take n bytes) none written last))

keeps_appends : (old new : Option (List ℕ)) → Keeps old new → Appends old new []
keeps_appends None new keeps = tt
keeps_appends (Some xs) None keeps = keeps
keeps_appends (Some xs) (Some ys) keeps = keeps ∙ sym (append-nil xs)

pub begins_stays : (old between new : Option (List ℕ)) (n : ℕ) (bytes : List ℕ) → Appends old between (take n bytes)
    → Keeps between new → Begins old new bytes
begins_stays old between new n bytes written keeps =
    begins_kept old between new n bytes [] written (keeps_appends between new keeps) refl

pub begins_nothing : (old between new : Option (List ℕ)) (n : ℕ) (bytes buffer : List ℕ) (count : ℕ)
    → Appends old between (take n bytes) → Appends between new (take count buffer) → count ≡ 0
    → Begins old new bytes
begins_nothing old between new n bytes buffer count written last is =
    begins_kept old between new n bytes (take count buffer) written last (take_none count buffer is)
