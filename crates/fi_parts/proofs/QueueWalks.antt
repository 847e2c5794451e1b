-- How far a walk has come that appends the slots of a queue.
use Rattle.std.proofs.Common.{◌≡◌, ℕ, List, [], ◌∷◌, ◌++◌, Option, Some, MatchOption}
use Rattle.std.proofs.Common.{append_assoc, sym, ap, subst, ◌∙◌}
use Rattle.std.proofs.lemmas.List.{map_push}
use Rattle.fi_parts.specs.declared.errors.Slot.{Slot}
use Rattle.fi_parts.specs.Stages.{numbers_of}

-- this is the first of the list, or the list is empty
abbrev pub IsNext : Option Slot → List ℕ → Type 0
IsNext next names = MatchOption next (names ≡ []) (λ slot. (others : List ℕ) × (names ≡ slot.0 ∷ others))

-- This front was appended to the old slots, and this one is next.
pub record Walked (queue : List ℕ) (old now : List Slot) (next : Option Slot) : Type 0 where
  pub front : List ℕ
  pub rest : List ℕ
  pub split : queue ≡ front ++ rest
  pub seen : numbers_of now ≡ numbers_of old ++ front
  pub at : IsNext next rest

module _ (queue : List ℕ) (old : List Slot) where
  here : (now : List Slot) (next : Option Slot) (slot : Slot) → next ≡ Some slot → (w : Walked queue old now next) →
      (others : List ℕ) × (w.rest ≡ slot.0 ∷ others)
  here now next slot is w = subst (λ o. IsNext o w.rest) is w.at

  cut : (now : List Slot) (next : Option Slot) (slot : Slot) → (is : next ≡ Some slot) → (w : Walked queue old now next) →
      queue ≡ w.front ++ slot.0 ∷ (here now next slot is w).0
  cut now next slot is w = w.split ∙ ap (λ xs. w.front ++ xs) (here now next slot is w).1

  pub walk_on : (now : List Slot) (next : Option Slot) (slot : Slot) (after : Option Slot) → next ≡ Some slot → Walked queue old now next
      → ((front rest : List ℕ) → queue ≡ front ++ slot.0 ∷ rest → IsNext after rest) → Walked queue old (now ++ slot ∷ []) after
  walk_on now next slot after is w younger =
      let others = (here now next slot is w).0 in
      let split = cut now next slot is w in
      record {
        front = w.front ++ slot.0 ∷ [];
        rest = others;
        split = split ∙ sym (append_assoc w.front (slot.0 ∷ []) others);
        seen = map_push (λ (s : Slot). s.0) now slot ∙ ap (λ xs. xs ++ slot.0 ∷ []) w.seen
            ∙ append_assoc (numbers_of old) w.front (slot.0 ∷ []);
        at = younger w.front others split;
      }
