-- What the laws of all machines ask of the phases that have a place in the queue.
use Rattle.std.specs.Prelude.{◌≡◌, ⊤, Bool, true, false, Option, Some, None, refl}
use Rattle.fi_parts.specs.declared.phase.Phase.{Phase}
use Rattle.fi_parts.specs.declared.phase.Phase.TheVariants.{Fresh, Registered, Complete, Ended}
use Rattle.fi_parts.specs.Waiting.{is_registered, is_queued}
use Rattle.fi_parts.specs.Places.{is_told, never_queued}

-- The registered futures have a place in the queue, or none of them has; the told ones may have one; no others have.
pub record IsPlaceRule {W : Type 0} (place : Option (Phase W) → Bool) : Type 0 where
  -- whether the registered have one: whether there is a queue
  pub has_queue : Bool
  pub registered : (waker : W) → place (Some (Registered waker)) ≡ has_queue
  pub none : place None ≡ false
  pub fresh : place (Some Fresh) ≡ false
  pub complete : place (Some Complete) ≡ false
  pub ended : place (Some Ended) ≡ false

-- where the told have places, this is none of them
abbrev pub IsUntold : {W : Type 0} → Bool → Option (Phase W) → Type 0
IsUntold false phase = ⊤
IsUntold true phase = is_told phase ≡ false

-- the registered alone
abbrev pub registered_rule : {W : Type 0} → IsPlaceRule {W = W} is_registered
registered_rule = record { has_queue = true; registered = λ waker. refl; none = refl; fresh = refl; complete = refl; ended = refl }

-- the registered, and the told where they keep their places
abbrev pub queued_rule : {W : Type 0} (keeps : Bool) → IsPlaceRule {W = W} (is_queued keeps)
queued_rule keeps = record { has_queue = true; registered = λ waker. refl; none = refl; fresh = refl; complete = refl; ended = refl }

abbrev pub never_rule : {W : Type 0} → IsPlaceRule {W = W} never_queued
never_rule = record { has_queue = false; registered = λ waker. refl; none = refl; fresh = refl; complete = refl; ended = refl }
