-- What the changes of one future leave of those who are told.
use Rattle.std.specs.Prelude.{◌≡◌, ◌≢◌, ℕ, false, Option, Some, List, [], ◌∷◌, ◌++◌, refl}
use Rattle.std.proofs.Common.{append_assoc, ap, subst, sym, ◌∙◌, inl, inr}
use Rattle.std.proofs.lemmas.Bool.{cases_eq}
use Rattle.fi_parts.specs.declared.phase.Phase.{Phase}
use Rattle.fi_parts.specs.declared.phase.Phase.TheVariants.{Registered}
use Rattle.fi_parts.specs.Order.{holds, Apart, without}
use Rattle.fi_parts.specs.Places.{is_told}
use Rattle.fi_parts.specs.Waiting.{Waiters, phase_of}
use Rattle.fi_parts.proofs.Queues.{holds-without_same, holds-without_other, Apart-without_one}
use Rattle.fi_parts.proofs.Slots.{in_neither, Apart-front}
use Rattle.fi_parts.proofs.Waiting.{Becomes}
use Rattle.fi_locks.specs.FrontLaws.{without-append}
use Rattle.fi_locks.specs.ToldFutures.{AreTold, IsToldFront}

module _ {D W : Type 0} where
  -- who is not queued is not among the told that are queued
  pub not_in_front : (side : Waiters D W) (told rest : List ℕ) (name : ℕ) → IsToldFront side told rest → holds name side.queue ≡ false →
      holds name told ≡ false
  not_in_front side told rest name front off = (in_neither name told rest (sym (ap (holds name) front.is_front) ∙ off)).0

  -- One name changed, and is not told now: the told are this front now, if that is the one before without the name.
  pub front_by : (old new : Waiters D W) (name : ℕ) (phase : Option (Phase W)) (told rest told_now rest_now : List ℕ) →
      IsToldFront old told rest → Becomes old new name phase → is_told phase ≡ false → new.queue ≡ told_now ++ rest_now →
      ((q : ℕ) → q ≢ name → holds q told_now ≡ holds q told) → holds name told_now ≡ false → IsToldFront new told_now rest_now
  front_by old new name phase told rest told_now rest_now front b not_told queue same off = record {
    is_front = queue;
    all = λ q. elim (cases_eq q name) [
      | inl e ↦ rw e (ap is_told b.here ∙ not_told ∙ sym off)
      | inr ne ↦ ap is_told (b.others q ne) ∙ front.all q ∙ sym (same q ne)
    ];
  }

  -- it left the queue
  pub front_without : (old new : Waiters D W) (name : ℕ) (phase : Option (Phase W)) (told rest : List ℕ) → IsToldFront old told rest →
      Becomes old new name phase → is_told phase ≡ false → new.queue ≡ without name old.queue →
      IsToldFront new (without name told) (without name rest)
  front_without old new name phase told rest front b not_told queue =
      front_by old new name phase told rest (without name told) (without name rest) front b not_told
      (queue ∙ ap (without name) front.is_front ∙ without-append name told rest) (λ q ne. holds-without_other q name told ne)
      (holds-without_same name told)

  -- it went to the end of the queue, where it was not before
  pub front_registered : (old new : Waiters D W) (name : ℕ) (waker : W) (told rest : List ℕ) → IsToldFront old told rest →
      Becomes old new name (Some (Registered waker)) → holds name old.queue ≡ false → new.queue ≡ old.queue ++ name ∷ [] →
      IsToldFront new told (rest ++ name ∷ [])
  front_registered old new name waker told rest front b off queue =
      front_by old new name (Some (Registered waker)) told rest told (rest ++ name ∷ []) front b refl
      (queue ∙ ap (λ xs. xs ++ name ∷ []) front.is_front ∙ append_assoc told rest (name ∷ [])) (λ q ne. refl)
      (not_in_front old told rest name front off)

  -- the same are told, and the queue is as before
  pub front_still : (old new : Waiters D W) (told rest : List ℕ) → IsToldFront old told rest → new.queue ≡ old.queue →
      ((q : ℕ) → is_told (phase_of new q) ≡ is_told (phase_of old q)) → IsToldFront new told rest
  front_still old new told rest front queue same =
      record { is_front = queue ∙ front.is_front; all = λ q. same q ∙ front.all q }

  -- One name changed that was not told and is not told now: the same are told.
  pub same_told : (old new : Waiters D W) (name : ℕ) (phase : Option (Phase W)) → Becomes old new name phase → is_told phase ≡ false →
      is_told (phase_of old name) ≡ false → (q : ℕ) → is_told (phase_of new q) ≡ is_told (phase_of old q)
  same_told old new name phase b not_told was_not q = elim (cases_eq q name) [
    | inl e ↦ rw e (ap is_told b.here ∙ not_told ∙ sym was_not)
    | inr ne ↦ ap is_told (b.others q ne)
  ]

  -- One name changed, and is not told now.
  pub told_without : (old new : Waiters D W) (name : ℕ) (phase : Option (Phase W)) (told : List ℕ) → AreTold old told →
      Becomes old new name phase → is_told phase ≡ false → AreTold new (without name told)
  told_without old new name phase told are b not_told = record {
    once = Apart-without_one name told are.once;
    all = λ q. elim (cases_eq q name) [
      | inl e ↦ rw e (ap is_told b.here ∙ not_told ∙ sym (holds-without_same name told))
      | inr ne ↦ ap is_told (b.others q ne) ∙ are.all q ∙ sym (holds-without_other q name told ne)
    ];
  }

  -- the told at the front of a queue stand there once
  pub front_once : (side : Waiters D W) (told rest : List ℕ) → IsToldFront side told rest → Apart side.queue → Apart told
  front_once side told rest front once = Apart-front told rest (subst Apart front.is_front once)
