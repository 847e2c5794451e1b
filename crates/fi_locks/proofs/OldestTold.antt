-- To tell the oldest of a queue is to tell the front of it that has one future, or none if the queue is empty.
use Rattle.std.proofs.Common.{◌≡◌, ℕ, Bool, List, [], ◌∷◌, ◌++◌, ap, sym, ◌∙◌}
use Rattle.fi_parts.specs.Effects.{TakesEffect, first_of}
use Rattle.fi_parts.specs.Effects.WaiterEffect.{NotifiesFront}
use Rattle.fi_parts.specs.PlaceRules.{queued_rule}
use Rattle.fi_parts.specs.Waiting.{Waiting, IsOrderedBy, is_queued, told_one, front_told}
use Rattle.fi_parts.proofs.Told.{front_told-step, front_told-none}

module _ {D W : Type 0} (keeps : Bool) (w : Waiting D W) where
  untold : front_told keeps w [] w.side.queue ≡ w
  untold = front_told-none (is_queued keeps) (queued_rule keeps) keeps w

  pub oldest_told : (name : ℕ) (others : List ℕ) → IsOrderedBy (is_queued keeps) w.side w.out → w.side.queue ≡ name ∷ others →
      TakesEffect (NotifiesFront keeps (first_of w.side.queue)) w (told_one keeps w name)
  oldest_told name others was queue = (
    others,
    queue ∙ ap (λ names. first_of names ++ others) (sym queue),
    ap (λ v. told_one keeps v name) (sym untold) ∙ ap (λ names. told_one keeps (front_told keeps w [] names) name) queue
        ∙ front_told-step (is_queued keeps) (queued_rule keeps) keeps w [] name others was queue
        ∙ ap (λ names. front_told keeps w (first_of names) others) (sym queue),
  )

  pub nobody_told : w.side.queue ≡ [] → TakesEffect (NotifiesFront keeps (first_of w.side.queue)) w w
  nobody_told none = (
    w.side.queue,
    ap (λ names. first_of names ++ w.side.queue) (sym none),
    sym untold ∙ ap (λ names. front_told keeps w (first_of names) w.side.queue) (sym none),
  )
