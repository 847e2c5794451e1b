-- What a future of a shared end gives is what one of its channel gives.
use Rattle.std.proofs.Common.{◌≡◌, ℕ, Bool, true, false, Option, ap, inl, inr}
use Rattle.futures.specs.declared.task.Poll.{Poll}
use Rattle.futures.specs.declared.task.Poll.TheVariants.{Ready}
use Rattle.fi_sync.specs.Waiting.{IsGiven, PollsOrRefuses, PollsWhere}
use Rattle.futures_intrusive.specs.Ends.{Counted, OnState}

module _ {S W A : Type 0} (can_be_polled : S → ℕ → Bool) (polls : S → ℕ → Option W → Poll A → S → Type 0) (refusal no_memory output : A) where
  abbrev counted_polls : Counted S → ℕ → Option W → Poll A → Counted S → Type 0
  counted_polls old name waker answer new = OnState (λ before after. polls before name waker answer after) old new

  pub given_at_state : IsGiven (PollsOrRefuses (λ (ends : Counted S). can_be_polled ends.state) counted_polls refusal) no_memory output
      → IsGiven (PollsOrRefuses can_be_polled polls refusal) no_memory output
  given_at_state (inl none) = inl none
  given_at_state (inr given) =
      inr (given.0.state, given.1, given.2.state, (given.3.0, at (can_be_polled given.0.state given.1) given.3.1, given.3.2))
    where
      at : (can : Bool) → PollsWhere can (counted_polls given.0 given.1 given.3.0) refusal given.0 (Ready output) given.2
          → PollsWhere can (polls given.0.state given.1 given.3.0) refusal given.0.state (Ready output) given.2.state
      at true did = did.0
      at false did = (did.0, ap (λ (ends : Counted S). ends.state) did.1)
