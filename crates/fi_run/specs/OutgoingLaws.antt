-- Laws on the wakers that a call hands out.
use Rattle.std.specs.Prelude.{◌≡◌, ℕ, List, [], ◌∷◌, Option, None, drop, map}
use Rattle.std.proofs.Common.{ap, refl, ◌∙◌}
use Rattle.fi_parts.specs.Effects.WaiterEffect.{PopsOldest}
use Rattle.fi_parts.specs.Machine.{Machine, StepsTo}
use Rattle.fi_parts.specs.Order.{head_or}
use Rattle.fi_parts.specs.NamedPairs as named
use Rattle.fi_parts.specs.Pairs.{oldest, wakers_of}
use Rattle.fi_channels.specs.declared.channel.two_sides.Waiter.{Waiter}
use Rattle.fi_channels.specs.TwoSidedEffects.TwoSidedEffect.{PopsFirst}
use Rattle.fi_channels.specs.TwoSidedMachine.{TwoSidedMachine, TwoSidedStep}
use Rattle.fi_run.specs.Outgoing.{TakesOldest, machine_outgoing, two_sided_outgoing}

module _ {W : Type 0} where
  first_waker : (out : List (ℕ × W)) → oldest out ≡ head_or (wakers_of out) None
  first_waker [] = refl
  first_waker (pair ∷ out) = refl

  other_wakers : (out : List (ℕ × W)) → wakers_of (drop 1 out) ≡ drop 1 (wakers_of out)
  other_wakers [] = refl
  other_wakers (pair ∷ out) = refl

-- what a machine does whose line for that call is this effect
pub pops_oldest : {S D A W : Type 0} (hands_out : Option W → A) (old : Machine S D W) (waker : Option W) (new : Machine S D W)
    → StepsTo old old.own (PopsOldest waker) new → TakesOldest machine_outgoing hands_out old (hands_out waker) new
pops_oldest hands_out old waker new did = (
  ap hands_out (did.1.0 ∙ first_waker old.waiting.out),
  ap (λ waiting. wakers_of waiting.out) did.1.1 ∙ other_wakers old.waiting.out,
  λ i. record { own = did.0 i; waiting = record (did.1.1 i) { out = [] } },
)

module _ {W : Type 0} where
  abbrev wakers_in : List (Waiter × W) → List W
  wakers_in out = map (λ pair. pair.1) out

  first_of_both : (out : List (Waiter × W)) → named.first_waker out ≡ head_or (wakers_in out) None
  first_of_both [] = refl
  first_of_both (pair ∷ out) = refl

  others_of_both : (out : List (Waiter × W)) → wakers_in (drop 1 out) ≡ drop 1 (wakers_in out)
  others_of_both [] = refl
  others_of_both (pair ∷ out) = refl

pub pops_first : {S D E A W : Type 0} (hands_out : Option W → A) (old : TwoSidedMachine S D E W) (waker : Option W)
    (new : TwoSidedMachine S D E W) → TwoSidedStep old old.own (PopsFirst waker) new →
    TakesOldest two_sided_outgoing hands_out old (hands_out waker) new
pops_first hands_out old waker new did = (
  ap hands_out (did.1.0 ∙ first_of_both old.waiting.out),
  ap (λ waiting. wakers_in waiting.out) did.1.1 ∙ others_of_both old.waiting.out,
  λ i. record { own = did.0 i; waiting = record (did.1.1 i) { out = [] } },
)
