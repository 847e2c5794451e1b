-- What a call does to the sends and receives that wait over one outbox: a waiter effect on either side.
use Rattle.std.specs.Prelude.{◌≡◌, ℕ, Bool, Option, List, ◌++◌, drop, map}
use Rattle.fi_channels.specs.declared.channel.two_sides.Waiter.TheVariants.{Send, Receive}
use Rattle.fi_parts.specs.Effects.{WaiterEffect, PairsChange, LeadsTo}
use Rattle.fi_parts.specs.Effects.WaiterEffect.{AndThen}
use Rattle.fi_parts.specs.Effects.PairsChange.{Keep, TakeOut, Append}
use Rattle.fi_parts.specs.NamedPairs.{without_by, first_waker}
use Rattle.fi_channels.specs.TwoSidesModel.{TwoSidesModel}
use Rattle.fi_channels.specs.Waiter.{same_waiter, sends_in, receives_in}
use Rattle.fi_parts.specs.Waiting.{Waiters, Waiting}

-- these pairs, with names of another type
abbrev pub marked : {W N : Type 0} → (ℕ → N) → List (ℕ × W) → List (N × W)
marked mark pairs = map (λ p. (mark p.0, p.1)) pairs

-- One side of a store whose outbox has names of any type: `mark` makes a name of a slot.
module _ {W N : Type 0} (mark : ℕ → N) (same : N → N → Bool) where
  -- the pairs after this change of this side's
  abbrev pub pairs_on : PairsChange W → List (N × W) → List (N × W)
  pairs_on Keep out = out
  pairs_on (TakeOut name) out = without_by same (mark name) out
  pairs_on (Append pairs) out = out ++ marked mark pairs

  -- This effect led from this side and outbox to those. The oldest pair is popped of both sides at once, so here it isn't.
  abbrev pub TakesOn : {D : Type 0} → WaiterEffect D W → Waiters D W → List (N × W) → Waiters D W → List (N × W) → Type 0
  TakesOn {D} (AndThen one other) old out new after = (mid : Waiters D W) × (between : List (N × W))
      × TakesOn one old out mid between × TakesOn other mid between new after
  TakesOn effect old out new after = LeadsTo effect old (λ side change. (new ≡ side) × (after ≡ pairs_on change out))

-- D is what a send asks for, E what a receive asks for.
pub data TwoSidedEffect (D E W : Type 0) : Type 0 where
  OnSends : WaiterEffect D W → TwoSidedEffect D E W
  OnReceives : WaiterEffect E W → TwoSidedEffect D E W
  -- the front pair of either side is taken out, and its waker handed out
  PopsFirst : Option W → TwoSidedEffect D E W
  -- one after the other
  Then : TwoSidedEffect D E W → TwoSidedEffect D E W → TwoSidedEffect D E W

module _ {D E W : Type 0} where
  -- one side with its pairs
  abbrev pub waiting_sends : TwoSidesModel D E W → Waiting D W
  waiting_sends both = record { side = both.sends; out = sends_in both.out }

  abbrev pub waiting_receives : TwoSidesModel D E W → Waiting E W
  waiting_receives both = record { side = both.receives; out = receives_in both.out }

  -- This effect led from old to new.
  abbrev pub TakesTwoSided : TwoSidedEffect D E W → TwoSidesModel D E W → TwoSidesModel D E W → Type 0
  TakesTwoSided (OnSends effect) old new =
      TakesOn Send same_waiter effect old.sends old.out new.sends new.out × (new.receives ≡ old.receives)
  TakesTwoSided (OnReceives effect) old new =
      TakesOn Receive same_waiter effect old.receives old.out new.receives new.out × (new.sends ≡ old.sends)
  TakesTwoSided (PopsFirst waker) old new =
      (waker ≡ first_waker old.out) × (new ≡ record old { out = drop 1 old.out })
  TakesTwoSided (Then one other) old new = (mid : TwoSidesModel D E W) × TakesTwoSided one old mid × TakesTwoSided other mid new
