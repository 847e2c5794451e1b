-- The futures of two sides, sends and receives, and the pairs of each side in one outbox.
use Rattle.std.specs.Prelude.{ℕ, eqb, Bool, false, Option, List, [], ◌∷◌, map}
use Rattle.std.specs.Ordering.{nat_cmp}
use Rattle.std.specs.FinMap as finmap
use Rattle.fi_channels.specs.declared.channel.two_sides.Waiter.{Waiter}
use Rattle.fi_channels.specs.declared.channel.two_sides.Waiter.TheVariants.{Send, Receive}

-- the same slot of the same side
abbrev pub same_waiter : Waiter → Waiter → Bool
same_waiter (Send slot) (Send other) = eqb slot other
same_waiter (Receive slot) (Receive other) = eqb slot other
same_waiter waiter other = false

-- the ticket of each future of both sides
abbrev pub ticket_of_waiter : finmap.FinMap nat_cmp ℕ → finmap.FinMap nat_cmp ℕ → Waiter → Option ℕ
ticket_of_waiter sends receives (Send slot) = finmap.get sends slot
ticket_of_waiter sends receives (Receive slot) = finmap.get receives slot

module _ {W : Type 0} where
  -- these pairs, as those of sends, and of receives
  abbrev pub of_sends : List (ℕ × W) → List (Waiter × W)
  of_sends pairs = map (λ p. (Send p.0, p.1)) pairs

  abbrev pub of_receives : List (ℕ × W) → List (Waiter × W)
  of_receives pairs = map (λ p. (Receive p.0, p.1)) pairs

  -- the pairs of sends, and of receives
  abbrev pub sends_in : List (Waiter × W) → List (ℕ × W)
  sends_in [] = []
  sends_in ((Send slot, waker) ∷ pairs) = (slot, waker) ∷ sends_in pairs
  sends_in ((Receive slot, waker) ∷ pairs) = sends_in pairs

  abbrev pub receives_in : List (Waiter × W) → List (ℕ × W)
  receives_in [] = []
  receives_in ((Send slot, waker) ∷ pairs) = receives_in pairs
  receives_in ((Receive slot, waker) ∷ pairs) = (slot, waker) ∷ receives_in pairs
