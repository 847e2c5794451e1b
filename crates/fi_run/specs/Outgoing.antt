-- The wakers that a primitive has to hand out, and the call that takes out the oldest.
use Rattle.std.specs.Prelude.{◌≡◌, List, [], Option, None, drop, map}
use Rattle.fi_parts.specs.Machine.{Machine}
use Rattle.fi_parts.specs.Order.{head_or}
use Rattle.fi_parts.specs.Pairs.{wakers_of}
use Rattle.fi_channels.specs.TwoSidedMachine.{TwoSidedMachine}

pub record Outgoing (S W : Type 0) : Type 0 where
  -- the wakers that are to be woken, oldest first
  pub wakers : S → List W
  -- the state when all of them are taken out
  pub without_wakers : S → S

-- The answer hands out the oldest waker. The others stay, and so does all else.
abbrev pub TakesOldest : {S A W : Type 0} → Outgoing S W → (Option W → A) → S → A → S → Type 0
TakesOldest outgoing hands_out old answer new = (answer ≡ hands_out (head_or (outgoing.wakers old) None))
    × (outgoing.wakers new ≡ drop 1 (outgoing.wakers old)) × (outgoing.without_wakers new ≡ outgoing.without_wakers old)

module _ {S D W : Type 0} where
  -- Every machine has its wakers in the same place.
  abbrev pub machine_outgoing : Outgoing (Machine S D W) W
  machine_outgoing = record {
    wakers = λ machine. wakers_of machine.waiting.out;
    without_wakers = λ machine. record machine { waiting = record machine.waiting { out = [] } };
  }

module _ {S D E W : Type 0} where
  -- A machine of two sides has the wakers of both in one place.
  abbrev pub two_sided_outgoing : Outgoing (TwoSidedMachine S D E W) W
  two_sided_outgoing = record {
    wakers = λ machine. map (λ pair. pair.1) machine.waiting.out;
    without_wakers = λ machine. record machine { waiting = record machine.waiting { out = [] } };
  }
