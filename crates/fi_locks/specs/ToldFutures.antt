-- Which futures of a lock are told.
use Rattle.std.specs.Prelude.{◌≡◌, ℕ, List, ◌++◌}
use Rattle.fi_parts.specs.Order.{holds, Apart}
use Rattle.fi_parts.specs.Places.{is_told}
use Rattle.fi_parts.specs.Waiting.{Waiters, phase_of}

module _ {D W : Type 0} where
  -- These are the told futures, each once.
  pub record AreTold (side : Waiters D W) (told : List ℕ) : Type 0 where
    pub once : Apart told
    pub all : (name : ℕ) → is_told (phase_of side name) ≡ holds name told

  -- The told futures are a front of the queue, and these are those behind it.
  pub record IsToldFront (side : Waiters D W) (told rest : List ℕ) : Type 0 where
    pub is_front : side.queue ≡ told ++ rest
    pub all : (name : ℕ) → is_told (phase_of side name) ≡ holds name told
