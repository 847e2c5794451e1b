-- How the items of a ring lie in its slots.
use Rattle.std.specs.Prelude.{◌≡◌, ℕ, ◌<◌, ◌≤◌, List, length, Option}
use Rattle.circular_buffer.specs.Places.{somes, filled, from_start}

module _ {T : Type 0} where
  -- the items, oldest first: those from the slot `start` on, and round the end
  unfoldable pub ring_items : ℕ → List (Option T) → List T
  ring_items start slots = somes (from_start start slots)

  -- The items fill the first `count` slots, counted from `start` on and round the end, and the other slots are empty.
  pub record IsRing (slots : List (Option T)) (start count : ℕ) : Type 0 where
    pub first : (start ≤ length slots) × (0 < length slots → start < length slots)
    pub fits : count ≤ length slots
    pub counted : count ≡ length (ring_items start slots)
    pub laid : from_start start slots ≡ filled (ring_items start slots) (length slots)
