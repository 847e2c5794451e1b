-- What a contract sees of a bounded buffer.
use Rattle.std.specs.Prelude.{ℕ, ◌*◌, ◌≤◌, List, [], ◌∷◌, ◌++◌, length, min, max, nat_lt, if◌then◌else◌, Option, Some, None}
use Rattle.circular_buffer.specs.Buffer.{Buffer, buffer}

-- the items, oldest first; how many there may be; and how many fit the memory that the buffer has
pub record Bounded (T : Type 0) : Type 0 where
  pub items : List T
  pub capacity : ℕ
  pub reserved : ℕ

module _ {T : Type 0} where
  -- The items fit what is reserved, and that fits the capacity.
  abbrev pub Fits : Bounded T → Type 0
  Fits b = (length b.items ≤ b.reserved) × (b.reserved ≤ b.capacity)

  -- an empty buffer
  abbrev pub empty : ℕ → ℕ → Bounded T
  empty capacity reserved = record { items = []; capacity = capacity; reserved = reserved }

  -- the buffer with the item behind its others, and so much reserved
  abbrev pub pushed : Bounded T → T → ℕ → Bounded T
  pushed b item reserved = record { items = b.items ++ item ∷ []; capacity = b.capacity; reserved = reserved }

  -- the buffer with these items left
  abbrev pub popped : Bounded T → List T → Bounded T
  popped b left = record { items = left; capacity = b.capacity; reserved = b.reserved }

  -- what a push leaves reserved, where it reserves so much if it has to grow
  abbrev pub reserved_after : Bounded T → ℕ → ℕ
  reserved_after b grown = if nat_lt (length b.items) b.reserved then b.reserved else grown

  -- twice what is reserved, and at least 4, but never more than the capacity
  abbrev pub doubled : Bounded T → ℕ
  doubled b = min b.capacity (max 4 (2 * b.reserved))

  -- the ring that is there, or none, which holds nothing
  abbrev pub block_of : Option (Buffer T) → Buffer T
  block_of None = buffer [] 0
  block_of (Some ring) = ring
