-- How the pointers of the owner of the blocks stand in its stack: first one for each chunk, then one for each vacant
-- place.
use Rattle.std.specs.Prelude.{◌≡◌, ℕ, zero, suc, ◌+◌, ◌≤◌, ◌==◌, if◌then◌else◌, List, [], ◌∷◌, map as each, length, drop}
use Rattle.std.specs.Prelude.{get_or}
use denote.RawPtr.{Ptr, null_ptr}
use Rattle.fi_parts.specs.declared.blocks.block.BlockPtr.{BlockPtr}
use Rattle.fi_parts.specs.declared.blocks.places.BlockPlaces.{BlockPlaces}
use Rattle.fi_parts.specs.BlockOwner.{times}

-- how many places the chunk of this number has
abbrev pub chunk_len : ℕ → ℕ
chunk_len k = if k == 0 then 4 else (if k == 1 then 16 else (if k == 2 then 64 else 256))

-- how many places the first k chunks have
abbrev pub places_in : ℕ → ℕ
places_in zero = 0
places_in (suc k) = chunk_len k + places_in k

module _ {T : Type 0} where
  abbrev pub pointed : BlockPtr T → Ptr × Unit {0}
  pointed p = (p.ptr, tt)

  abbrev pub nowhere : BlockPtr T
  nowhere = record { ptr = null_ptr }

  -- the k chunks whose pointers stand first, the last one first
  abbrev pub chunks_of : List (BlockPtr T) → ℕ → List (Ptr × ℕ)
  chunks_of stack zero = []
  chunks_of stack (suc k) = ((get_or stack k nowhere).ptr, chunk_len k) ∷ chunks_of stack k

  -- Each vacant place has its pointer, so none is lost; and the stack has room for the pointers to all places.
  pub record IsKept (h : BlockPlaces T) (stack : List (BlockPtr T)) (room k : ℕ) : Type 0 where
    pub within : k ≤ length stack
    pub chunks : h.chunks ≡ chunks_of stack k
    pub vacant : (p : Ptr) → times p (each pointed (drop k stack)) ≡ times p h.vacant
    pub count : length stack + length h.blocks ≡ k + places_in k
    pub fits : k + places_in k ≤ room
