-- What the owner of the blocks owns and lends: blocks, vacant places, and the right to give the chunks back.
use Rattle.std.specs.Prelude.{◌≡◌, ℕ, zero, suc, ◌+◌, ◌*◌, ◌^◌, cond, List, [], ◌∷◌, ◌++◌}
use Rattle.std.specs.Mem.{type_size}
use base.Fml.{Lft, Fml, ftrue, fsep, flt, fex}
use mir.Syntax.{Ty, ty_array}
use mir.Raw.{raw}
use Rattle.std.specs.contracts.impls.GlobalAllocator.TheImpl.{ghosts}
use denote.RattleType.{RattleType}
use denote.Memory.{lone}
use denote.RawPtr.{Ptr, block_ptr, null_ptr, ◌+ₚ◌, count_of, in_block, room_for}
use denote.Sharing.{nothing, beside}
use denote.Struct.Lending.{lent_at}
use Rattle.std.specs.Box.Ownership.{box_owns}
use Rattle.std.specs.declared.alloc.Global.{Global}
use Rattle.fi_parts.specs.declared.blocks.block.Block.{Block}
use Rattle.fi_parts.specs.contracts.blocks.block.Block as block
use Rattle.fi_parts.specs.Placed.{same_ptr}

-- the allocator of every chunk
abbrev pub global : Global
global = record { memory = record { seal = tt } }

abbrev pub heap_token : Ty → Ptr → Fml
heap_token = ghosts.dealloc_token global

-- A pointer to a place may be compared with null. It is no right to free the place: a chunk is freed whole.
abbrev pub token : Ty → Ptr → Fml
token τ p = flt (count_of p) (2 ^ 63)

-- how often the pointer stands among these
unfoldable pub times : {X : Type 0} → Ptr → List (Ptr × X) → ℕ
times p [] = 0
times p (b ∷ bs) = cond (same_ptr b.0 p) 1 0 + times p bs

module _ {X : Type 0} (F : X → Fml) where
  abbrev pub all_own : List X → Fml
  all_own [] = ftrue
  all_own (x ∷ xs) = fsep (F x) (all_own xs)

module _ (B : RattleType) where
  -- n places in a row, the first of which is at p
  abbrev pub places : Ptr → ℕ → List (Ptr × Unit {0})
  places p zero = []
  places p (suc n) = (p, tt) ∷ places (p +ₚ type_size B) n

  -- the places of these chunks
  abbrev pub all_places : List (Ptr × ℕ) → List (Ptr × Unit {0})
  all_places [] = []
  all_places (c ∷ cs) = places c.0 c.1 ++ all_places cs

  -- a chunk's memory, at the type that it was allocated for
  abbrev pub chunk_ty : ℕ → Ty
  chunk_ty n = raw (ty_array (lone B.mir) n)

  -- the right to give a chunk of n places back, which take fewer than 2 ^ 63 bytes
  abbrev pub deed : (Ty → Ptr → Fml) → Ptr → ℕ → Fml
  deed t p n = in_block p (fsep (flt (n * type_size B) (2 ^ 63)) (t (chunk_ty n) p))

  abbrev pub chunk_owns : (Ty → Ptr → Fml) → Ptr → ℕ → Fml
  chunk_owns t p n = fsep (room_for (chunk_ty n) p) (deed t p n)

  abbrev pub block_owns : Ptr × B.Denot → Fml
  block_owns b = box_owns token B b.0 b.1

  abbrev pub blocks_own : List (Ptr × B.Denot) → Fml
  blocks_own = all_own block_owns

  -- a place where no block lies
  abbrev pub vacancy : Ptr × Unit {0} → Fml
  vacancy v = fsep (room_for (raw (lone B.mir)) v.0) (token (raw (lone B.mir)) v.0)

  abbrev pub vacancies_own : List (Ptr × Unit {0}) → Fml
  vacancies_own = all_own vacancy

  abbrev pub deeds_own : List (Ptr × ℕ) → Fml
  deeds_own = all_own (λ c. deed heap_token c.0 c.1)

  -- each place of the chunks is a block's or vacant, and once
  abbrev pub IsShared : List (Ptr × B.Denot) → List (Ptr × Unit {0}) → List (Ptr × ℕ) → Type 0
  IsShared bs vs cs = (p : Ptr) → times p bs + times p vs ≡ times p (all_places cs)

  abbrev pub all_owns : List (Ptr × B.Denot) → List (Ptr × Unit {0}) → List (Ptr × ℕ) → Fml
  all_owns bs vs cs = fsep (blocks_own bs) (fsep (vacancies_own vs) (fsep (deeds_own cs) (fex (IsShared bs vs cs) (λ _. ftrue))))

  abbrev pub blocks_lent : List (Ptr × B.Denot) → Lft → Fml
  blocks_lent [] = nothing
  blocks_lent (b ∷ bs) = beside (lent_at B b.0 b.1) (blocks_lent bs)

module _ (T : RattleType) where
  abbrev pub owner_owns : List (Ptr × Block T.Denot) → List (Ptr × Unit {0}) → List (Ptr × ℕ) → Fml
  owner_owns = all_owns (block.the_row T)

  abbrev pub owner_lends : List (Ptr × Block T.Denot) → Lft → Fml
  owner_lends = blocks_lent (block.the_row T)

  abbrev pub block_row : RattleType
  block_row = block.the_row T

  abbrev pub block_places : Ptr → ℕ → List (Ptr × Unit {0})
  block_places = places (block.the_row T)

  -- n places on from p
  abbrev pub block_further : ℕ → Ptr → Ptr
  block_further n (block_ptr b o) = block_ptr b (n * type_size block_row + o)
  block_further n null_ptr = null_ptr
