-- Blocks, each with where it lies.
use Rattle.std.specs.Prelude.{Bool, true, false, ◌&&◌, ◌==◌, cond, List, [], ◌∷◌, Option, Some, None}
use denote.RawPtr.{Ptr, block_ptr, null_ptr, InBlock, Testable}

-- whether two pointers are the same
abbrev pub same_ptr : Ptr → Ptr → Bool
same_ptr (block_ptr b o) (block_ptr c p) = (b == c) && (o == p)
same_ptr (block_ptr b o) null_ptr = false
same_ptr null_ptr (block_ptr c p) = false
same_ptr null_ptr null_ptr = true

-- a pointer that is not null, and may be compared with null
pub record IsAddress (p : Ptr) : Type 0 where
  pub in_block : InBlock p
  pub testable : Testable p

module _ {B : Type 0} where
  -- the block at p
  unfoldable pub at_ptr : List (Ptr × B) → Ptr → Option B
  at_ptr [] p = None
  at_ptr (b ∷ bs) p = cond (same_ptr b.0 p) (Some b.1) (at_ptr bs p)

  -- the blocks, with w at p
  unfoldable pub with_at : List (Ptr × B) → Ptr → B → List (Ptr × B)
  with_at [] p w = []
  with_at (b ∷ bs) p w = cond (same_ptr b.0 p) ((b.0, w) ∷ bs) (b ∷ with_at bs p w)

  -- the blocks but the one at p
  unfoldable pub without_at : List (Ptr × B) → Ptr → List (Ptr × B)
  without_at [] p = []
  without_at (b ∷ bs) p = cond (same_ptr b.0 p) bs (b ∷ without_at bs p)
