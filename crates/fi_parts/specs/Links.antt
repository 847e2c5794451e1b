-- How the links of the blocks make one list. A key is a block's pointer.
use Rattle.std.specs.Prelude.{◌≡◌, ℕ, zero, suc, Bool, true, false, not, filter, List, [], ◌∷◌, Option, Some, None}
use Rattle.std.specs.List.{list_any}
use Rattle.fi_parts.specs.declared.blocks.block.Links.{Links}
use Rattle.fi_parts.specs.declared.blocks.block.BlockPtr.{BlockPtr}
use Rattle.fi_parts.specs.Placed.{same_ptr}
use Rattle.fi_parts.specs.Order.{head_or, last_or}

module _ {T : Type 0} where
  abbrev pub alike : BlockPtr T → BlockPtr T → Bool
  alike p q = same_ptr p.ptr q.ptr

  -- the links of a block that is not in the list
  abbrev pub loose : Links T
  loose = record { younger = None; older = None; linked = false }

  -- the links of a block between these two
  abbrev pub between : Option (BlockPtr T) → Option (BlockPtr T) → Links T
  between y o = record { younger = y; older = o; linked = true }

  abbrev pub older_to : Option (Links T) → Option (BlockPtr T) → Links T
  older_to None o = loose
  older_to (Some l) o = record l { older = o }

  abbrev pub younger_to : Option (Links T) → Option (BlockPtr T) → Links T
  younger_to None y = loose
  younger_to (Some l) y = record l { younger = y }

  abbrev pub is_linked : Option (Links T) → Bool
  is_linked None = false
  is_linked (Some l) = l.linked

  abbrev pub older_of : Option (Links T) → Option (BlockPtr T)
  older_of None = None
  older_of (Some l) = l.older

  abbrev pub names : BlockPtr T → List (BlockPtr T) → Bool
  names x xs = list_any (alike x) xs

  -- no block stands twice
  abbrev pub Distinct : List (BlockPtr T) → Type 0
  Distinct [] = Unit {0}
  Distinct (x ∷ xs) = (names x xs ≡ false) × Distinct xs

  -- the list without this block
  abbrev pub without : BlockPtr T → List (BlockPtr T) → List (BlockPtr T)
  without x xs = filter (λ y. not (alike x y)) xs

  -- the blocks xs name each other, the first one names p and the last one n
  unfoldable pub Chain : (BlockPtr T → Option (Links T)) → Option (BlockPtr T) → List (BlockPtr T) → Option (BlockPtr T)
      → Type 0
  Chain g p [] n = Unit {0}
  Chain g p (x ∷ xs) n = (g x ≡ Some (between p (head_or xs n))) × Chain g (Some x) xs n

  -- so many blocks from this one on, as the links name them
  unfoldable pub walk : (BlockPtr T → Option (Links T)) → ℕ → Option (BlockPtr T) → List (BlockPtr T)
  walk g zero at = []
  walk g (suc n) None = []
  walk g (suc n) (Some x) = x ∷ walk g n (older_of (g x))

  -- the links make the list xs
  pub record Linked (g : BlockPtr T → Option (Links T)) (first last : Option (BlockPtr T)) (xs : List (BlockPtr T))
      : Type 0 where
    pub chain : Chain g None xs None
    pub first_is : first ≡ head_or xs None
    pub last_is : last ≡ last_or None xs
    pub flags : (k : BlockPtr T) → is_linked (g k) ≡ names k xs
    pub distinct : Distinct xs
