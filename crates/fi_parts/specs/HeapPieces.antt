-- The pieces that a heap is in while trees are taken apart and melded.
use Rattle.std.specs.Prelude.{◌≡◌, ℕ, ◌+◌, ◌≤◌, cond, Option, None, is_some, true}
use Rattle.std.specs.declared.cmp.Ordering.{Ordering}
use Rattle.fi_parts.specs.declared.heap_nodes.HeapLinks.{HeapLinks}
use Rattle.fi_parts.specs.HeapForests.{Forest, Tree, head, top, count, count_in, Strings, Holds, Roots, Ordered, OrderedIn, tree}
use Rattle.fi_parts.specs.HeapForests.{adopted, at_most}

-- 1 for a slot that is linked
abbrev pub flag : Option HeapLinks → ℕ
flag links = cond (is_some links) 1 0

-- the links make the heap's tree, one tree that is held, and two chains of trees, in which each linked slot stands once
pub record Pieces {T : Type 0} (cmp : T → T → Ordering) (g : ℕ → Option HeapLinks) (values : ℕ → Option T) (main held : Tree)
    (rest pairs : Forest) : Type 0 where
  pub main_made : Roots g main
  pub held_made : Holds g held
  pub rest_made : Strings g rest
  pub pairs_made : Strings g pairs
  pub main_ordered : OrderedIn cmp values main
  pub held_ordered : OrderedIn cmp values held
  pub rest_ordered : Ordered cmp values None rest
  pub pairs_ordered : Ordered cmp values None pairs
  pub tally : (k : ℕ) → (count_in k main + count_in k held) + (count k rest + count k pairs) ≡ flag (g k)

-- the links make some such pieces, which begin at these slots
pub record HeapSplit {T : Type 0} (cmp : T → T → Ordering) (g : ℕ → Option HeapLinks) (values : ℕ → Option T)
    (main_at held_at rest_at pairs_at : Option ℕ) : Type 0 where
  pub main : Tree
  pub held : Tree
  pub rest : Forest
  pub pairs : Forest
  pub main_top : top main ≡ main_at
  pub held_top : top held ≡ held_at
  pub rest_head : head rest ≡ rest_at
  pub pairs_head : head pairs ≡ pairs_at
  pub pieces : Pieces cmp g values main held rest pairs

-- two trees that share no slot begin at these slots
pub record Meldable (g : ℕ → Option HeapLinks) (a b : ℕ) : Type 0 where
  pub first : Forest
  pub second : Forest
  pub first_held : Holds g (tree a first)
  pub second_held : Holds g (tree b second)
  pub apart : (k : ℕ) → count_in k (tree a first) + count_in k (tree b second) ≤ 1

-- `parent`, one of two slots, has adopted the other, whose value isn't less
pub record Melds {T : Type 0} (cmp : T → T → Ordering) (old new : ℕ → Option HeapLinks) (values : ℕ → Option T) (parent child : ℕ) :
    Type 0 where
  pub order : at_most cmp (values parent) (values child) ≡ true
  pub links : new ≡ adopted old parent child
