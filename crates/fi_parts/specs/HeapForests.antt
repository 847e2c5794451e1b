-- Trees of slots, and how the links of the nodes make them.
use Rattle.std.specs.Prelude.{◌≡◌, ℕ, zero, suc, ◌+◌, Bool, true, false, cond, eqb, Option, Some, None, is_some}
use Rattle.std.specs.Ordering.{is_le}
use Rattle.std.specs.declared.cmp.Ordering.{Ordering}
use Rattle.fi_parts.specs.declared.heap_nodes.Back.{Back}
use Rattle.fi_parts.specs.declared.heap_nodes.Back.TheVariants.{Root, Parent, Sibling}
use Rattle.fi_parts.specs.declared.heap_nodes.HeapLinks.{HeapLinks}

-- trees side by side: the first one's slot, its children, and the trees after it
pub data Forest : Type 0 where
  nil : Forest
  node : ℕ → Forest → Forest → Forest

-- one tree by its slot and its children, or none
pub data Tree : Type 0 where
  no_tree : Tree
  tree : ℕ → Forest → Tree

abbrev pub head : Forest → Option ℕ
head nil = None
head (node x kids rest) = Some x

abbrev pub top : Tree → Option ℕ
top no_tree = None
top (tree x kids) = Some x

abbrev pub one_at : ℕ → ℕ → ℕ
one_at k x = cond (eqb k x) 1 0

-- how often a slot stands in a forest, and in a tree
abbrev pub count : ℕ → Forest → ℕ
count k nil = 0
count k (node x kids rest) = one_at k x + (count k kids + count k rest)

abbrev pub count_in : ℕ → Tree → ℕ
count_in k no_tree = 0
count_in k (tree x kids) = one_at k x + count k kids

-- how many trees stand side by side
abbrev pub roots : Forest → ℕ
roots nil = 0
roots (node x kids rest) = suc (roots rest)

-- links under slots

abbrev pub child_of : Option HeapLinks → Option ℕ
child_of None = None
child_of (Some l) = l.child

abbrev pub next_of : Option HeapLinks → Option ℕ
next_of None = None
next_of (Some l) = l.next

abbrev pub child_to : Option HeapLinks → Option ℕ → Option HeapLinks
child_to None child = None
child_to (Some l) child = Some (record l { child = child })

abbrev pub next_to : Option HeapLinks → Option ℕ → Option HeapLinks
next_to None next = None
next_to (Some l) next = Some (record l { next = next })

abbrev pub back_to : Option HeapLinks → Back → Option HeapLinks
back_to None back = None
back_to (Some l) back = Some (record l { back = back })

-- the links with these under one slot
abbrev pub linked : (ℕ → Option HeapLinks) → ℕ → Option HeapLinks → ℕ → Option HeapLinks
linked g x links k = cond (eqb k x) links (g k)

-- the same, with the way back from the first of a chain
abbrev pub backed : (ℕ → Option HeapLinks) → Option ℕ → Back → ℕ → Option HeapLinks
backed g None back = g
backed g (Some x) back = linked g x (back_to (g x) back)

-- the links once the link that leads to a node leads elsewhere
abbrev pub pointed : (ℕ → Option HeapLinks) → Back → Option ℕ → ℕ → Option HeapLinks
pointed g Root to = g
pointed g (Parent x) to = linked g x (child_to (g x) to)
pointed g (Sibling x) to = linked g x (next_to (g x) to)

-- the root then
abbrev pub root_to : Option ℕ → Back → Option ℕ → Option ℕ
root_to old Root to = to
root_to old (Parent x) to = old
root_to old (Sibling x) to = old

-- the node whose link it is, if it is one's, is linked
abbrev pub IsBackLinked : (ℕ → Option HeapLinks) → Back → Type 0
IsBackLinked g Root = Unit {0}
IsBackLinked g (Parent x) = is_some (g x) ≡ true
IsBackLinked g (Sibling x) = is_some (g x) ≡ true

-- the links with another place among the siblings
abbrev pub placed : Option HeapLinks → Option ℕ → Back → Option HeapLinks
placed links next back = back_to (next_to links next) back

-- the links once `child` is the first child of `parent`, before the child `older`
abbrev pub adopted_before : (ℕ → Option HeapLinks) → Option ℕ → ℕ → ℕ → ℕ → Option HeapLinks
adopted_before g older parent child =
    let back = backed g older (Sibling child) in
    let moved = linked back child (placed (back child) older (Parent parent)) in
    linked moved parent (child_to (moved parent) (Some child))

abbrev pub adopted : (ℕ → Option HeapLinks) → ℕ → ℕ → ℕ → Option HeapLinks
adopted g parent child = adopted_before g (child_of (g parent)) parent child

-- the links make this forest, and this way leads back from its first tree
abbrev pub Makes : (ℕ → Option HeapLinks) → Back → Forest → Type 0
Makes g back nil = Unit {0}
Makes g back (node x kids rest) =
    (g x ≡ Some (record { child = head kids; next = head rest; back = back })) × Makes g (Parent x) kids × Makes g (Sibling x) rest

-- the links make these trees, whatever way leads back from each
abbrev pub Strings : (ℕ → Option HeapLinks) → Forest → Type 0
Strings g nil = Unit {0}
Strings g (node x kids rest) =
    (is_some (g x) ≡ true) × (child_of (g x) ≡ head kids) × (next_of (g x) ≡ head rest) × Makes g (Parent x) kids × Strings g rest

-- the links make this tree, wherever its top's own links lead
abbrev pub Holds : (ℕ → Option HeapLinks) → Tree → Type 0
Holds g no_tree = Unit {0}
Holds g (tree x kids) = (is_some (g x) ≡ true) × (child_of (g x) ≡ head kids) × Makes g (Parent x) kids

-- the links make this tree, whose top is the root of the heap
abbrev pub Roots : (ℕ → Option HeapLinks) → Tree → Type 0
Roots g no_tree = Unit {0}
Roots g (tree x kids) = (g x ≡ Some (record { child = head kids; next = None; back = Root })) × Makes g (Parent x) kids

-- so many steps along a chain at most
abbrev pub span : (ℕ → Option HeapLinks) → ℕ → Option ℕ → ℕ
span g zero at = zero
span g (suc n) None = zero
span g (suc n) (Some x) = suc (span g n (next_of (g x)))

module _ {T : Type 0} (cmp : T → T → Ordering) where
  -- the first of two values is at most the second
  abbrev pub at_most : Option T → Option T → Bool
  at_most None b = false
  at_most (Some a) None = false
  at_most (Some a) (Some b) = is_le (cmp a b)

  -- a slot's value is at least that of the slot above, if there is one
  abbrev pub Below : (ℕ → Option T) → Option ℕ → ℕ → Type 0
  Below values None x = Unit {0}
  Below values (Some above) x = at_most (values above) (values x) ≡ true

  -- no value is less than one above it
  abbrev pub Ordered : (ℕ → Option T) → Option ℕ → Forest → Type 0
  Ordered values above nil = Unit {0}
  Ordered values above (node x kids rest) = Below values above x × Ordered values (Some x) kids × Ordered values above rest

  abbrev pub OrderedIn : (ℕ → Option T) → Tree → Type 0
  OrderedIn values no_tree = Unit {0}
  OrderedIn values (tree x kids) = Ordered values (Some x) kids
