-- What the inner contracts see of a heap's store of nodes.
use Rattle.std.specs.Prelude.{◌≡◌, ◌≢◌, ℕ, ◌⊎◌, true, false, Bool, Option, Some, None, is_some, length, slice_set}
use Rattle.std.specs.Borrow.{Lends, Fml, RattleType, MutBor}
use Rattle.std.specs.Ordering.{nat_cmp}
use Rattle.std.specs.declared.cmp.Ordering.{Ordering}
use Rattle.std.specs.FinMap as map
use Rattle.std.specs.FinSet as set
use Rattle.slab.specs.Slab.{get}
use Rattle.fi_parts.specs.declared.heap_nodes.HeapLinks.{HeapLinks}
use Rattle.fi_parts.specs.declared.heap_nodes.HeapNode.{HeapNode}
use Rattle.fi_parts.specs.declared.heap_nodes.HeapNodes.{HeapNodes}
use Rattle.fi_parts.specs.contracts.heap_nodes.HeapNodes as nodes
use Rattle.fi_parts.specs.Picked.{picked, picked_from, chosen_from}
use Rattle.fi_parts.specs.HeapForests.{linked}
use Rattle.fi_parts.specs.HeapPieces.{HeapSplit, Melds}

module _ {T : Type 0} where
  abbrev pub value_in : HeapNode T → Option T
  value_in n = Some n.value

  abbrev pub links_in : HeapNode T → Option HeapLinks
  links_in n = n.links

  abbrev pub is_in : HeapNode T → Bool
  is_in n = is_some n.links

  -- the values and the links under slots
  abbrev pub values_of : HeapNodes T → ℕ → Option T
  values_of s slot = picked value_in (get s.store slot)

  abbrev pub links_of : HeapNodes T → ℕ → Option HeapLinks
  links_of s slot = picked links_in (get s.store slot)

  abbrev pub live_of : HeapNodes T → map.FinMap nat_cmp T
  live_of s = picked_from value_in 0 s.store.slots

  abbrev pub members_of : HeapNodes T → set.FinSet nat_cmp
  members_of s = chosen_from is_in 0 s.store.slots

  -- the slot is live and linked
  abbrev pub IsLinked : HeapNodes T → ℕ → Type 0
  IsLinked s slot = is_some (links_of s slot) ≡ true

  abbrev pub relinked : Option (HeapNode T) → Option HeapLinks → Option (HeapNode T)
  relinked None links = None
  relinked (Some n) links = Some (record n { links = links })

  abbrev pub with_links : HeapNodes T → ℕ → Option HeapLinks → HeapNodes T
  with_links s slot links = record s { store = record s.store { slots = slice_set s.store.slots slot (relinked (get s.store slot) links) } }

  -- the links under one slot were written, and nothing else
  pub record Relinks (old new : HeapNodes T) (slot : ℕ) (written : Option HeapLinks) : Type 0 where
    pub links : links_of new ≡ linked (links_of old) slot written
    pub values : values_of new ≡ values_of old
    pub size : length new.store.slots ≡ length old.store.slots
    pub root : new.root ≡ old.root

  -- the same values under the same slots, and the same slots linked
  pub record Keeps (old new : HeapNodes T) : Type 0 where
    pub values : values_of new ≡ values_of old
    pub linked : (k : ℕ) → is_some (links_of new k) ≡ is_some (links_of old k)
    pub size : length new.store.slots ≡ length old.store.slots
    pub root : new.root ≡ old.root

  -- the same values under the same slots, and the same slots linked, whatever the root
  pub record KeepsValues (old new : HeapNodes T) : Type 0 where
    pub values : values_of new ≡ values_of old
    pub linked : (k : ℕ) → is_some (links_of new k) ≡ is_some (links_of old k)

  -- the same values under the same slots, and this slot alone is no longer linked
  pub record TakesOut (old new : HeapNodes T) (slot : ℕ) : Type 0 where
    pub values : values_of new ≡ values_of old
    pub here : is_some (links_of new slot) ≡ false
    pub others : (k : ℕ) → k ≢ slot → is_some (links_of new k) ≡ is_some (links_of old k)

  -- the same values under the same slots, and this slot alone is linked besides
  pub record PutsIn (old new : HeapNodes T) (slot : ℕ) : Type 0 where
    pub values : values_of new ≡ values_of old
    pub here : is_some (links_of new slot) ≡ true
    pub others : (k : ℕ) → k ≢ slot → is_some (links_of new k) ≡ is_some (links_of old k)

  abbrev pub loose_node : T → HeapNode T
  loose_node value = record { value = value; links = None }

  abbrev pub revalued : Option (HeapNode T) → T → Option (HeapNode T)
  revalued None value = None
  revalued (Some n) value = Some (record n { value = value })

  -- the value under a live slot was written
  abbrev pub with_value : HeapNodes T → ℕ → T → HeapNodes T
  with_value s slot value = record s { store = record s.store { slots = slice_set s.store.slots slot (revalued (get s.store slot) value) } }

  -- the store is in these pieces
  abbrev pub InParts : (T → T → Ordering) → HeapNodes T → Option ℕ → Option ℕ → Option ℕ → Option ℕ → Type 0
  InParts cmp s main held rest pairs = HeapSplit cmp (links_of s) (values_of s) main held rest pairs

  -- all linked slots are one tree
  abbrev pub IsHeap : (T → T → Ordering) → HeapNodes T → Type 0
  IsHeap cmp s = InParts cmp s s.root None None None

  -- one of the two has adopted the other
  abbrev pub MeldsInto : (T → T → Ordering) → HeapNodes T → HeapNodes T → ℕ → ℕ → ℕ → Type 0
  MeldsInto cmp old new left right winner =
      ((winner ≡ left) × Melds cmp (links_of old) (links_of new) (values_of old) left right)
      ⊎ ((winner ≡ right) × Melds cmp (links_of old) (links_of new) (values_of old) right left)

module _ (T : RattleType) (s : MutBor (HeapNodes T.Denot)) (slot : ℕ) where
  abbrev pub LendsValueIn : MutBor T.Denot → Fml
  LendsValueIn r = Lends (nodes.the_row T) T s r (with_value s.now slot)
