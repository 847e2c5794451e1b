-- What each change of a heap's store makes of the links, the values and the members.
use Rattle.std.proofs.Common.{◌≡◌, ℕ, ◌<◌, true, length, Option, Some, None, is_some, IsSome, IfSome, refl, sym, ap}
use Rattle.std.proofs.Common.{◌∙◌, arith}
use Rattle.std.proofs.lemmas.Bool.{cases_eq, false≢true}
use Rattle.std.proofs.lemmas.List.{length-set}
use Rattle.std.specs.FinMap as map
use Rattle.std.specs.FinSet as finite
use Rattle.slab.specs.Slab.{get, ContainsKey, Updates}
use Rattle.slab.proofs.SlabLemmas.{Updates-set, ContainsKey-within}
use Rattle.fi_parts.specs.declared.heap_nodes.HeapLinks.{HeapLinks}
use Rattle.fi_parts.specs.declared.heap_nodes.HeapNode.{HeapNode}
use Rattle.fi_parts.specs.declared.heap_nodes.HeapNodes.{HeapNodes}
use Rattle.fi_parts.specs.declared.heap_nodes.Back.{Back}
use Rattle.fi_parts.specs.declared.heap_nodes.Back.TheVariants.{Parent, Sibling}
use Rattle.fi_parts.specs.HeapForests.{linked, backed, child_of, child_to, back_to, placed, adopted, adopted_before}
use Rattle.fi_parts.specs.HeapNodes.{value_in, links_in, is_in, values_of, links_of, live_of, members_of, IsLinked, relinked, with_links}
use Rattle.fi_parts.specs.HeapNodes.{Relinks, Keeps, KeepsValues, TakesOut, PutsIn}
use Rattle.fi_parts.specs.Picked.{picked, chosen}
use Rattle.fi_parts.proofs.Picked.{get-picked, contains-chosen}
use Rattle.fi_parts.proofs.HeapForests.{linked-same, linked-other, linked-some}

module _ {T : Type 0} where
  pub get-live_of : (s : HeapNodes T) (q : ℕ) → map.get (live_of s) q ≡ values_of s q
  get-live_of s q = get-picked value_in s.store.slots q

  pub contains-members_of : (s : HeapNodes T) (q : ℕ) → finite.contains (members_of s) q ≡ is_some (links_of s q)
  contains-members_of s q = contains-chosen is_in s.store.slots q ∙ is (get s.store q)
    where
      is : (o : Option (HeapNode T)) → chosen is_in o ≡ is_some (picked links_in o)
      is None = refl
      is (Some n) = refl

  -- a linked slot is live
  pub is_live : (s : HeapNodes T) (k : ℕ) → is_some (links_of s k) ≡ true → ContainsKey s.store k
  is_live s k at = from (get s.store k) at
    where
      from : (o : Option (HeapNode T)) → is_some (picked links_in o) ≡ true → IsSome o
      from None e = absurd (false≢true e)
      from (Some n) e = refl

  pub is_within : (s : HeapNodes T) (k : ℕ) → is_some (links_of s k) ≡ true → k < length s.store.slots
  is_within s k at = ContainsKey-within s.store k (is_live s k at)

  -- a slot is live exactly if it has a value
  valued : (o : Option (HeapNode T)) → is_some (picked value_in o) ≡ is_some o
  valued None = refl
  valued (Some n) = refl

  pub live-value : (s : HeapNodes T) (k : ℕ) → ContainsKey s.store k → is_some (values_of s k) ≡ true
  live-value s k live = valued (get s.store k) ∙ live

  pub value-live : (s : HeapNodes T) (k : ℕ) → is_some (values_of s k) ≡ true → ContainsKey s.store k
  value-live s k at = sym (valued (get s.store k)) ∙ at

  -- links written under one slot

  pub Relinks-with_links : (s : HeapNodes T) (x : ℕ) (w : Option HeapLinks) → ContainsKey s.store x → Relinks s (with_links s x w) x w
  Relinks-with_links s x w live =
      let updates = Updates-set s.store (with_links s x w).store x (relinked (get s.store x) w) (ContainsKey-within s.store x live)
      refl in record {
        links = λ i. λ k. links-at updates k i;
        values = λ i. λ k. values-at updates k i;
        size = length-set s.store.slots x _;
        root = refl;
      }
    where
      links-is : (o : Option (HeapNode T)) → IsSome o → picked links_in (relinked o w) ≡ w
      links-is None some = absurd (false≢true some)
      links-is (Some n) some = refl

      values-is : (o : Option (HeapNode T)) → picked value_in (relinked o w) ≡ picked value_in o
      values-is None = refl
      values-is (Some n) = refl

      links-at : Updates s.store (with_links s x w).store x (relinked (get s.store x) w) → (k : ℕ) → links_of (with_links s x w) k
          ≡ linked (links_of s) x w k
      links-at updates k =
          grind (arith, cases_eq k x, links-is (get s.store x) live, updates.changed, updates.others k, linked-other (links_of s) x w k)

      values-at : Updates s.store (with_links s x w).store x (relinked (get s.store x) w) → (k : ℕ) → values_of (with_links s x w) k
          ≡ values_of s k
      values-at updates k = grind (arith, cases_eq k x, values-is (get s.store x), updates.changed, updates.others k)

  pub Keeps-itself : (s : HeapNodes T) → Keeps s s
  Keeps-itself s = record { values = refl; linked = λ k. refl; size = refl; root = refl }

  pub Keeps-then : (s t u : HeapNodes T) → Keeps s t → Keeps t u → Keeps s u
  Keeps-then s t u a b = record {
    values = b.values ∙ a.values;
    linked = λ k. b.linked k ∙ a.linked k;
    size = b.size ∙ a.size;
    root = b.root ∙ a.root;
  }

  pub Keeps-relinks : (s t : HeapNodes T) (x : ℕ) (w : Option HeapLinks) → Relinks s t x w → is_some w ≡ is_some (links_of s x) → Keeps s t
  Keeps-relinks s t x w r some = record {
    values = r.values;
    linked = λ k. ap (λ f. is_some (f k)) r.links ∙ linked-some (links_of s) x w some k;
    size = r.size;
    root = r.root;
  }

pub back_to-some : (o : Option HeapLinks) (back : Back) → is_some (back_to o back) ≡ is_some o
back_to-some None back = refl
back_to-some (Some l) back = refl

pub placed-some : (o : Option HeapLinks) (next : Option ℕ) (back : Back) → is_some (placed o next back) ≡ is_some o
placed-some None next back = refl
placed-some (Some l) next back = refl

-- a change of the links under one slot
abbrev pub changed : (ℕ → Option HeapLinks) → ℕ → (Option HeapLinks → Option HeapLinks) → ℕ → Option HeapLinks
changed g x f = linked g x (f (g x))

-- changes of different links, under whatever slots, come to the same in either order
pub changed-after : (g : ℕ → Option HeapLinks) (x y : ℕ) (f h : Option HeapLinks → Option HeapLinks)
    → ((o : Option HeapLinks) → h (f o) ≡ f (h o)) → changed (changed g x f) y h ≡ changed (changed g y h) x f
changed-after g x y f h same = λ i. λ k. at k i
  where
    at : (k : ℕ) → changed (changed g x f) y h k ≡ changed (changed g y h) x f k
    at k = grind (arith, cases_eq k x, cases_eq k y, cases_eq x y, same (g k))

child-back : (o : Option HeapLinks) (child : Option ℕ) (back : Back) → back_to (child_to o child) back ≡ child_to (back_to o back) child
child-back None child back = refl
child-back (Some l) child back = refl

child-placed : (o : Option HeapLinks) (child next : Option ℕ) (back : Back) → placed (child_to o child) next back
    ≡ child_to (placed o next back) child
child-placed None child next back = refl
child-placed (Some l) child next back = refl

backed-changed : (g : ℕ → Option HeapLinks) (p : ℕ) (child first : Option ℕ) (back : Back)
    → backed (changed g p (λ o. child_to o child)) first back ≡ changed (backed g first back) p (λ o. child_to o child)
backed-changed g p child None back = refl
backed-changed g p child (Some x) back =
    changed-after g p x (λ o. child_to o child) (λ o. back_to o back) (λ o. child-back o child back)

module _ {T : Type 0} where
  -- a slot stays linked
  pub linked-kept : (s t : HeapNodes T) → Keeps s t → (k : ℕ) → IsLinked s k → IsLinked t k
  linked-kept s t keeps k at = keeps.linked k ∙ at

  pub linked-kept-if : (s t : HeapNodes T) → Keeps s t → (o : Option ℕ) → IfSome o (λ k. IsLinked s k) → IfSome o (λ k. IsLinked t k)
  linked-kept-if s t keeps None at = at
  linked-kept-if s t keeps (Some k) at = linked-kept s t keeps k at

  -- the three writes of an adoption
  pub adopted-links : (s t u w : HeapNodes T) (p c : ℕ) (older : Option ℕ) → older ≡ child_of (links_of s p)
      → Relinks s t p (child_to (links_of s p) (Some c)) → links_of u ≡ backed (links_of t) older (Sibling c)
      → Relinks u w c (placed (links_of u c) older (Parent p)) → links_of w ≡ adopted (links_of s) p c
  adopted-links s t u w p c older is child back place =
      let told = λ (o : Option HeapLinks). child_to o (Some c) in
      let moved = λ (o : Option HeapLinks). placed o older (Parent p) in
      let after : links_of u ≡ changed (backed (links_of s) older (Sibling c)) p told =
      back ∙ ap (λ (g : ℕ → Option HeapLinks). backed g older (Sibling c)) child.links
      ∙ backed-changed (links_of s) p (Some c) older (Sibling c) in
      let last = changed-after (backed (links_of s) older (Sibling c)) p c told moved (λ o. child-placed o (Some c) older (Parent p)) in
      place.links ∙ ap (λ (b : ℕ → Option HeapLinks). changed b c moved) after ∙ last
      ∙ ap (λ (o : Option ℕ). adopted_before (links_of s) o p c) is

  pub values-kept : (s t : HeapNodes T) → Keeps s t → KeepsValues s t
  values-kept s t keeps = record { values = keeps.values; linked = keeps.linked }

  pub KeepsValues-relinks : (s t : HeapNodes T) (x : ℕ) (w : Option HeapLinks) → Relinks s t x w → is_some w ≡ is_some (links_of s x)
      → KeepsValues s t
  KeepsValues-relinks s t x w r some = values-kept s t (Keeps-relinks s t x w r some)

  -- a node is no longer linked, and the others stay so

  pub TakesOut-unlinked : (s t : HeapNodes T) (x : ℕ) → Relinks s t x None → TakesOut s t x
  TakesOut-unlinked s t x r = record {
    values = r.values;
    here = ap (λ f. is_some (f x)) r.links ∙ ap is_some (linked-same (links_of s) x None);
    others = λ k ne. ap (λ f. is_some (f k)) r.links ∙ ap is_some (linked-other (links_of s) x None k ne);
  }

  pub TakesOut-then : (s t u : HeapNodes T) (x : ℕ) → TakesOut s t x → KeepsValues t u → TakesOut s u x
  TakesOut-then s t u x out keeps = record {
    values = keeps.values ∙ out.values;
    here = keeps.linked x ∙ out.here;
    others = λ k ne. keeps.linked k ∙ out.others k ne;
  }

  pub PutsIn-linked : (s t : HeapNodes T) (x : ℕ) (l : HeapLinks) → Relinks s t x (Some l) → PutsIn s t x
  PutsIn-linked s t x l r = record {
    values = r.values;
    here = ap (λ f. is_some (f x)) r.links ∙ ap is_some (linked-same (links_of s) x (Some l));
    others = λ k ne. ap (λ f. is_some (f k)) r.links ∙ ap is_some (linked-other (links_of s) x (Some l) k ne);
  }

  pub PutsIn-then : (s t u : HeapNodes T) (x : ℕ) → PutsIn s t x → KeepsValues t u → PutsIn s u x
  PutsIn-then s t u x in_it keeps = record {
    values = keeps.values ∙ in_it.values;
    here = keeps.linked x ∙ in_it.here;
    others = λ k ne. keeps.linked k ∙ in_it.others k ne;
  }

  pub KeepsValues-then : (s t u : HeapNodes T) → KeepsValues s t → KeepsValues t u → KeepsValues s u
  KeepsValues-then s t u a b = record { values = b.values ∙ a.values; linked = λ k. b.linked k ∙ a.linked k }
