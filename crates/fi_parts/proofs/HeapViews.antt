-- A heap as its callers see it, after each change of its store.
use Rattle.std.proofs.Common.{◌≡◌, ◌≢◌, ℕ, ◌+◌, ◌≤◌, Bool, true, false, not, eqb, [], get_or, Option, Some, None, is_some, IsSome, Bor}
use Rattle.std.proofs.Common.{option_copied, refl, sym, ap, subst, ◌∙◌, inl, inr, arith}
use Rattle.std.proofs.lemmas.Bool.{cases_eq, false≢true, true≢false, eq-eqb, ne_eqb}
use Rattle.std.proofs.lemmas.Option.{same_Some}
use Rattle.std.specs.Ordering.{nat_cmp, is_le, ordering_reverse}
use Rattle.std.specs.declared.cmp.Ordering.{Ordering}
use Rattle.std.specs.declared.cmp.Ordering.TheVariants.{Less, Greater}
use Rattle.std.specs.Cmp.{IsTotalOrder, nat_cmp_total}
use Rattle.std.specs.FinMap as map
use Rattle.std.specs.FinSet as finite
use Rattle.slab.specs.Slab.{get, ContainsKey, Updates}
use Rattle.slab.proofs.SlabLemmas.{Updates-set, ContainsKey-within}
use Rattle.fi_parts.specs.declared.heap_nodes.HeapLinks.{HeapLinks}
use Rattle.fi_parts.specs.declared.heap_nodes.HeapNode.{HeapNode}
use Rattle.fi_parts.specs.declared.heap_nodes.HeapNodes.{HeapNodes}
use Rattle.fi_parts.specs.HeapModel.{HeapModel, IsLiveIn, with_values, MembersAreLive, IsLeastOf}
use Rattle.fi_parts.specs.HeapForests.{nil, no_tree, count, count_in, at_most}
use Rattle.fi_parts.specs.HeapPieces.{flag, HeapSplit}
use Rattle.fi_parts.specs.HeapNodes.{value_in, links_in, values_of, links_of, live_of, members_of, TakesOut, PutsIn, loose_node, revalued}
use Rattle.fi_parts.specs.HeapNodes.{with_value, InParts, IsHeap}
use Rattle.fi_parts.specs.Picked.{picked}
use Rattle.fi_parts.proofs.Picked.{get-insert_same, get-insert_other, get-remove_same, get-remove_other, contains-insert_same}
use Rattle.fi_parts.proofs.Picked.{contains-insert_other, contains-remove_same, contains-remove_other}
use Rattle.fi_parts.proofs.HeapForests.{one_at-other, Ordered-alike, OrderedIn-alike, at_most-all}
use Rattle.fi_parts.proofs.FiniteMaps.{same_maps}
use Rattle.fi_parts.proofs.HeapPieces.{flag-some, some-flag, opened, parts}
use Rattle.fi_parts.proofs.HeapNodes.{get-live_of, contains-members_of, is_live, live-value, value-live}

module _ {T : Type 0} where
  abbrev pub heaped : HeapNodes T → HeapModel T
  heaped s = record { live = live_of s; members = members_of s }

  -- the maps and sets

  pub live-same : (s t : HeapNodes T) → values_of t ≡ values_of s → live_of t ≡ live_of s
  live-same s t same =
      map.same_map nat_cmp_total map.nat_cmp-IsAntisymmetric _ _ (λ q. get-live_of t q ∙ ap (λ f. f q) same ∙ sym (get-live_of s q))

  pub live-inserted : (s t : HeapNodes T) (x : ℕ) (v : T) → values_of t x ≡ Some v → ((k : ℕ) → k ≢ x → values_of t k ≡ values_of s k)
      → live_of t ≡ map.insert (live_of s) x v
  live-inserted s t x v here others =
      same_maps _ _ x (get-live_of t x ∙ here ∙ sym (get-insert_same (live_of s) x v))
      (λ q ne. get-live_of t q ∙ others q ne ∙ sym (get-live_of s q) ∙ sym (get-insert_other (live_of s) x v q ne))

  pub live-removed : (s t : HeapNodes T) (x : ℕ) → values_of t x ≡ None → ((k : ℕ) → k ≢ x → values_of t k ≡ values_of s k) → live_of t
      ≡ map.remove (live_of s) x
  live-removed s t x here others =
      same_maps _ _ x (get-live_of t x ∙ here ∙ sym (get-remove_same (live_of s) x))
      (λ q ne. get-live_of t q ∙ others q ne ∙ sym (get-live_of s q) ∙ sym (get-remove_other (live_of s) x q ne))

  pub members-same : (s t : HeapNodes T) → links_of t ≡ links_of s → members_of t ≡ members_of s
  members-same s t same =
      finite.same_set nat_cmp_total map.nat_cmp-IsAntisymmetric _ _
      (λ q. contains-members_of t q ∙ ap (λ f. is_some (f q)) same ∙ sym (contains-members_of s q))

  same_members : (t : HeapNodes T) (slots : finite.FinSet nat_cmp) (x : ℕ) → is_some (links_of t x) ≡ finite.contains slots x →
      ((q : ℕ) → q ≢ x → is_some (links_of t q) ≡ finite.contains slots q) → members_of t ≡ slots
  same_members t slots x here others = finite.same_set nat_cmp_total map.nat_cmp-IsAntisymmetric _ _
      (λ q. contains-members_of t q ∙ elim (cases_eq q x) [ inl same ↦ rw same here | inr ne ↦ others q ne ])

  pub members-inserted : (s t : HeapNodes T) (x : ℕ) → PutsIn s t x → members_of t ≡ finite.insert (members_of s) x
  members-inserted s t x puts =
      same_members t _ x (puts.here ∙ sym (contains-insert_same (members_of s) x))
      (λ q ne. puts.others q ne ∙ sym (contains-members_of s q) ∙ sym (contains-insert_other (members_of s) x q ne))

  pub members-removed : (s t : HeapNodes T) (x : ℕ) → TakesOut s t x → members_of t ≡ finite.remove (members_of s) x
  members-removed s t x takes =
      same_members t _ x (takes.here ∙ sym (contains-remove_same (members_of s) x))
      (λ q ne. takes.others q ne ∙ sym (contains-members_of s q) ∙ sym (contains-remove_other (members_of s) x q ne))

  -- the same links, and the same values under the slots that are linked

  pub record Stays (s t : HeapNodes T) : Type 0 where
    pub links : links_of t ≡ links_of s
    pub values : (k : ℕ) → is_some (links_of s k) ≡ true → values_of t k ≡ values_of s k
    pub root : t.root ≡ s.root

  links_none : (s : HeapNodes T) (x : ℕ) → is_some (links_of s x) ≡ false → links_of s x ≡ None
  links_none s x e = from (links_of s x) e
    where
      from : (o : Option HeapLinks) → is_some o ≡ false → o ≡ None
      from None e = refl
      from (Some l) e = absurd (true≢false e)

  -- a slot that isn't linked is written, and isn't linked afterwards
  stays : (s t : HeapNodes T) (x : ℕ) (slot : Option (HeapNode T)) → Updates s.store t.store x slot → t.root ≡ s.root
      → is_some (links_of s x) ≡ false → picked links_in slot ≡ None → Stays s t
  stays s t x slot updates root free loose = record {
    links = λ i. λ k. links-at k i;
    values = λ k at. ap (picked value_in) (updates.others k (λ same. true≢false (sym at ∙ ap (λ z. is_some (links_of s z)) same ∙ free)));
    root = root;
  }
    where
      links-at : (k : ℕ) → links_of t k ≡ links_of s k
      links-at k = grind (arith, cases_eq k x, updates.changed, updates.others k, loose, links_none s x free)

  pub Stays-claimed : (s t : HeapNodes T) (x : ℕ) (value : T) → get s.store x ≡ None
      → Updates s.store t.store x (Some (loose_node value)) → t.root ≡ s.root → Stays s t
  Stays-claimed s t x value free updates root = stays s t x _ updates root (ap (λ o. is_some (picked links_in o)) free) refl

  pub Stays-freed : (s t : HeapNodes T) (x : ℕ) → is_some (links_of s x) ≡ false → Updates s.store t.store x None → t.root ≡ s.root
      → Stays s t
  Stays-freed s t x free updates root = stays s t x None updates root free refl

  pub Stays-refused : (s t : HeapNodes T) → t.store.slots ≡ s.store.slots → t.root ≡ s.root → Stays s t
  Stays-refused s t slots root = record {
    links = ap (λ xs. λ k. picked links_in (get_or xs k None)) slots;
    values = λ k at. ap (λ xs. picked value_in (get_or xs k None)) slots;
    root = root;
  }

  Updates-valued : (s : HeapNodes T) (x : ℕ) (w : T) → ContainsKey s.store x
      → Updates s.store (with_value s x w).store x (revalued (get s.store x) w)
  Updates-valued s x w live = Updates-set s.store (with_value s x w).store x (revalued (get s.store x) w)
      (ContainsKey-within s.store x live) refl

  pub Stays-valued : (s : HeapNodes T) (x : ℕ) (w : T) → is_some (links_of s x) ≡ false → ContainsKey s.store x → Stays s (with_value s x w)
  Stays-valued s x w free live = stays s (with_value s x w) x (revalued (get s.store x) w) (Updates-valued s x w live) refl free
      (loose (get s.store x) (links_none s x free))
    where
      loose : (o : Option (HeapNode T)) → picked links_in o ≡ None → picked links_in (revalued o w) ≡ None
      loose None e = refl
      loose (Some n) e = e

  pub live-valued : (s : HeapNodes T) (x : ℕ) (w : T) → ContainsKey s.store x → live_of (with_value s x w) ≡ map.insert (live_of s) x w
  live-valued s x w live =
      live-inserted s (with_value s x w) x w (ap (picked value_in) (Updates-valued s x w live).changed ∙ is (get s.store x) live)
      (λ k ne. ap (picked value_in) ((Updates-valued s x w live).others k ne))
    where
      is : (o : Option (HeapNode T)) → IsSome o → picked value_in (revalued o w) ≡ Some w
      is None some = absurd (false≢true some)
      is (Some n) some = refl

  module _ (cmp : T → T → Ordering) where
    pub heap-stays : (s t : HeapNodes T) → Stays s t → IsHeap cmp s → IsHeap cmp t
    heap-stays s t same P =
        subst (λ (r : Option ℕ). InParts cmp t r None None None) (sym same.root)
        (subst (λ (g : ℕ → Option HeapLinks). HeapSplit cmp g (values_of t) s.root None None None) (sym same.links)
        (parts cmp (values_of t) {g = links_of s} {m = P.main} {t = P.held} {ts = P.rest} {us = P.pairs} P.main_top P.held_top P.rest_head P.pairs_head (record {
          main_made = P.pieces.main_made;
          held_made = P.pieces.held_made;
          rest_made = P.pieces.rest_made;
          pairs_made = P.pieces.pairs_made;
          main_ordered = OrderedIn-alike cmp (values_of s) (values_of t) P.main (λ k at. kept k (omega arith)) P.pieces.main_ordered;
          held_ordered = OrderedIn-alike cmp (values_of s) (values_of t) P.held (λ k at. kept k (omega arith)) P.pieces.held_ordered;
          rest_ordered = Ordered-alike cmp (values_of s) (values_of t) None P.rest (λ k e. absurd (cc)) (λ k at. kept k (omega arith))
              P.pieces.rest_ordered;
          pairs_ordered = Ordered-alike cmp (values_of s) (values_of t) None P.pairs (λ k e. absurd (cc)) (λ k at. kept k (omega arith))
              P.pieces.pairs_ordered;
          tally = P.pieces.tally;
        })).0)
      where
        kept : (k : ℕ) → 1 ≤ (count_in k P.main + count_in k P.held) + (count k P.rest + count k P.pairs) →
            values_of t k ≡ values_of s k
        kept k at = same.values k (some-flag (links_of s k) (let was = P.pieces.tally k in omega arith))

    pub heap-empty : (s : HeapNodes T) → s.store.slots ≡ [] → s.root ≡ None → IsHeap cmp s
    heap-empty s none root =
        subst (λ (r : Option ℕ). InParts cmp s r None None None) (sym root)
        (parts cmp (values_of s) {g = links_of s} {m = no_tree} {t = no_tree} {ts = nil} {us = nil} refl refl refl refl (record {
          main_made = tt;
          held_made = tt;
          rest_made = tt;
          pairs_made = tt;
          main_ordered = tt;
          held_ordered = tt;
          rest_ordered = tt;
          pairs_ordered = tt;
          tally = λ k. sym (ap (λ xs. flag (picked links_in (get_or xs k None))) none);
        })).0

    -- the least

    rooted_at : (s : HeapNodes T) (r : Option ℕ) → s.root ≡ r → IsHeap cmp s → InParts cmp s r None None None
    rooted_at s r root P = subst (λ (o : Option ℕ). InParts cmp s o None None None) root P

    less-or-not : (r : Ordering) → is_le r ≡ true → ordering_reverse r ≢ Less
    less-or-not Greater le e = absurd (false≢true le)
    less-or-not r le e = absurd (cc)

    pub record RootIsLeast (s : HeapNodes T) (r : ℕ) : Type 0 where
      pub linked : is_some (links_of s r) ≡ true
      pub least : (k : ℕ) → is_some (links_of s k) ≡ true → k ≢ r → at_most cmp (values_of s r) (values_of s k) ≡ true

    pub root-is-least : (total : IsTotalOrder cmp) (s : HeapNodes T) (r : ℕ) → s.root ≡ Some r → IsHeap cmp s → RootIsLeast s r
    root-is-least total s r root P =
        let o = opened cmp (values_of s) (rooted_at s (Some r) root P) in record {
          linked = ap is_some o.pieces.main_made.0;
          least = λ k at ne.
              let one = flag-some (links_of s k) at in
              let was = o.pieces.tally k in
              let off = one_at-other k r ne in
              at_most-all cmp total (values_of s) r o.main o.pieces.main_ordered k (omega arith);
        }

    pub root-linked : (s : HeapNodes T) (r : ℕ) → s.root ≡ Some r → IsHeap cmp s → is_some (links_of s r) ≡ true
    root-linked s r root P = ap is_some (opened cmp (values_of s) (rooted_at s (Some r) root P)).pieces.main_made.0

    pub no-root : (s : HeapNodes T) → s.root ≡ None → IsHeap cmp s → (k : ℕ) → is_some (links_of s k) ≡ false
    no-root s root P k =
        let was = (opened cmp (values_of s) (rooted_at s None root P)).pieces.tally k in none (links_of s k) (omega arith)
      where
        none : (o : Option HeapLinks) → flag o ≡ 0 → is_some o ≡ false
        none None e = refl
        none (Some l) e = absurd (omega arith)

    pub members-empty : (s : HeapNodes T) → s.root ≡ None → IsHeap cmp s → members_of s ≡ finite.empty
    members-empty s root heap =
        finite.same_set nat_cmp_total map.nat_cmp-IsAntisymmetric _ _
        (λ q. contains-members_of s q ∙ no-root s root heap q ∙ sym (finite.contains-empty nat_cmp q))

    -- what a caller sees of the least
    pub least-of : (total : IsTotalOrder cmp) (s : HeapNodes T) (r : ℕ) → s.root ≡ Some r → IsHeap cmp s → IsLeastOf cmp (heaped s) r
    least-of total s r root heap =
        let is = root-is-least total s r root heap in record {
          member = contains-members_of s r ∙ is.linked;
          live = ap is_some (get-live_of s r) ∙ live-value s r (is_live s r is.linked);
          none_less = λ other least value at here there.
              none-less other least value (sym (contains-members_of s other) ∙ at) (sym (get-live_of s r) ∙ here)
              (sym (get-live_of s other) ∙ there) is;
        }
      where
        none-less : (other : ℕ) (least value : T) → is_some (links_of s other) ≡ true → values_of s r ≡ Some least → values_of s other
            ≡ Some value → RootIsLeast s r → cmp value least ≢ Less
        none-less other least value at here there is less =
            elim (cases_eq other r) [
              | inl same ↦
                  let alike : value ≡ least = same_Some _ _ (sym there ∙ ap (values_of s) same ∙ here) in
                  itself least (ap (λ z. cmp z least) (sym alike) ∙ less)
              | inr ne ↦
                  let le : is_le (cmp least value) ≡ true = ap (λ o. at_most cmp (Some least) o) (sym there) ∙ ap
                  (λ o. at_most cmp o (values_of s other)) (sym here) ∙ is.least other at ne in
                  less-or-not (cmp least value) le (sym (total.antisymm value least) ∙ less)
            ]
          where
            less-twice : (q : Ordering) → q ≡ Less → q ≡ ordering_reverse q → ⊥
            less-twice Less e f = cc
            less-twice q e f = cc

            itself : (a : T) → cmp a a ≢ Less
            itself a e = less-twice (cmp a a) e (total.antisymm a a)

not-both : (a r : Bool) → a ≡ not r → not a ≡ r
not-both true true e = absurd (true≢false e)
not-both true false e = refl
not-both false true e = refl
not-both false false e = absurd (false≢true e)

module _ {T : Type 0} where
  -- what a caller knows of a slot, in the store's words

  pub live-under : (s : HeapNodes T) (x : ℕ) → IsLiveIn (heaped s) x → is_some (values_of s x) ≡ true
  live-under s x live = ap is_some (sym (get-live_of s x)) ∙ live

  pub free-under : (s : HeapNodes T) (x : ℕ) → finite.contains (members_of s) x ≡ false → is_some (links_of s x) ≡ false
  free-under s x free = sym (contains-members_of s x) ∙ free

  pub members-live : (s : HeapNodes T) → MembersAreLive (heaped s)
  members-live s slot at = ap is_some (get-live_of s slot) ∙ live-value s slot (is_live s slot (sym (contains-members_of s slot) ∙ at))

  pub value_none : (s : HeapNodes T) (x : ℕ) (r : Option (Bor T)) → option_copied r ≡ values_of s x → is_some r ≡ false → values_of s x
      ≡ None
  value_none s x None e none = sym e
  value_none s x (Some b) e none = absurd (true≢false none)

  pub live_from_get : (s : HeapNodes T) (x : ℕ) (r : Option (Bor T)) → option_copied r ≡ values_of s x → is_some r ≡ true
      → ContainsKey s.store x
  live_from_get s x None e some = absurd (false≢true some)
  live_from_get s x (Some b) e some = value-live s x (ap is_some (sym e))

  -- the whole view after each change

  pub view-claimed : (s t : HeapNodes T) (x : ℕ) (value : T) → get s.store x ≡ None
      → Updates s.store t.store x (Some (loose_node value)) → t.root ≡ s.root → heaped t
      ≡ with_values (heaped s) (map.insert (live_of s) x value)
  view-claimed s t x value free updates root =
      let live = live-inserted s t x value (ap (picked value_in) updates.changed) (λ k ne. ap (picked value_in) (updates.others k ne)) in
      let members = members-same s t (Stays-claimed s t x value free updates root).links in
      λ i. record { live = live i; members = members i }

  pub view-freed : (s t : HeapNodes T) (x : ℕ) → is_some (links_of s x) ≡ false → Updates s.store t.store x None → t.root ≡ s.root
      → heaped t ≡ with_values (heaped s) (map.remove (live_of s) x)
  view-freed s t x free updates root =
      let live = live-removed s t x (ap (picked value_in) updates.changed) (λ k ne. ap (picked value_in) (updates.others k ne)) in
      let members = members-same s t (Stays-freed s t x free updates root).links in
      λ i. record { live = live i; members = members i }

  pub view-valued : (s : HeapNodes T) (x : ℕ) (w : T) → is_some (links_of s x) ≡ false → ContainsKey s.store x
      → heaped (with_value s x w) ≡ with_values (heaped s) (map.insert (live_of s) x w)
  view-valued s x w free live =
      let values = live-valued s x w live in
      let members = members-same s (with_value s x w) (Stays-valued s x w free live).links in
      λ i. record { live = values i; members = members i }

  -- a root is there exactly if a member is
  pub empty-or-not : (cmp : T → T → Ordering) (s : HeapNodes T) (r : Bool) → is_some s.root ≡ not r → IsHeap cmp s → r
      ≡ eqb (finite.len (members_of s)) 0
  empty-or-not cmp s r is heap = sym (not-both (is_some s.root) r is) ∙ from s.root refl
    where
      from : (o : Option ℕ) → s.root ≡ o → not (is_some o) ≡ eqb (finite.len (members_of s)) 0
      from None e = sym (eq-eqb _ 0 (ap finite.len (members-empty cmp s e heap) ∙ finite.len-empty nat_cmp))
      from (Some x) e = sym (ne_eqb (finite.len (members_of s)) 0 (λ none. true≢false
          (sym (contains-members_of s x ∙ root-linked cmp s x e heap) ∙ ap (λ m. finite.contains m x)
          (finite.empty_of_len (members_of s) none) ∙ finite.contains-empty nat_cmp x)))
