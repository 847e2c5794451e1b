-- One block that is not in the list comes or goes, with its slot.
use Rattle.std.proofs.Common.{◌≡◌, ◌≢◌, ℕ, true, false, slice_index_or, List, [], ◌∷◌, map, Option, Some, None, IsSome, refl, sym, ap}
use Rattle.std.proofs.Common.{subst, ◌∙◌, arith}
use Rattle.std.proofs.lemmas.Bool.{cases_eq, both_ways, true≢false, or_parts}
use Rattle.std.specs.Cmp.{nat_cmp_total}
use Rattle.std.specs.FinMap as fin
use Rattle.slab.specs.Slab.{Slab, get, Updates}
use Rattle.fi_parts.specs.declared.blocks.block.Block.{Block}
use Rattle.fi_parts.specs.declared.blocks.block.BlockPtr.{BlockPtr}
use Rattle.fi_parts.specs.declared.blocks.linked.LinkedBlocks.{LinkedBlocks}
use Rattle.fi_parts.specs.ListModel.{with_live}
use Rattle.fi_parts.specs.Links.{alike, loose, is_linked, names, Linked}
use Rattle.fi_parts.specs.Placed.{at_ptr, without_at}
use Rattle.fi_parts.specs.Blocks.{slot_or, item_by, live_by, slot_by, IsStored, view_of, IsSound}
use Rattle.fi_parts.specs.CountedBlocks.{links_in, data_in, item_in, slot_in}
use Rattle.fi_parts.specs.LinkedBlocks.{block_at, links_at, SameList, chain_of, data_of, reitemed, with_item}
use Rattle.fi_parts.proofs.BlockKeys.{alike_self, ne_alike, cases_alike}
use Rattle.fi_parts.proofs.Placed.{at-cons_same, at-cons_other, at-without_other, at-with_same, at-with_other}
use Rattle.fi_parts.proofs.Moved.{Kept, Kept-one, chained-kept, order-kept, chained-is, order-is}
use Rattle.fi_parts.proofs.Chains.{Chain-nil}
use Rattle.fi_parts.proofs.BlockSlots.{live-slot_in, get-live_by}
use Rattle.fi_parts.proofs.Picked.{picked-empty}
use Rattle.std.proofs.lemmas.Option.{same_Some, none-some}
use Rattle.fi_parts.proofs.FiniteMaps.{get-insert_same, get-insert_other, get-remove_same, get-remove_other}

module _ {T : Type 0} where
  -- only the block at p and the slot k change
  pub record Change (store store' : Slab (BlockPtr T)) (s t : LinkedBlocks T) (k : ℕ) (p : BlockPtr T) (o : Option (BlockPtr T)) : Type
      0 where
    pub others : (q : BlockPtr T) → q ≢ p → block_at t q ≡ block_at s q
    pub slab : Updates store store' k o
    pub was : (q : BlockPtr T) → get store k ≡ Some q → q ≡ p
    pub was_slot : (j : ℕ) → slot_in (data_of s p) ≡ Some j → j ≡ k
    pub is : (q : BlockPtr T) → o ≡ Some q → (q ≡ p) × (slot_in (data_of t p) ≡ Some k)
    pub is_slot : (j : ℕ) → slot_in (data_of t p) ≡ Some j → (j ≡ k) × (o ≡ Some p)
    pub first : t.first ≡ s.first
    pub last : t.last ≡ s.last
    pub visits : t.blocks.visits.count ≡ s.blocks.visits.count
    pub before : is_linked (links_at s p) ≡ false
    pub after : is_linked (links_at t p) ≡ false

  module _ (store store' : Slab (BlockPtr T)) (s t : LinkedBlocks T) (k : ℕ) (p : BlockPtr T) (o : Option (BlockPtr T))
      (sound : IsSound store s) (change : Change store store' s t k p o) where
    pub stored : IsStored (data_of t) store'
    stored =
        record {
          held = λ j q at.
              let same = change.slab.others j in let old = sound.stored.held j q in
              grind (arith, cases_eq j k, cases_alike q p, change.is q, change.slab.changed, change.others q, change.was_slot j, same, old);
          stored = λ q j e.
              let same = change.slab.others j in let old = sound.stored.stored q j in
              grind (arith, cases_eq j k, cases_alike q p, change.is_slot j, change.slab.changed, change.others q, change.was q, same, old);
        }

    kept : Kept s t
    kept = Kept-one s t p change.first change.last change.others change.before change.after

    pub sound_after : IsSound store' t
    sound_after = record { stored = stored; chained = chained-kept s t sound.chained kept }

    -- the items of the other slots stay
    pub item_other : (j : ℕ) → j ≢ k → item_by (data_of t) (get store' j) ≡ item_by (data_of s) (get store j)
    item_other j ne = ap (item_by (data_of t)) (change.slab.others j ne) ∙ from (get store j) refl
      where
        from : (r : Option (BlockPtr T)) → get store j ≡ r → item_by (data_of t) r ≡ item_by (data_of s) r
        from None e = refl
        from (Some q) e = grind (arith, change.others q, change.was_slot j, sound.stored.held j q e, ne)

    slots_kept : (xs : List (BlockPtr T)) → names p xs ≡ false → map (slot_by (data_of t)) xs ≡ map (slot_by (data_of s)) xs
    slots_kept [] off = refl
    slots_kept (x ∷ xs) off =
        let parts = or_parts (alike p x) (names p xs) off in
        let ne : x ≢ p = λ e. both_ways (alike p x) parts.0 (subst (λ z. alike p z ≡ true) (sym e) (alike_self p)) in
        (λ i. slot_by (λ q. data_in (change.others x ne i)) x ∷ slots_kept xs parts.1 i)

    pub order_after : map (slot_by (data_of t)) (chain_of t) ≡ map (slot_by (data_of s)) (chain_of s)
    order_after = ap (map (slot_by (data_of t))) (order-kept s t sound.chained kept) ∙ slots_kept (chain_of s)
        (sym (sound.chained.flags p) ∙ change.before)

    pub view_inserted : (v : T) → item_by (data_of t) (get store' k) ≡ Some v → view_of store' t
        ≡ with_live (view_of store s) (fin.insert (live_by (data_of s) store.slots) k v)
    view_inserted v here = λ i. record { live = lives i; order = order_after i; visits = change.visits i }
      where
        lives : live_by (data_of t) store'.slots ≡ fin.insert (live_by (data_of s) store.slots) k v
        lives = fin.same_map nat_cmp_total fin.nat_cmp-IsAntisymmetric _ _
            (λ q. grind (arith, cases_eq q k, get-live_by, here, item_other q, get-insert_same, get-insert_other))

    pub view_removed : item_by (data_of t) (get store' k) ≡ None → view_of store' t
        ≡ with_live (view_of store s) (fin.remove (live_by (data_of s) store.slots) k)
    view_removed here = λ i. record { live = lives i; order = order_after i; visits = change.visits i }
      where
        lives : live_by (data_of t) store'.slots ≡ fin.remove (live_by (data_of s) store.slots) k
        lives = fin.same_map nat_cmp_total fin.nat_cmp-IsAntisymmetric _ _
            (λ q. grind (arith, cases_eq q k, get-live_by, here, item_other q, get-remove_same, get-remove_other))

  off_alike : (q p : BlockPtr T) → q ≢ p → alike p q ≡ false
  off_alike q p ne = ne_alike p q (λ e. ne (sym e))

  -- a block that was taken
  pub Change-freed : (store store' : Slab (BlockPtr T)) (s t : LinkedBlocks T) (k : ℕ) (p : BlockPtr T) → IsSound store s → get store k
      ≡ Some p → Updates store store' k None → t.blocks.owner.blocks ≡ without_at s.blocks.owner.blocks p.ptr → block_at t p ≡ None
      → SameList s t → is_linked (links_at s p) ≡ false → Change store store' s t k p None
  Change-freed store store' s t k p sound at updates blocks gone rest before =
      record {
        others = λ q ne. ap (λ bs. at_ptr bs q.ptr) blocks ∙ at-without_other s.blocks.owner.blocks p.ptr q.ptr (off_alike q p ne);
        slab = updates;
        was = λ q e. same_Some _ _ (sym e ∙ at);
        was_slot = λ j e. same_Some _ _ (sym e ∙ sound.stored.held k p at);
        is = λ q e. absurd (none-some _ e);
        is_slot = λ j e. absurd (none-some _ (sym (ap (λ b. slot_in (data_in b)) gone) ∙ e));
        first = rest.first;
        last = rest.last;
        visits = rest.visits;
        before = before;
        after = ap (λ b. is_linked (links_in b)) gone;
      }

  -- a block that was put
  pub Change-claimed : (store store' : Slab (BlockPtr T)) (s t : LinkedBlocks T) (k : ℕ) (p : BlockPtr T) (b : Block T) → IsSound store s
      → get store k ≡ None → Updates store store' k (Some p) → t.blocks.owner.blocks ≡ (p.ptr, b) ∷ s.blocks.owner.blocks → block_at s p
      ≡ None → SameList s t → b.links ≡ loose → b.slot ≡ k → Change store store' s t k p (Some p)
  Change-claimed store store' s t k p b sound vacant updates blocks fresh rest links slot =
      let here : block_at t p ≡ Some b = ap (λ bs. at_ptr bs p.ptr) blocks ∙ at-cons_same p.ptr b s.blocks.owner.blocks in
      record {
        others = λ q ne. ap (λ bs. at_ptr bs q.ptr) blocks ∙ at-cons_other p.ptr b s.blocks.owner.blocks q.ptr (off_alike q p ne);
        slab = updates;
        was = λ q e. absurd (none-some _ (sym vacant ∙ e));
        was_slot = λ j e. absurd (none-some _ (sym (ap (λ b. slot_in (data_in b)) fresh) ∙ e));
        is = λ q e. (sym (same_Some _ _ e), ap (λ b. slot_in (data_in b)) here ∙ ap Some slot);
        is_slot = λ j e. (same_Some _ _ (sym e ∙ ap (λ b. slot_in (data_in b)) here) ∙ slot, refl);
        first = rest.first;
        last = rest.last;
        visits = rest.visits;
        before = ap (λ b. is_linked (links_in b)) fresh;
        after = ap (λ b. is_linked (links_in b)) here ∙ ap (λ l. l.linked) links;
      }

  pub sound_slots : (store store' : Slab (BlockPtr T)) (s : LinkedBlocks T) → store'.slots ≡ store.slots → IsSound store s
      → IsSound store' s
  sound_slots store store' s e sound =
      let at : (k : ℕ) → get store' k ≡ get store k = λ k. ap (λ l. slice_index_or l k None) e in
      record {
        stored = record {
          held = λ k p here. sound.stored.held k p (sym (at k) ∙ here);
          stored =
              λ p k here. at k ∙ sound.stored.stored p k here;
        };
        chained = sound.chained;
      }

  no_block : (s : LinkedBlocks T) → s.blocks.owner.blocks ≡ [] → (p : BlockPtr T) → block_at s p ≡ None
  unfolding at_ptr
  no_block s none p = ap (λ bs. at_ptr bs p.ptr) none

  linked_empty : (s : LinkedBlocks T) → s.blocks.owner.blocks ≡ [] → s.first ≡ None → s.last ≡ None → Linked (links_at s) s.first s.last []
  linked_empty s none first last =
      record {
        chain = Chain-nil (links_at s);
        first_is = first;
        last_is = last;
        flags =
            λ k. ap (λ o. is_linked (links_in o)) (no_block s none k);
        distinct = tt;
      }

  pub sound_empty : (store : Slab (BlockPtr T)) (s : LinkedBlocks T) → store.slots ≡ [] → s.blocks.owner.blocks ≡ [] → s.first ≡ None
      → s.last ≡ None → IsSound store s
  sound_empty store s slots none first last =
      record {
        stored = record {
          held = λ k p e. absurd (none-some _ (sym (ap (λ l. slice_index_or l k None) slots) ∙ e));
          stored = λ p k e. absurd (none-some _ (sym (ap (λ b. slot_in (data_in b)) (no_block s none p)) ∙ e));
        };
        chained = chained-is s [] (linked_empty s none first last);
      }

  pub order_empty : (store : Slab (BlockPtr T)) (s : LinkedBlocks T) → store.slots ≡ [] → s.blocks.owner.blocks ≡ [] → s.first ≡ None
      → s.last ≡ None → map (slot_by (data_of s)) (chain_of s) ≡ []
  order_empty store s slots none first last = ap (map (slot_by (data_of s))) (order-is s [] (linked_empty s none first last))

  pub live_empty : (store : Slab (BlockPtr T)) (s : LinkedBlocks T) → store.slots ≡ [] → live_by (data_of s) store.slots ≡ fin.empty
  live_empty store s slots = picked-empty (λ p. item_in (data_of s p)) store.slots slots

  -- the item under one slot is written

  item-here : (s : LinkedBlocks T) (p : BlockPtr T) (o : Option (Block T)) (w : T) → IsSome (block_at s p) → IsSome o
      → (item_in (data_of (reitemed s p o w) p) ≡ Some w) × (slot_in (data_of (reitemed s p o w) p) ≡ slot_in (data_in o))
      × (links_at (reitemed s p o w) p ≡ links_in o)
  item-here s p None w live some_o = absurd (true≢false (sym some_o))
  item-here s p (Some b) w live some_o =
      let at = at-with_same s.blocks.owner.blocks p.ptr (record b { item = w }) live in
      (ap (λ o. item_in (data_in o)) at, ap (λ o. slot_in (data_in o)) at, ap links_in at)

  item-elsewhere : (s : LinkedBlocks T) (p : BlockPtr T) (o : Option (Block T)) (w : T) (q : BlockPtr T) → q ≢ p
      → block_at (reitemed s p o w) q ≡ block_at s q
  item-elsewhere s p None w q ne = refl
  item-elsewhere s p (Some b) w q ne = at-with_other s.blocks.owner.blocks p.ptr (record b { item = w }) q.ptr (off_alike q p ne)

  ends_same : (s : LinkedBlocks T) (p : BlockPtr T) (o : Option (Block T)) (w : T) → ((reitemed s p o w).first ≡ s.first)
      × ((reitemed s p o w).last ≡ s.last) × ((reitemed s p o w).blocks.visits.count ≡ s.blocks.visits.count)
  ends_same s p None w = (refl, refl, refl)
  ends_same s p (Some b) w = (refl, refl, refl)

  module _ (store : Slab (BlockPtr T)) (s : LinkedBlocks T) (k : ℕ) (p : BlockPtr T) (w : T) (sound : IsSound store s)
      (at : get store k ≡ Some p) where
    abbrev after_item : LinkedBlocks T
    after_item = with_item s p w

    live_p : IsSome (block_at s p)
    live_p = live-slot_in (block_at s p) k (sound.stored.held k p at)

    links_same : (q : BlockPtr T) → links_at after_item q ≡ links_at s q
    links_same q =
        grind (arith, cases_alike q p, (item-here s p (block_at s p) w live_p live_p).2, item-elsewhere s p (block_at s p) w q)

    slots_same : (q : BlockPtr T) → slot_in (data_of after_item q) ≡ slot_in (data_of s q)
    slots_same q =
        grind (arith, cases_alike q p, (item-here s p (block_at s p) w live_p live_p).1, item-elsewhere s p (block_at s p) w q)

    kept_item : Kept s after_item
    kept_item =
        let ends = ends_same s p (block_at s p) w in
        record { first = ends.0; last = ends.1; links = λ q linked. links_same q; flags = λ q. ap is_linked (links_same q) }

    pub sound_item : IsSound store after_item
    sound_item =
        record {
          stored = record {
            held = λ j q e. slots_same q ∙ sound.stored.held j q e;
            stored =
                λ q j e. sound.stored.stored q j (sym (slots_same q) ∙ e);
          };
          chained = chained-kept s after_item sound.chained kept_item;
        }

    slot_by_of : (o r : Option (T × ℕ)) → slot_in o ≡ slot_in r → slot_or o ≡ slot_or r
    slot_by_of None None e = refl
    slot_by_of (Some a) None e = absurd (none-some _ (sym e))
    slot_by_of None (Some b) e = absurd (none-some _ e)
    slot_by_of (Some a) (Some b) e = same_Some _ _ e

    pub view_item : view_of store after_item ≡ with_live (view_of store s) (fin.insert (live_by (data_of s) store.slots) k w)
    view_item = λ i. record { live = lives i; order = orders i; visits = (ends_same s p (block_at s p) w).2 i }
      where
        orders : map (slot_by (data_of after_item)) (chain_of after_item) ≡ map (slot_by (data_of s)) (chain_of s)
        orders =
            ap (map (slot_by (data_of after_item))) (order-kept s after_item sound.chained kept_item)
            ∙ (λ i. map (λ q. slot_by_of (data_of after_item q) (data_of s q) (slots_same q) i) (chain_of s))

        item_same : (j : ℕ) → j ≢ k → item_by (data_of after_item) (get store j) ≡ item_by (data_of s) (get store j)
        item_same j ne = from (get store j) refl
          where
            from : (r : Option (BlockPtr T)) → get store j ≡ r → item_by (data_of after_item) r ≡ item_by (data_of s) r
            from None e = refl
            from (Some q) e = grind (arith, item-elsewhere s p (block_at s p) w q, sound.stored.held j q e, sound.stored.held k p at, ne)

        lives : live_by (data_of after_item) store.slots ≡ fin.insert (live_by (data_of s) store.slots) k w
        lives =
            let here = (item-here s p (block_at s p) w live_p live_p).0 in
            fin.same_map nat_cmp_total fin.nat_cmp-IsAntisymmetric _ _
            (λ q. grind (arith, cases_eq q k, get-live_by, here, item_same q, get-insert_same, get-insert_other))
