-- The blocks are taken one by one, each once, until none is left.
use Rattle.std.proofs.Common.{◌≡◌, ℕ, suc, ◌+◌, ◌≤◌, List, [], ◌∷◌, Option, Some, None, IsSome, Contains, inl, inr, refl, sym, ap, subst}
use Rattle.std.proofs.Common.{◌∙◌, arith}
use denote.RawPtr.{Ptr}
use Rattle.slab.specs.Slab.{Slab, entries, entries_from}
use Rattle.slab.proofs.SlabLemmas.{Contains-cons, Contains-cons_cases, Contains-entries}
use Rattle.fi_parts.specs.declared.blocks.block.Block.{Block}
use Rattle.fi_parts.specs.declared.blocks.block.BlockPtr.{BlockPtr}
use Rattle.fi_parts.specs.declared.blocks.linked.LinkedBlocks.{LinkedBlocks}
use Rattle.fi_parts.specs.Placed.{at_ptr, without_at}
use Rattle.fi_parts.specs.Blocks.{IsSound}
use Rattle.fi_parts.specs.CountedBlocks.{data_in, slot_in}
use Rattle.fi_parts.proofs.BlockKeys.{alike-true}
use Rattle.fi_parts.proofs.Placed.{at-cons_same, at-without_other}
use Rattle.fi_parts.proofs.BlockSlots.{live-slot_in}

Contains-nil : {X : Type 0} (x : X) → Contains [] x → ⊥
Contains-nil x c = let within = c.1 in omega arith

module _ {T : Type 0} where
  unfoldable pub Drains : List (ℕ × BlockPtr T) → List (Ptr × Block T) → Type 0
  Drains [] bs = bs ≡ []
  Drains (e ∷ rest) bs = IsSome (at_ptr bs e.1.ptr) × (at_ptr (without_at bs e.1.ptr) e.1.ptr ≡ None → Drains rest (without_at bs e.1.ptr))

  pub drains-live : (e : ℕ × BlockPtr T) (rest : List (ℕ × BlockPtr T)) (bs : List (Ptr × Block T)) → Drains (e ∷ rest) bs
      → IsSome (at_ptr bs e.1.ptr)
  unfolding Drains
  drains-live e rest bs d = d.0

  pub drains-next : (e : ℕ × BlockPtr T) (rest : List (ℕ × BlockPtr T)) (bs cs : List (Ptr × Block T)) → Drains (e ∷ rest) bs → cs
      ≡ without_at bs e.1.ptr → at_ptr cs e.1.ptr ≡ None → Drains rest cs
  unfolding Drains
  drains-next e rest bs cs d is gone = subst (Drains rest) (sym is) (d.1 (ap (λ l. at_ptr l e.1.ptr) (sym is) ∙ gone))

  pub drains-end : (bs : List (Ptr × Block T)) → Drains [] bs → bs ≡ []
  unfolding Drains
  drains-end bs d = d

  Rising : ℕ → List (ℕ × BlockPtr T) → Type 0
  Rising k [] = Unit {0}
  Rising k (e ∷ rest) = (k ≤ e.0) × Rising (suc e.0) rest

  rising_more : (j k : ℕ) (es : List (ℕ × BlockPtr T)) → j ≤ k → Rising k es → Rising j es
  unfolding Rising
  rising_more j k [] le r = tt
  rising_more j k (e ∷ rest) le r = let most = r.0 in (omega arith, r.1)

  rising-entries : (k : ℕ) (slots : List (Option (BlockPtr T))) → Rising k (entries_from k slots)
  unfolding Rising
  rising-entries k [] = tt
  rising-entries k (None ∷ rest) = rising_more k (k + 1) (entries_from (k + 1) rest) (omega arith) (rising-entries (k + 1) rest)
  rising-entries k (Some p ∷ rest) = (
    omega arith,
    subst (λ j. Rising j (entries_from (k + 1) rest)) (omega arith)
        (rising-entries (k + 1) rest),
  )

  rising-above : (k : ℕ) (es : List (ℕ × BlockPtr T)) (e : ℕ × BlockPtr T) → Rising k es → Contains es e → k ≤ e.0
  unfolding Rising
  rising-above k [] e r c = absurd (Contains-nil e c)
  rising-above k (x ∷ rest) e r c =
      elim (Contains-cons_cases x e rest c) [
        | inl is ↦ subst (λ (y : ℕ × BlockPtr T). k ≤ y.0) is r.0
        | inr later ↦ let low = r.0 in let high = rising-above (suc x.0) rest e r.1 later in omega arith
      ]

  slot_at : List (Ptr × Block T) → BlockPtr T → Option ℕ
  slot_at bs p = slot_in (data_in (at_ptr bs p.ptr))

  drains : (j : ℕ) (es : List (ℕ × BlockPtr T)) (bs : List (Ptr × Block T)) → Rising j es
      → ((e : ℕ × BlockPtr T) → Contains es e → slot_at bs e.1 ≡ Some e.0)
      → ((p : BlockPtr T) (k : ℕ) → slot_at bs p ≡ Some k → Contains es (k, p)) → Drains es bs
  unfolding Drains slot_at Rising
  drains j [] [] r held stored = refl
  drains j [] (b ∷ bs) r held stored = absurd (Contains-nil _ (stored (record { ptr = b.0 }) b.1.slot
      (ap (λ o. slot_in (data_in o)) (at-cons_same b.0 b.1 bs))))
  drains j (x ∷ rest) bs r held stored =
      let here : slot_at bs x.1 ≡ Some x.0 = held x (0, omega arith, refl) in (
        live-slot_in (at_ptr bs x.1.ptr) x.0 here,
        λ gone.
            drains (suc x.0) rest (without_at bs x.1.ptr) r.1
            (λ e c.
            let above = rising-above (suc x.0) rest e r.1 c in let there = held e (Contains-cons x e rest c) in
            grind (arith, above, there, here, alike-true x.1 e.1, at-without_other bs x.1.ptr e.1.ptr))
            (λ p k at.
            let before : slot_at bs p ≡ Some k = grind (arith, gone, at, alike-true x.1 p, at-without_other bs x.1.ptr p.ptr) in
            elim (Contains-cons_cases x (k, p) rest (stored p k before)) [
              | inl is ↦ absurd (grind (arith, is, gone, at))
              | inr later ↦ later
            ]),
      )

  pub drains-all : (store : Slab (BlockPtr T)) (s : LinkedBlocks T) → IsSound store s → Drains (entries store) s.blocks.owner.blocks
  unfolding slot_at
  drains-all store s sound =
      drains 0 (entries store) s.blocks.owner.blocks (rising-entries 0 store.slots)
      (λ e c. sound.stored.held e.0 e.1 ((Contains-entries store e.0 e.1).0 c))
      (λ p k at. (Contains-entries store k p).1 (sound.stored.stored p k at))
