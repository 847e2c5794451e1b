-- What is owned at a pointer is not among the other blocks. Assumes `Logic`.
use Rattle.fi_parts.proofs.RawWalks.{◌$◌, ◌<◌, ◌∵◌, ◌∷◌, ◌≡◌, ◌⊛◌, !, Goal, Item, List, Logic, None, Ptr, RattleType, Seq, Ura, Val, []}
use Rattle.fi_parts.proofs.RawWalks.{arith, block_ptr, by, done, ent, fact, fact_i, false, fat, froom, fsplit, fst∗, full_share, keep}
use Rattle.fi_parts.proofs.RawWalks.{lies_at, lone, move, never, null_ptr, part_at, part_out, pick, prop, qed, raw, refl, sem, sep, some}
use Rattle.fi_parts.proofs.RawWalks.{split, subst, sym, true, use1, use2, via, ‵, ℕ}
use base.Logic.{never_e}
use prog.Memory.{size, up}
use prog.Model.{Model, Within}
use prog.Align.{up-ge}
use contract.Monad.{fact_use}
use types.Kit.{mean}
use Rattle.std.proofs.Common.{◌∙◌}
use Rattle.std.proofs.lemmas.Bool.{cond-false}
use Rattle.fi_parts.specs.Placed.{same_ptr, at_ptr}
use Rattle.fi_parts.specs.BlockOwner.{blocks_own}
use Rattle.fi_parts.proofs.Placed.{same_ptr_eq}
use Rattle.fi_parts.proofs.BlockMemory.{B}

above : (k e : ℕ) → 0 < e → 0 < up k e
above k e bytes = let most = up-ge k e in omega arith

module _ (T : RattleType) where
  -- a block takes some bytes
  positive : 0 < size (lone (B T).mir)
  positive = above _ _ (omega arith)

  start : (o : ℕ) → Within o o (size (lone (B T).mir))
  start o = let p = positive in (omega arith, omega arith)

module _ {M : Type 1} {𝓤 : Ura M} {𝓛 : Logic 𝓤} {K : Type 0} {Γ : List (Item 𝓤)} {G : Goal 𝓤 𝓛.H} where
  -- a fact that two entries show is learned, and they stay
  pub knows : K → {i j : Item 𝓤} (φ : Type 0) → ent 𝓤 (sep 𝓤 (mean 𝓛 i) (mean 𝓛 j)) (fact 𝓤 φ) → (φ → Seq K 𝓛 (i ∷ j ∷ Γ) G)
      → Seq K 𝓛 (i ∷ j ∷ Γ) G
  knows t {i} {j} φ h k =
      let shown : Seq K 𝓛 (i ∷ j ∷ Γ) (prop (fact 𝓤 φ)) = use2 𝓛 (raw (fact 𝓤 φ)) h $ keep t (0 ∷ []) $ done t in
      record { prf = fact_use 𝓤 φ shown.prf (λ x. (k x).prf) }

module _ (T : RattleType) {M : Type 1} {𝓤 : Ura M} (𝓛 : Logic 𝓤) (𝓜 : Model 𝓤 𝓛.H) where
  open 𝓛 use {H}

  room_of : (p : Ptr) (x : (B T).Denot) (b o : ℕ) → ent 𝓤 (sem 𝓛 (part_at (B T) full_share x b o)) (H.room (lone (B T).mir) b o)
  room_of p x b o = qed 𝓛 (‵ (part_at (B T) full_share x b o) ∷ []) ∵
      use1 𝓛 (some (λ (v : Val). ‵ (fat full_share (lone (B T).mir) b o v) ⊛ ‵ ((B T).own_val x (v ∷ []))))
      (part_out 𝓛 (B T) refl full_share x b o) $ pick ! (λ v. split ! $ keep ! (0 ∷ []) $ by ! (𝓛.laws.at_room (lone (B T).mir) b o v))

  clash : (p : Ptr) (x y : (B T).Denot) → ent 𝓤 (sep 𝓤 (sem 𝓛 (lies_at (B T) full_share p x)) (sem 𝓛 (lies_at (B T) full_share p y)))
      (never 𝓤)
  clash (block_ptr b o) x y =
      qed 𝓛 (‵ (part_at (B T) full_share x b o) ∷ ‵ (part_at (B T) full_share y b o) ∷ []) ∵ use1 𝓛 (‵ (froom (lone (B T).mir) b o))
      (room_of (block_ptr b o) x b o) $ move ! (1 ∷ []) $
      use1 𝓛 (‵ (froom (lone (B T).mir) b o)) (room_of (block_ptr b o) y b o) $ by !
      (𝓜.room-room (lone (B T).mir) (lone (B T).mir) b o o o (start T o) (start T o))
  clash null_ptr x y = fst∗ 𝓤 (never 𝓤) (never 𝓤)

  apart : (p : Ptr) (x : (B T).Denot) (n : Ptr × (B T).Denot) → ent 𝓤
      (sep 𝓤 (sem 𝓛 (lies_at (B T) full_share p x)) (sem 𝓛 (lies_at (B T) full_share n.0 n.1))) (fact 𝓤 (same_ptr n.0 p ≡ false))
  apart p x n = (elim (same_ptr n.0 p) as (λ y. same_ptr n.0 p ≡ y
      → ent 𝓤 (sep 𝓤 (sem 𝓛 (lies_at (B T) full_share p x)) (sem 𝓛 (lies_at (B T) full_share n.0 n.1)))
      (fact 𝓤 (same_ptr n.0 p ≡ false))) [
        | true ↦ λ e. via 𝓤 (never 𝓤) (subst (λ (s : Ptr). ent 𝓤 (sep 𝓤 (sem 𝓛 (lies_at (B T) full_share p x))
            (sem 𝓛 (lies_at (B T) full_share s n.1))) (never 𝓤)) (sym (same_ptr_eq n.0 p e)) (clash p x n.1)) (never_e 𝓤 _)
        | false ↦ λ e. fact_i 𝓤 (same_ptr n.0 p ≡ false) _ e
      ]) refl

  pub fresh : (p : Ptr) (x : (B T).Denot) (bs : List (Ptr × (B T).Denot))
      → ent 𝓤 (sep 𝓤 (sem 𝓛 (lies_at (B T) full_share p x)) (sem 𝓛 (blocks_own (B T) bs))) (fact 𝓤 (at_ptr bs p ≡ None))
  unfolding at_ptr
  fresh p x [] = fact_i 𝓤 (None ≡ None) _ refl
  fresh p x (n ∷ bs) =
      qed 𝓛 (‵ (lies_at (B T) full_share p x) ∷ ‵ (blocks_own (B T) (n ∷ bs)) ∷ []) ∵ move ! (1 ∷ []) $ fsplit ! $ fsplit ! $ move !
      (3 ∷ 0 ∷ []) $
      knows ! (same_ptr n.0 p ≡ false) (apart p x n) (λ here. move ! (0 ∷ 3 ∷ []) $ knows ! (at_ptr bs p ≡ None) (fresh p x bs) (λ rest.
      by ! (fact_i 𝓤 (at_ptr (n ∷ bs) p ≡ None) _ (cond-false (same_ptr n.0 p) _ _ here ∙ rest))))
