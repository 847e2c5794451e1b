-- What a `Chunk` owns is taken apart and made. Assumes `Logic`.
use Rattle.fi_parts.proofs.RawWalks.{◌$◌, ◌++◌, ◌<◌, ◌^◌, ◌∙◌, ◌∷◌, ◌≡◌, Goal, Item, List, Logic, Ptr, RattleType, Seq, Step, Struct, T}
use Rattle.fi_parts.proofs.RawWalks.{Ura, Val, WT, [], block_ptr, drop, feq_l, fjoin, flt_l, fpick, fsplit, has_ty, layout, of_list}
use Rattle.fi_parts.proofs.RawWalks.{ptr_val, pure_i, refl, shape, step, vcons, vint, vnil, vptr, vstruct, w64, ‵, ℕ}
use Rattle.core.specs.declared.alloc.Allocator.{Ghosts}
use Rattle.fi_parts.specs.BlockOwner.{chunk_owns}
use Rattle.fi_parts.specs.contracts.blocks.chunk.Chunk as chunk

abbrev pub chunk_val : Ptr → ℕ → Val
chunk_val p n = vstruct (vcons (ptr_val p) (vcons (vint w64 n) (vcons (vstruct vnil) vnil)))

module _ (R Z : RattleType) (g : Ghosts Z.Denot) where
  abbrev pub ChunkRow : RattleType
  ChunkRow = chunk.the_row R Z g

  abbrev pub chunk_at : Z.Denot → ℕ → ℕ → ℕ → ChunkRow.Denot
  chunk_at a b o n = record { at = block_ptr b o; len = n; by = record {}; alloc = a }

  pub chunk_good : (b o n : ℕ) → n < 2 ^ 64 → T (has_ty (layout ChunkRow) (chunk_val (block_ptr b o) n)) × WT (chunk_val (block_ptr b o) n)
  chunk_good b o n small = (tt, (tt, (record { fits = small }, (tt, tt))))

  module _ {M : Type 1} {𝓤 : Ura M} {𝓛 : Logic 𝓤} {K : Type 0} {Γ : List (Item 𝓤)} {G : Goal 𝓤 𝓛.H} where
    pub chunk_had : K → (d : ChunkRow.Denot) (vs : List Val)
        → (vs ≡ chunk_val d.at d.len ∷ [] → d.len < 2 ^ 64 → Seq K 𝓛 (‵ (chunk_owns R (g.dealloc_token d.alloc) d.at d.len) ∷ Γ) G)
        → Seq K 𝓛 (‵ (ChunkRow.own_val d vs) ∷ Γ) G
    chunk_had t d vs k =
        fsplit t $ fpick t (λ vss. fsplit t $ feq_l t (λ all. fsplit t $ feq_l t (λ e₀. fsplit t $ fsplit t $
        feq_l t (λ e₁. flt_l t (λ small.
        fsplit t $ fpick t (λ none. fsplit t $ feq_l t (λ e₂. drop t $ drop t $
        k (all ∙ (λ i. vstruct (of_list (e₀ i ++ (e₁ i ++ (e₂ i ++ [])))) ∷ [])) small)))))))

    pub chunk_made : K → (a : Z.Denot) (b o n : ℕ) → n < 2 ^ 64
        → Step K 𝓛 (‵ (ChunkRow.own_val (chunk_at a b o n) (chunk_val (block_ptr b o) n ∷ [])) ∷ Γ) G
        (‵ (chunk_owns R (g.dealloc_token a) (block_ptr b o) n) ∷ Γ) G
    chunk_made t a b o n small = step (λ s.
        pure_i t ((Struct (shape (chunk.the_type R Z g))).own_val (block_ptr b o, (n, (tt, tt))) (chunk_val (block_ptr b o) n ∷ []))
        (λ vss. (tt, (tt, ((tt, tt), ((λ uss. (tt, tt)), tt)))))
        ((vptr b o ∷ [], (vint w64 n ∷ [], (vstruct vnil ∷ [], tt))), (refl, (refl, ((refl, small), ((tt, (refl, tt)), tt))))) $
        fjoin t $ s)
