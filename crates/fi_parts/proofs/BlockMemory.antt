-- What the walks share: a list of owned blocks is cut at one and glued again. Assumes `Logic`.
use Rattle.fi_parts.proofs.RawWalks.{◌$◌, ◌++◌, ◌∵◌, ◌∷◌, ◌≡◌, ◌⊛◌, !, Fml, Goal, Item, Lft, List, Logic, Ptr, RattleType, Seq, Step}
use Rattle.fi_parts.proofs.RawWalks.{Struct, Ura, Val, [], done, drop, ent, feq_i, feq_l, fjoin, fpack, fpick, fsplit, fsplit3, fst∗, ftrue}
use Rattle.fi_parts.proofs.RawWalks.{id⊢, lent_at, move, nothing, of_list, param, ptr_val, qed, refl, sem, sep, shape, split, step, subst}
use Rattle.fi_parts.proofs.RawWalks.{use1, use2, via, vstruct, word, ‵, ℕ}
use mir.Syntax.{Args, a_type}
use base.Logic.{snd∗}
use denote.RattleType.{Valss}
use denote.Param.{layouts}
use denote.Struct.Struct.{Shape, within}
use denote.RawPtr.{RawPtr}
use Rattle.fi_parts.specs.contracts.blocks.block.Block as block
use Rattle.fi_parts.specs.contracts.blocks.block.BlockPtr as block_ptr-type
use Rattle.fi_parts.specs.contracts.blocks.places.BlockPlaces as places_type
use Rattle.fi_parts.specs.BlockOwner.{all_own, blocks_own, vacancies_own, deeds_own, IsShared, all_owns, blocks_lent}

module _ (T : RattleType) where
  abbrev pub args : Args
  args = layouts (a_type ∷ []) (T, tt)

  abbrev pub B : RattleType
  B = block.the_row (param 0 T)

  abbrev pub P : RattleType
  P = block_ptr-type.the_row (param 0 T)

  abbrev pub R : RattleType
  R = places_type.the_row (param 0 T)

  abbrev pub Mark : RattleType
  Mark = Struct (shape (places_type.the_type (param 0 T)))

abbrev one_field : Shape
one_field = record { name = []; args = []; types = []; fields = RawPtr ∷ [] }

abbrev pub Word : RattleType
Word = Struct one_field

module _ {M : Type 1} {𝓤 : Ura M} {𝓛 : Logic 𝓤} {K : Type 0} {Γ : List (Item 𝓤)} {G : Goal 𝓤 𝓛.H} where
  pub word_had : K → (c : Ptr) (vs : List Val) → (vs ≡ word c ∷ [] → Seq K 𝓛 Γ G) → Seq K 𝓛 (‵ (Word.own_val (c, tt) vs) ∷ Γ) G
  word_had t c vs k = fpick t (λ vss. fsplit t $ feq_l t (λ ev. fsplit t $ feq_l t
      (λ e. drop t $ k (subst (λ (ws : List Val). vs ≡ vstruct (of_list (ws ++ [])) ∷ []) e ev))))

  pub word_made : K → (c : Ptr) → Step K 𝓛 (‵ (Word.own_val (c, tt) (word c ∷ [])) ∷ Γ) G Γ G
  word_made t c = step (λ s.
      nothing t $ feq_i t (List Val) (ptr_val c ∷ []) (ptr_val c ∷ []) refl $ fjoin t $
      feq_i t (List Val) (word c ∷ []) (word c ∷ [])
      refl $ fjoin t $
      fpack t (Valss (RawPtr ∷ [])) (within one_field (c, tt) (word c ∷ [])) (ptr_val c ∷ [], tt) $ s)

module _ {M : Type 1} {𝓤 : Ura M} (𝓛 : Logic 𝓤) {X : Type 0} (F : X → Fml) where
  pub own_cut : (xs : List X) (n : X) (ys : List X)
      → ent 𝓤 (sem 𝓛 (all_own F (xs ++ n ∷ ys))) (sep 𝓤 (sem 𝓛 (F n)) (sem 𝓛 (all_own F (xs ++ ys))))
  own_cut [] n ys = id⊢ 𝓤 _
  own_cut (x ∷ xs) n ys = qed 𝓛 (‵ (all_own F (x ∷ xs ++ n ∷ ys)) ∷ []) ∵ fsplit ! $ move ! (1 ∷ []) $
      use1 𝓛 (‵ (F n) ⊛ ‵ (all_own F (xs ++ ys))) (own_cut xs n ys) $ split ! $ move ! (2 ∷ 1 ∷ []) $ fjoin ! $
      move ! (1 ∷ []) $ done !

  pub own_glue : (xs : List X) (n : X) (ys : List X)
      → ent 𝓤 (sep 𝓤 (sem 𝓛 (F n)) (sem 𝓛 (all_own F (xs ++ ys)))) (sem 𝓛 (all_own F (xs ++ n ∷ ys)))
  own_glue [] n ys = id⊢ 𝓤 _
  own_glue (x ∷ xs) n ys = qed 𝓛 (‵ (F n) ∷ ‵ (all_own F (x ∷ xs ++ ys)) ∷ []) ∵ move ! (1 ∷ []) $ fsplit ! $ move ! (2 ∷ 1 ∷ []) $
      use2 𝓛 (‵ (all_own F (xs ++ n ∷ ys))) (own_glue xs n ys) $ move ! (1 ∷ 0 ∷ []) $ fjoin ! $ done !

  -- two lists side by side
  pub own_append : (xs ys : List X) → ent 𝓤 (sep 𝓤 (sem 𝓛 (all_own F xs)) (sem 𝓛 (all_own F ys))) (sem 𝓛 (all_own F (xs ++ ys)))
  own_append [] ys = qed 𝓛 (‵ ftrue ∷ ‵ (all_own F ys) ∷ []) ∵ drop ! $ done !
  own_append (x ∷ xs) ys = qed 𝓛 (‵ (all_own F (x ∷ xs)) ∷ ‵ (all_own F ys) ∷ []) ∵ fsplit ! $ move ! (1 ∷ 2 ∷ []) $
      use2 𝓛 (‵ (all_own F (xs ++ ys))) (own_append xs ys) $ move ! (1 ∷ 0 ∷ []) $ fjoin ! $ done !

  pub own_divide : (xs ys : List X) → ent 𝓤 (sem 𝓛 (all_own F (xs ++ ys))) (sep 𝓤 (sem 𝓛 (all_own F xs)) (sem 𝓛 (all_own F ys)))
  own_divide [] ys = qed 𝓛 (‵ (all_own F ys) ∷ []) ∵ nothing ! $ done !
  own_divide (x ∷ xs) ys = qed 𝓛 (‵ (all_own F (x ∷ xs ++ ys)) ∷ []) ∵ fsplit ! $ move ! (1 ∷ []) $
      use1 𝓛 (‵ (all_own F xs) ⊛ ‵ (all_own F ys)) (own_divide xs ys) $ split ! $ move ! (2 ∷ 0 ∷ []) $ fjoin ! $ done !

module _ {M : Type 1} {𝓤 : Ura M} (𝓛 : Logic 𝓤) (B : RattleType) where
  pub block_seen : (κ : Lft) (xs : List (Ptr × B.Denot)) (n : Ptr × B.Denot) (ys : List (Ptr × B.Denot))
      → ent 𝓤 (sem 𝓛 (blocks_lent B (xs ++ n ∷ ys) κ)) (sem 𝓛 (lent_at B n.0 n.1 κ))
  block_seen κ [] n ys = fst∗ 𝓤 _ (sem 𝓛 (blocks_lent B ys κ))
  block_seen κ (x ∷ xs) n ys = via 𝓤 _ (snd∗ 𝓤 (sem 𝓛 (lent_at B x.0 x.1 κ)) _) (block_seen κ xs n ys)

-- What the owner of the places owns is [the blocks; the vacant places; the rights to free the chunks].
module _ (B : RattleType) (bs : List (Ptr × B.Denot)) (vs : List (Ptr × Unit {0})) (cs : List
    (Ptr × ℕ)) {M : Type 1} {𝓤 : Ura M} {𝓛 : Logic 𝓤}
    {K : Type 0} {Γ : List (Item 𝓤)} {G : Goal 𝓤 𝓛.H} where
  pub all_out : K → (IsShared B bs vs cs → Seq K 𝓛 (‵ (blocks_own B bs) ∷ ‵ (vacancies_own B vs) ∷ ‵ (deeds_own B cs) ∷ Γ) G)
      → Seq K 𝓛 (‵ (all_owns B bs vs cs) ∷ Γ) G
  all_out t k = fsplit t $ move t (1 ∷ []) $ fsplit3 t $ move t (2 ∷ []) $
      fpick t (λ shared. drop t $ move t (2 ∷ 0 ∷ 1 ∷ []) $ k shared)

  pub all_in : K → IsShared B bs vs cs
      → Step K 𝓛 (‵ (all_owns B bs vs cs) ∷ Γ) G (‵ (blocks_own B bs) ∷ ‵ (vacancies_own B vs) ∷ ‵ (deeds_own B cs) ∷ Γ) G
  all_in t shared = step (λ s.
      nothing t $ fpack t (IsShared B bs vs cs) (λ _. ftrue) shared $ move t (3 ∷ 0 ∷ []) $ fjoin t $
      move t (2 ∷ 0 ∷ []) $ fjoin t $
      move t (1 ∷ 0 ∷ []) $ fjoin t $ s)
