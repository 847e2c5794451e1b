-- Room for an array is a row of vacant places, and places in another order are the same places. Assumes `Logic`.
use Rattle.fi_parts.proofs.RawWalks.{◌$◌, ◌*◌, ◌++◌, ◌+◌, ◌<◌, ◌^◌, ◌∙◌, ◌∵◌, ◌∷◌, ◌≡◌, ◌⊛◌, !, Fml, List, Logic, Ptr, RattleType, Ty, Ura}
use Rattle.fi_parts.proofs.RawWalks.{[], ap, arith, bare, block_ptr, by, done, drop, ent, fjoin, flt_i, froom, fsplit, id⊢, keep, lone}
use Rattle.fi_parts.proofs.RawWalks.{move, qed, refl, rewrite, sem, split, subst, suc, suc-mul, sym, ty_array, type_size, use1, ‵, ℕ}
use Prim.Native.Nat.{zero}
use Rattle.fi_parts.specs.BlockOwner.{times, all_own, places, vacancies_own}
use Rattle.fi_parts.proofs.Placed.{Cut, cut_at}
use Rattle.fi_parts.proofs.BlockCounts.{once_same, times_cons, times_cut, times_found, times_empty, times_nil}
use Rattle.fi_parts.proofs.BlockMemory.{own_cut}

module _ {M : Type 1} {𝓤 : Ura M} (𝓛 : Logic 𝓤) (F : Ptr × Unit {0} → Fml) where
  pub own_permuted : (xs ys : List (Ptr × Unit {0})) → ((p : Ptr) → times p xs ≡ times p ys)
      → ent 𝓤 (sem 𝓛 (all_own F xs)) (sem 𝓛 (all_own F ys))
  own_permuted xs [] same =
      let none : xs ≡ [] = times_empty xs (λ p. same p ∙ times_nil (Unit {0}) p) in
      subst (λ (os : List (Ptr × Unit {0})). ent 𝓤 (sem 𝓛 (all_own F os)) (sem 𝓛 (all_own F []))) (sym none) (id⊢ 𝓤 _)
  own_permuted xs (y ∷ ys) same =
      let here = times_cons y.0 y ys in let one = once_same y.0 in let all = same y.0 in
      let found = times_found y.0 xs (omega (arith, here, one, all)) in
      let cut : Cut xs y.0 found.0 = cut_at xs y.0 found.0 found.1 in
      let rest : (p : Ptr) → times p (cut.front ++ cut.back) ≡ times p ys =
      λ p. let more = times_cut p cut.front (y.0, found.0) cut.back in let there = times_cons p y ys in
      let both = sym (ap (times p) cut.is) ∙ same p in omega (arith, more, there, both) in
      qed 𝓛 (‵ (all_own F xs) ∷ []) ∵ rewrite ! 0 (λ (os : List (Ptr × Unit {0})). ‵ (all_own F os)) cut.is refl $
      use1 𝓛 (‵ (F y) ⊛ ‵ (all_own F (cut.front ++ cut.back))) (own_cut 𝓛 F cut.front y cut.back) $ split ! $
      move ! (1 ∷ []) $
      use1 𝓛 (‵ (all_own F ys)) (own_permuted (cut.front ++ cut.back) ys rest) $ move ! (1 ∷ 0 ∷ []) $ fjoin ! $ done !

module _ (B : RattleType) {M : Type 1} {𝓤 : Ura M} (𝓛 : Logic 𝓤) (b : ℕ) where
  open 𝓛 use {H}

  abbrev τ : Ty
  τ = lone B.mir

  abbrev s : ℕ
  s = type_size B

  abbrev Row : ℕ → ℕ → Fml
  Row o n = vacancies_own B (places B (block_ptr b o) n)

  pub vacant_of_room : (n o : ℕ) → n * s + o < 2 ^ 63 → ent 𝓤 (H.room (ty_array τ n) b o) (sem 𝓛 (Row o n))
  vacant_of_room zero o fits = qed 𝓛 (‵ (froom (ty_array τ 0) b o) ∷ []) ∵ keep ! [] $ done !
  vacant_of_room (suc n) o fits =
      let more : suc n * s + o < 2 ^ 63 = fits in
      qed 𝓛 (‵ (froom (ty_array τ (suc n)) b o) ∷ []) ∵
      use1 𝓛 (‵ (froom τ b o) ⊛ ‵ (froom (ty_array τ n) b (o + s))) (𝓛.laws.room_uncons τ n b o) $ split ! $
      use1 𝓛 (‵ (froom (bare τ) b o)) (𝓛.laws.room-raw τ b o) $
      flt_i ! o (2 ^ 63) (omega (arith, suc-mul n s)) $ move ! (1 ∷ 0 ∷ []) $ fjoin ! $ move ! (1 ∷ []) $
      use1 𝓛 (‵ (Row (o + s) n)) (vacant_of_room n (o + s) (omega (arith, suc-mul n s))) $ move ! (1 ∷ 0 ∷ []) $
      fjoin ! $ done !

  pub room_of_vacant : (n o : ℕ) → ent 𝓤 (sem 𝓛 (Row o n)) (H.room (ty_array τ n) b o)
  room_of_vacant zero o = 𝓛.laws.room_nil τ b o
  room_of_vacant (suc n) o = qed 𝓛 (‵ (Row o (suc n)) ∷ []) ∵ fsplit ! $ fsplit ! $
      use1 𝓛 (‵ (froom τ b o)) (𝓛.laws.raw-room τ b o) $ move ! (1 ∷ []) $ drop ! $ move ! (1 ∷ []) $
      use1 𝓛 (‵ (froom (ty_array τ n) b (o + s))) (room_of_vacant n (o + s)) $ move ! (1 ∷ []) $
      by ! (𝓛.laws.room_cons τ n b o)
