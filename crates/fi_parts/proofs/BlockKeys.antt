-- Pointers to blocks are told apart.
use Rattle.std.proofs.Common.{◌≡◌, ◌≢◌, true, false, ◌⊎◌, inl, inr, refl, ap, subst}
use Rattle.std.proofs.lemmas.Bool.{both_ways, cases_Bool, false_from_ne_true}
use denote.RawPtr.{Ptr}
use Rattle.fi_parts.specs.declared.blocks.block.BlockPtr.{BlockPtr}
use Rattle.fi_parts.specs.Links.{alike}
use Rattle.fi_parts.proofs.Placed.{same_ptr_refl, same_ptr_eq}

module _ {T : Type 0} where
  pub alike-true : (p q : BlockPtr T) → alike p q ≡ true → p ≡ q
  alike-true p q e = ap (λ (s : Ptr). record { ptr = s }) (same_ptr_eq p.ptr q.ptr e)

  pub alike_self : (p : BlockPtr T) → alike p p ≡ true
  alike_self p = same_ptr_refl p.ptr

  pub alike-from : (p q : BlockPtr T) → p ≡ q → alike p q ≡ true
  alike-from p q e = subst (λ s. alike p s ≡ true) e (alike_self p)

  pub ne_alike : (p q : BlockPtr T) → p ≢ q → alike p q ≡ false
  ne_alike p q ne = false_from_ne_true _ (λ e. ne (alike-true p q e))

  pub cases_alike : (p q : BlockPtr T) → (p ≡ q) ⊎ (p ≢ q)
  cases_alike p q = elim (cases_Bool (alike p q)) [
    | inl e ↦ inl (alike-true p q e)
    | inr e ↦ inr (λ is. both_ways (alike p q) e (alike-from p q is))
  ]
