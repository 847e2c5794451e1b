-- A `&` to a list of owned blocks is made where one to each block is. Assumes `Logic`.
use Prim.Native.Nat.{ℕ}
use mathlib.Core.List.{List, [], ◌∷◌}
use seplogic.Ra.Ura.{Ura}
use base.Fml.{Lft, Incl, ftrue, fsep, fex}
use types.Logic.{Logic}
use denote.RattleType.{RattleType, RowLaws}
use denote.Param.Laws.{Laws}
use denote.RawPtr.{Ptr, lies_at}
use denote.Sharing.{ShrLaws}
use base.Fraction.{full_share}
use denote.SharingLaws.{beside_shr_laws, nothing_shr_laws}
use denote.Shares.{Shares-less}
use denote.Struct.Lending.{Lends, lent_at, lent_at_shr_laws, Lends-lies, Lends-first, Lends-both, Lends-nothing}
use mir.Raw.{raw as bare}
use denote.Memory.{lone}
use Rattle.fi_parts.specs.BlockOwner.{token, block_owns, blocks_own, vacancies_own, deeds_own, IsShared, all_owns}
use Rattle.fi_parts.specs.BlockOwner.{blocks_lent}

module _ (B : RattleType) where
  pub lent_laws : RowLaws B → (bs : List (Ptr × B.Denot)) → ShrLaws (blocks_lent B bs)
  lent_laws L [] = nothing_shr_laws
  lent_laws L (b ∷ bs) = beside_shr_laws _ _ (lent_at_shr_laws B L b.0 b.1) (lent_laws L bs)

module _ {M : Type 1} {𝓤 : Ura M} (𝓛 : Logic 𝓤) (l : Lft) (B : RattleType) (L : Laws B) (inc : Incl l B.lives) where
  pub Lends-blocks : (bs : List (Ptr × B.Denot)) → Lends 𝓛 (blocks_own B bs) (blocks_lent B bs) l
  Lends-blocks [] = Lends-nothing 𝓛 ftrue l
  Lends-blocks (b ∷ bs) =
      Lends-both 𝓛 (block_owns B b) (blocks_own B bs) (lent_at B b.0 b.1) (blocks_lent B bs) l
      (Lends-first 𝓛 (lies_at B full_share b.0 b.1) (token (bare (lone B.mir)) b.0) (lent_at B b.0 b.1) l
      (Lends-lies 𝓛 B l b.0 b.1 (Shares-less 𝓛 B B.lives l inc (L.shares 𝓛) b.1))) (Lends-blocks bs)

  -- what is beside the blocks is let go for the lifetime
  pub Lends-all : (bs : List (Ptr × B.Denot)) (vs : List (Ptr × Unit {0})) (cs : List (Ptr × ℕ))
      → Lends 𝓛 (all_owns B bs vs cs) (blocks_lent B bs) l
  Lends-all bs vs cs = Lends-first 𝓛 (blocks_own B bs)
      (fsep (vacancies_own B vs) (fsep (deeds_own B cs) (fex (IsShared B bs vs cs) (λ _. ftrue)))) (blocks_lent B bs) l
      (Lends-blocks bs)
