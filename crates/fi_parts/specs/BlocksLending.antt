-- What the blocks end as, where a `&mut` to one of the items is returned.
use Rattle.std.specs.Prelude.{ℕ, Option}
use Rattle.std.specs.Borrow.{LendsIf, Fml, RattleType, MutBor}
use Rattle.std.specs.FinMap as map
use Rattle.fi_parts.specs.ListModel.{ListModel, with_live, at_end}
use Rattle.fi_parts.specs.contracts.blocks.Blocks as blocks

abbrev pub LendsSlot : (T : RattleType) → MutBor (ListModel T.Denot) → ℕ → Option (MutBor T.Denot) → Fml
LendsSlot T l slot r = LendsIf (blocks.the_row T) T l r (λ w. with_live l.now (map.insert l.now.live slot w)) l.now

abbrev pub LendsEndSlot : (T : RattleType) → MutBor (ListModel T.Denot) → Option ℕ → Option (MutBor T.Denot) → Fml
LendsEndSlot T l end r = LendsIf (blocks.the_row T) T l r (at_end l.now end) l.now
