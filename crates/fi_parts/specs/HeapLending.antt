-- What a heap ends as, where a `&mut` to one of its values is returned.
use Rattle.std.specs.Prelude.{ℕ, Bool, Option}
use Rattle.std.specs.Borrow.{LendsIf, Fml, RattleType, MutBor}
use Rattle.std.specs.FinMap as map
use Rattle.std.specs.declared.cmp.Ordering.{Ordering}
use Rattle.fi_parts.specs.HeapModel.{HeapModel, with_values}
use Rattle.fi_parts.specs.contracts.heap.PairingHeap as heaps

-- the type of a heap of values that these functions compare
abbrev pub heap_row : (T : RattleType) → (T.Denot → T.Denot → Ordering) → (T.Denot → T.Denot → Bool)
    → (T.Denot → T.Denot → Option Ordering) → RattleType
heap_row T cmp eq partial = heaps.the_row T (record { cmp = cmp }) (record { eq = eq }) (record { partial_cmp = partial })

module _ (T : RattleType) (cmp : T.Denot → T.Denot → Ordering) (eq : T.Denot → T.Denot → Bool)
    (partial : T.Denot → T.Denot → Option Ordering) (h : MutBor (HeapModel T.Denot)) (slot : ℕ) where
  abbrev pub LendsValueOf : Option (MutBor T.Denot) → Fml
  LendsValueOf r = LendsIf (heap_row T cmp eq partial) T h r (λ w. with_values h.now (map.insert h.now.live slot w)) h.now
