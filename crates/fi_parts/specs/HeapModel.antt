-- What a contract sees of a heap: live slots with their values, and which of the slots are in the heap.
use Rattle.std.specs.Prelude.{◌≡◌, ◌≢◌, ℕ, true, Option, Some, IsSome, refl}
use Rattle.std.specs.Coded.{Coded, code_by, coded×, coded_ℕ}
use Rattle.std.specs.Ordering.{nat_cmp}
use Rattle.std.specs.declared.cmp.Ordering.{Ordering}
use Rattle.std.specs.declared.cmp.Ordering.TheVariants.{Less}
use Rattle.std.specs.FinMap as map
use Rattle.std.specs.FinSet as set

pub record HeapModel (T : Type 0) : Type 0 where
  pub live : map.FinMap nat_cmp T
  pub members : set.FinSet nat_cmp

abbrev pub heap_code : {T : Type 0} → Coded T → Coded (HeapModel T)
heap_code {T} code =
    code_by
    (map.FinMap nat_cmp T × set.FinSet nat_cmp)
    (coded× (map.code coded_ℕ code) (set.code coded_ℕ))
    (λ h. (h.live, h.members))
    (λ p. record { live = p.0; members = p.1 })
    (λ _. refl)

module _ {T : Type 0} where
  -- the value under a slot
  abbrev pub value_under : HeapModel T → ℕ → Option T
  value_under h slot = map.get h.live slot

  abbrev pub IsLiveIn : HeapModel T → ℕ → Type 0
  IsLiveIn h slot = IsSome (value_under h slot)

  -- the same members over other live values
  abbrev pub with_values : HeapModel T → map.FinMap nat_cmp T → HeapModel T
  with_values h live = record h { live = live }

  -- each member is live
  abbrev pub MembersAreLive : HeapModel T → Type 0
  MembersAreLive h = (slot : ℕ) → set.contains h.members slot ≡ true → IsLiveIn h slot

  -- this slot is a live member, and no member's value is less than its value
  pub record IsLeastOf (cmp : T → T → Ordering) (h : HeapModel T) (slot : ℕ) : Type 0 where
    pub member : set.contains h.members slot ≡ true
    pub live : IsLiveIn h slot
    pub none_less : (other : ℕ) (least value : T) → set.contains h.members other ≡ true → value_under h slot ≡ Some least
        → value_under h other ≡ Some value → cmp value least ≢ Less
