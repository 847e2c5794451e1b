-- What a contract sees of a reader of states and of an iterator that blocks, and what a read does.
use Rattle.std.specs.Prelude.{◌≡◌, ℕ, Option, Some, None}
use Rattle.std.specs.Borrow.{Bor}
use Rattle.std.specs.Fn.{Once, FnOnceReturnsAt}
use Rattle.fi_channels.specs.StateBroadcast.{StateMachine}

-- The source that its channel's futures register at, and the number of the newest state that it has read.
pub record Reader : Type 0 where
  pub source : ℕ
  pub seen : ℕ

-- The source that its channel's futures register at, and how many items an iterator gives at most.
pub record Values : Type 0 where
  pub source : ℕ
  pub left : ℕ

-- What a reader gives of what its receiver was answered, or a call that was lent the state: of a state its value, or what the call
-- answered, and it remembers the number; of none nothing, and it remembers what it did.
abbrev pub IsRead : {T : Type 0} → Reader → Option (ℕ × T) → Option T → Reader → Type 0
IsRead old None given new = (given ≡ None) × (new ≡ old)
IsRead old (Some state) given new = (given ≡ Some state.1) × (new ≡ record old { seen = state.0 })

-- Its receiver was answered so, and this is what the reader gives of it.
abbrev pub Reads : {T : Type 0} → (Option (ℕ × T) → Type 0) → Reader → Option T → Reader → Type 0
Reads {T} Answers old given new = (state : Option (ℕ × T)) × Answers state × IsRead old state given new

-- The newest state that a channel held was lent to a call: what that answered, beside the state's number. None if it held none.
abbrev pub Lends : {T W F A : Type 0} → Once F (Bor T × Unit {0}) A → F → StateMachine T W → Option (ℕ × A) → Type 0
Lends {T} calls look held (Some looked) =
    (value : T) × (held.own.value ≡ Some value) × FnOnceReturnsAt calls look value looked.1 × (looked.0 ≡ held.own.number)
Lends calls look held None = held.own.value ≡ None
