-- In which order futures were polled first. A history is a list of calls with their answers, the newest first.
use Rattle.std.specs.Prelude.{ℕ, if◌then◌else◌, List, [], ◌∷◌, ◌++◌}
use Rattle.fi_parts.specs.Order.{holds, without}
use Rattle.fi_parts.specs.WakerHistory.{WakerChange}
use Rattle.fi_parts.specs.WakerHistory.WakerChange.{Pends, Leaves}

module _ {W : Type 0} where
  -- Whose poll is pending goes to the end, and keeps its place if it stands there already. One that is made, ends or is cancelled
  -- has none.
  abbrev pub order_step : WakerChange W → List ℕ → List ℕ
  order_step (Pends name waker) order = if holds name order then order else order ++ name ∷ []
  order_step (Leaves name) order = without name order
  order_step on_wakers order = order

  -- The futures that were polled and neither ended nor cancelled since, in the order of their first polls; those that waited
  -- at first come before.
  abbrev pub order_after : {E : Type 0} → (E → WakerChange W) → List ℕ → List E → List ℕ
  order_after waker_change first [] = first
  order_after waker_change first (entry ∷ history) = order_step (waker_change entry) (order_after waker_change first history)
