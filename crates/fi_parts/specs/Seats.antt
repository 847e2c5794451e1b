-- How the futures of a timer and the seats of its heap go together.
use Rattle.std.specs.Prelude.{◌≡◌, ◌≤◌, ℕ, true, Some, [], map}
use Rattle.std.specs.Ordering.{nat_cmp}
use Rattle.std.specs.FinMap as finmap
use Rattle.std.specs.FinSet as set
use Rattle.fi_parts.specs.declared.phase.LiveFuture.{LiveFuture}
use Rattle.fi_parts.specs.HeapModel.{HeapModel, value_under}
use Rattle.fi_parts.specs.Waiting.{Waiting, is_registered}
use Rattle.fi_parts.specs.declared.deadlines.Deadline.{Deadline}
use Rattle.fi_parts.specs.declared.deadlines.Due.{Due}

module _ {W : Type 0} where
  -- the future without its seat
  abbrev pub unseated : LiveFuture Deadline W → LiveFuture ℕ W
  unseated future = record { asks = future.asks.expiry; phase = future.phase }

  -- each future without its seat
  unfoldable pub unseated_all : finmap.FinMap nat_cmp (LiveFuture Deadline W) → finmap.FinMap nat_cmp (LiveFuture ℕ W)
  unseated_all live = finmap.from_entries (map (λ e. (e.0, unseated e.1)) (finmap.entries live))

  -- what a caller sees: expiries without seats, and no queue
  abbrev pub deadlines_of : Waiting Deadline W → Waiting ℕ W
  deadlines_of waiting = record { side = record { live = unseated_all waiting.side.live; queue = [] }; out = waiting.out }

  -- what is stored under a future's seat
  abbrev pub due_of : LiveFuture Deadline W → ℕ → Due
  due_of future name = record { expiry = future.asks.expiry; name = name }

  -- Each future has a seat of its own with its expiry and name, each seat a future, and exactly the registered ones take theirs.
  pub record AreSeated (live : finmap.FinMap nat_cmp (LiveFuture Deadline W)) (heap : HeapModel Due) : Type 0 where
    pub seated : (name : ℕ) (future : LiveFuture Deadline W) → finmap.get live name ≡ Some future →
        value_under heap future.asks.seat.0 ≡ Some (due_of future name)
    pub owned : (seat : ℕ) (due : Due) → value_under heap seat ≡ Some due →
        (future : LiveFuture Deadline W) × (finmap.get live due.name ≡ Some future) × (future.asks.seat.0 ≡ seat)
    pub taken : (name : ℕ) (future : LiveFuture Deadline W) → finmap.get live name ≡ Some future →
        set.contains heap.members future.asks.seat.0 ≡ is_registered (Some future.phase)

-- This seat is taken, and has this least expiry of all that are taken.
pub record IsFirst (heap : HeapModel Due) (seat : ℕ) (due : Due) : Type 0 where
  pub member : set.contains heap.members seat ≡ true
  pub value : value_under heap seat ≡ Some due
  pub least : (other : ℕ) (later : Due) → set.contains heap.members other ≡ true → value_under heap other ≡ Some later →
      due.expiry ≤ later.expiry
