-- An event that resets itself: a mutex without a value, set while that is free. To set it is to unlock, and a wait that passes
-- locks it.
use Rattle.std.specs.Prelude.{Bool, true, false, Option, Some, None, Result}
use Rattle.fi_locks.specs.Mutex.{MutexMachine, TriesLock, Unlocks}

-- what `try_take` of the mutex answers where one passes, or can't
abbrev pub passing : Bool → Option (Unit {0})
passing true = Some tt
passing false = None

module _ {W : Type 0} where
  -- It is set then: it was already, and nothing changes, or it is now, and the oldest wait of the queue is told.
  abbrev pub Sets : MutexMachine (Unit {0}) W → MutexMachine (Unit {0}) W → Type 0
  Sets old new = (answer : Result (Unit {0}) (Unit {0})) × Unlocks old tt answer new

  -- A newcomer passes, and the event is not set any more; or it can't, and nothing changes.
  abbrev pub TriesWait : MutexMachine (Unit {0}) W → Bool → MutexMachine (Unit {0}) W → Type 0
  TriesWait old passes new = TriesLock old (passing passes) new
