-- The senders and receivers of a channel, which are counted beside its state.
use Rattle.std.specs.Prelude.{◌≡◌, ℕ, ◌+◌, ◌-◌, ◌≤◌, ◌==◌, Bool, true, false, Option, Some, None, Result, refl}
use Rattle.std.specs.Coded.{Coded, code_by, coded×, coded_ℕ}
use Rattle.futures.specs.declared.task.waker.Waker.{Waker}
use Rattle.fi_parts.specs.declared.errors.Fault.{Fault}
use Rattle.fi_channels.specs.EndCount.{most_ends, AddsAt}
use Rattle.fi_channels.specs.Event.{EventMachine, opened, Sets, Wakes}
use Rattle.fi_channels.specs.EventCode.{event_code}

-- A channel's state, how many senders and receivers it has, and the event that is set once it is closed.
pub record Counted (S : Type 0) : Type 0 where
  pub state : S
  pub senders : ℕ
  pub receivers : ℕ
  pub closed : EventMachine (Option Waker)

abbrev pub counted_code : {S : Type 0} → Coded S → Coded (Option Waker) → Coded (Counted S)
counted_code {S} s w = code_by (S × (ℕ × (ℕ × EventMachine (Option Waker)))) (coded× s (coded× coded_ℕ (coded× coded_ℕ (event_code w))))
    (λ c. (c.state, (c.senders, (c.receivers, c.closed))))
    (λ p. record { state = p.0; senders = p.1.0; receivers = p.1.1.0; closed = p.1.1.1 }) (λ _. refl)

-- Whether a kind of channel is closed; in which of its states nothing is buffered; and in which no send waits.
pub record Closing (S : Type 0) : Type 1 where
  pub is_closed : S → Bool
  pub IsCleared : S → Type 0
  pub NoSendWaits : S → Type 0

module _ {S : Type 0} where
  -- No count is more than the most. Without senders the channel is closed; without receivers it is closed and nothing is buffered. Its
  -- event is set exactly if it is closed.
  pub record KeepsEnds (closing : Closing S) (counted : Counted S) : Type 0 where
    pub senders : counted.senders ≤ most_ends
    pub receivers : counted.receivers ≤ most_ends
    pub no_senders : counted.senders ≡ 0 → closing.is_closed counted.state ≡ true
    pub no_receivers : counted.receivers ≡ 0 → (closing.is_closed counted.state ≡ true) × closing.IsCleared counted.state
    pub told : counted.closed.own ≡ closing.is_closed counted.state

  -- What is closed and cleared stays cleared.
  abbrev pub StaysCleared : Closing S → S → S → Type 0
  StaysCleared closing old new = closing.is_closed old ≡ true → closing.IsCleared old → closing.IsCleared new

  -- What is closed stays closed, and what is open open; what is closed and cleared stays cleared.
  pub record StaysClosed (closing : Closing S) (old new : S) : Type 0 where
    pub closed : closing.is_closed new ≡ closing.is_closed old
    pub cleared : StaysCleared closing old new

  -- one of each
  abbrev pub two_ends : Closing S → S → Counted S
  two_ends closing state = record { state = state; senders = 1; receivers = 1; closed = opened (closing.is_closed state) }

  -- A side that has the most is refused one more, and nothing changes; else its count is one more.
  abbrev pub AddsSender : Counted S → Result (Unit {0}) Fault → Counted S → Type 0
  AddsSender old answer new = AddsAt (old.senders == most_ends) old (record old { senders = old.senders + 1 }) answer new

  abbrev pub AddsReceiver : Counted S → Result (Unit {0}) Fault → Counted S → Type 0
  AddsReceiver old answer new = AddsAt (old.receivers == most_ends) old (record old { receivers = old.receivers + 1 }) answer new

  -- Where there was none, nothing changes. Before the last one the count alone is one less. The last one closes the channel.
  abbrev pub DropsSenderAt : (is_none is_last : Bool) → (S → S → Type 0) → Counted S → Counted S → Type 0
  DropsSenderAt true is_last Closes old new = new ≡ old
  DropsSenderAt false false Closes old new = new ≡ record old { senders = old.senders - 1 }
  DropsSenderAt false true Closes old new = Closes old.state new.state × Sets old.closed new.closed
      × (new ≡ record old { state = new.state; senders = 0; closed = new.closed })

  abbrev pub DropsSender : (S → S → Type 0) → Counted S → Counted S → Type 0
  DropsSender Closes old new = DropsSenderAt (old.senders == 0) (old.senders == 1) Closes old new

  -- The state took this step, and the counts and the event are as they were.
  abbrev pub OnState : (S → S → Type 0) → Counted S → Counted S → Type 0
  OnState Steps old new = Steps old.state new.state × (new ≡ record old { state = new.state })

  -- The event took this step, and the state and the counts are as they were.
  abbrev pub OnClosed : (EventMachine (Option Waker) → EventMachine (Option Waker) → Type 0) → Counted S → Counted S → Type 0
  OnClosed Steps old new = Steps old.closed new.closed × (new ≡ record old { closed = new.closed })

  -- The state took this step, which closes it if it was open, and the event is set. The counts are as they were.
  abbrev pub ClosesBy : (S → S → Type 0) → Counted S → Counted S → Type 0
  ClosesBy Steps old new = Steps old.state new.state × Sets old.closed new.closed
      × (new ≡ record old { state = new.state; closed = new.closed })

  -- A waker comes from the state, which this is the answer of, or where that has none left from the event.
  abbrev pub WakesAfter : Option (Option Waker) → Counted S → Option (Option Waker) → Counted S → Type 0
  WakesAfter (Some waker) old answer new = (answer ≡ Some waker) × (new ≡ record old { state = new.state })
  WakesAfter None old answer new = Wakes old.closed answer new.closed × (new ≡ record old { state = new.state; closed = new.closed })

  abbrev pub WakesNext : (S → Option (Option Waker) → S → Type 0) → Counted S → Option (Option Waker) → Counted S → Type 0
  WakesNext Steps old answer new = (first : Option (Option Waker)) × Steps old.state first new.state × WakesAfter first old answer new

module _ {S C : Type 0} where
  -- The same of a receiver, where what the last one clears comes out; the others let nothing go.
  abbrev pub DropsReceiverAt : (is_none is_last : Bool) → (S → C → S → Type 0) → Counted S → Option C → Counted S → Type 0
  DropsReceiverAt true is_last Clears old taken new = (taken ≡ None) × (new ≡ old)
  DropsReceiverAt false false Clears old taken new = (taken ≡ None) × (new ≡ record old { receivers = old.receivers - 1 })
  DropsReceiverAt false true Clears old taken new = (cleared : C) × (taken ≡ Some cleared)
      × Clears old.state cleared new.state × Sets old.closed new.closed
      × (new ≡ record old { state = new.state; receivers = 0; closed = new.closed })

  abbrev pub DropsReceiver : (S → C → S → Type 0) → Counted S → Option C → Counted S → Type 0
  DropsReceiver Clears old taken new = DropsReceiverAt (old.receivers == 0) (old.receivers == 1) Clears old taken new

  -- A sender's drop, which lets nothing go.
  abbrev pub LeavesSender : (S → S → Type 0) → Counted S → Option C → Counted S → Type 0
  LeavesSender Closes old taken new = (taken ≡ None) × DropsSender Closes old new
