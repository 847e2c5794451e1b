-- What a send that threads share does in its channel.
use Rattle.std.specs.Prelude.{◌≡◌, ℕ, Bool, true, false, Option, None, Result, Ok, Err}
use Rattle.futures.specs.declared.task.Poll.{Poll}
use Rattle.fi_channels.specs.ChannelWords.{displaced_by_send}
use Rattle.fi_channels.specs.Polled.{unused_after}
use Rattle.fi_channels.specs.declared.channel.errors.SendFault.{SendFault}
use Rattle.fi_channels.specs.declared.channel.errors.SendFault.TheVariants as send_fault
use Rattle.fi_parts.specs.declared.phase.Leftover.{Leftover}
use Rattle.fi_sync.specs.Waiting.{IsLeftBy}

-- The send has ended: its value was accepted or taken, or is handed back by a closed channel.
abbrev pub is_sent : {T : Type 0} → Result (Unit {0}) (SendFault T) → Bool
is_sent (Ok done) = true
is_sent (Err (send_fault.Closed value)) = true
is_sent (Err (send_fault.Fault fault)) = false

-- the wakers of no more use: the one that the send had, and the poll's own; a refused poll leaves the send's
abbrev pub leftover_of_send : {T W : Type 0} → Poll (Result (Unit {0}) (SendFault T)) → Option W → W → Leftover W
leftover_of_send answer had waker =
    record { displaced = displaced_by_send answer had; unused = unused_after answer waker }

-- A cancel is the channel's where the send lives, and leaves its waker too; else nothing changes and nothing is left.
abbrev pub CancelsSendWhere : {S T W : Type 0} → Bool → Type 0 → Option W → S → Option T × Option W → S → Type 0
CancelsSendWhere true cancels had old left new = cancels × (left.1 ≡ had)
CancelsSendWhere false cancels had old left new = (new ≡ old) × (left ≡ (None, None))

-- A cancel of the send under this name, of a channel whose sends are these.
abbrev pub CancelsSend : {S T W : Type 0} → (S → ℕ → Bool) → (S → ℕ → Option T → S → Type 0) → (S → ℕ → Option W)
    → S → ℕ → Option T × Option W → S → Type 0
CancelsSend is_sending withdraws waker_of old name left new =
    CancelsSendWhere (is_sending old name) (withdraws old name left.0 new) (waker_of old name) old left new

-- A cancel under the send's own name, in some hold of the lock, gave back this value, if any.
abbrev pub GivesBackBy : {S T W : Type 0} → (S → ℕ → Option T × Option W → S → Type 0) → Option ℕ → Option T → Type 0
GivesBackBy {S} {T} {W} cancels own value = (waker : Option W) × IsLeftBy cancels own (value, waker)
