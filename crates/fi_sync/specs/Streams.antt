-- What a stream that threads share does in its channel.
use Rattle.std.specs.Prelude.{◌≡◌, ℕ, Bool, true, false, Option, Some, None, Result, Ok, Err}
use Rattle.futures.specs.declared.task.Poll.{Poll}
use Rattle.futures.specs.declared.task.Poll.TheVariants.{Ready, Pending}
use Rattle.fi_channels.specs.Channel.{PollsNext}
use Rattle.fi_channels.specs.ChannelWords.{ChannelMachine, can_stream, kind_of, receive_phase}
use Rattle.fi_channels.specs.Polled.{unused_after}
use Rattle.fi_parts.specs.declared.errors.Fault.{Fault}
use Rattle.fi_parts.specs.declared.phase.Leftover.{Leftover}
use Rattle.fi_sync.specs.Waiting.{PollsWhere, IsUntimedAnswer}

-- A poll that is not refused is one of these; a channel refuses none.
abbrev pub Streamed : {T S : Type 0} → (Poll (Option T) → S → Type 0) → Poll (Option (Result T Fault)) → S → Type 0
Streamed polled Pending new = polled Pending new
Streamed polled (Ready None) new = polled (Ready None) new
Streamed polled (Ready (Some (Ok item))) new = polled (Ready (Some item)) new
Streamed polled (Ready (Some (Err fault))) new = ⊥

abbrev pub displaced_by_next : {T W : Type 0} → Poll (Option (Result T Fault)) → Option W → Option W
displaced_by_next (Ready (Some (Err fault))) had = None
displaced_by_next answer had = had

-- the wakers of no more use: the one that the stream had, and the poll's own; a refused poll leaves the stream's
abbrev pub leftover_of_next : {T W : Type 0} → Poll (Option (Result T Fault)) → Option W → W → Leftover W
leftover_of_next answer had waker =
    record { displaced = displaced_by_next answer had; unused = unused_after answer waker }

-- A poll of a stream under a slot is the channel's where a stream can be polled there; else it is refused, and nothing changes.
abbrev pub PollsStream : {T W : Type 0} → ChannelMachine T W → ℕ → W → Poll (Option (Result T Fault)) → ChannelMachine T W → Type 0
PollsStream old name waker answer new =
    PollsWhere (can_stream (kind_of old name) (receive_phase old name)) (Streamed (PollsNext old name waker)) (Some (Err Fault.NoSlot))
    old answer new

-- A stream that has ended answers its end. Another answers as its channel did in some hold of the lock, where it was polled under the
-- stream's own name, or that it has no memory where it had to wait and no waker could be made.
abbrev pub IsStreamAnswer : {S T W : Type 0} → (S → ℕ → Option W → Poll (Option (Result T Fault)) → S → Type 0)
    → Option ℕ → Bool → Bool → Poll (Option (Result T Fault)) → Type 0
IsStreamAnswer polls own true lacks_waker answer = answer ≡ Ready None
IsStreamAnswer polls own false lacks_waker answer =
    IsUntimedAnswer polls (Some (Err Fault.NoMemory)) own false lacks_waker answer
