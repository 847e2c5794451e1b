-- What a stream of a channel with shared ends does in it.
use Rattle.std.specs.Prelude.{ℕ, Option, Result}
use Rattle.futures.specs.declared.task.Poll.{Poll}
use Rattle.fi_channels.specs.ChannelWords.{ChannelMachine}
use Rattle.fi_parts.specs.declared.errors.Fault.{Fault}
use Rattle.fi_sync.specs.Streams.{PollsStream}
use Rattle.futures_intrusive.specs.Ends.{Counted, OnState}

-- A poll of a stream is that of the channel, and leaves the counts as they are.
abbrev pub PollsSharedStream : {T W : Type 0} → Counted (ChannelMachine T W) → ℕ → W → Poll (Option (Result T Fault))
    → Counted (ChannelMachine T W) → Type 0
PollsSharedStream old name waker answer new = OnState (λ before after. PollsStream before name waker answer after) old new
