-- When a stream of a channel with shared ends has to wait.
use Rattle.std.specs.Prelude.{ℕ, Option, Some, None, IfNone}
use Rattle.fi_channels.specs.ChannelWords.{ChannelMachine}
use Rattle.fi_sync.specs.Streams.{PollsStream}
use Rattle.fi_sync.specs.Waiting.{WouldWait}
use Rattle.futures_intrusive.specs.Ends.{Counted}
use Rattle.futures_intrusive.specs.SharedStreams.{PollsSharedStream}

-- A poll that its channel puts off would have to wait.
pub put_off_by : {A T W : Type 0} (polled : Option A) (old : Counted (ChannelMachine T W)) (name : ℕ)
    → IfNone polled (WouldWait (PollsStream {T = T} {W = W}) old.state name)
    → IfNone polled (WouldWait (PollsSharedStream {T = T} {W = W}) old name)
put_off_by None old name waits = λ waker answer new step. waits waker answer new.state step.0
put_off_by (Some polled) old name waits = tt
