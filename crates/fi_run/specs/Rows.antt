-- What the rows of script lines stand for: the calls of each primitive.
use Rattle.std.specs.Prelude.{ℕ, ◌*◌, ◌/◌, ◌%◌, Option, None, Some}
use Rattle.std.specs.Duration.{as_nanos}
use Rattle.std.specs.declared.time.Duration.{Duration}
use Rattle.fi_parts.specs.Clocks.{whole_millis_in}
use Rattle.fi_parts.specs.declared.errors.Slot.{Slot}
use Rattle.fi_run.specs.declared.channel.ChannelCall.{ChannelCall}
use Rattle.fi_run.specs.declared.channel.ChannelCall.TheVariants as channel
use Rattle.fi_run.specs.declared.event.EventCall.{EventCall}
use Rattle.fi_run.specs.declared.event.EventCall.TheVariants as event
use Rattle.fi_run.specs.declared.mutex.MutexCall.{MutexCall}
use Rattle.fi_run.specs.declared.mutex.MutexCall.TheVariants as mutex
use Rattle.fi_run.specs.declared.oneshot.OneshotCall.{OneshotCall}
use Rattle.fi_run.specs.declared.oneshot.OneshotCall.TheVariants as oneshot
use Rattle.fi_run.specs.declared.script.row.Numbers.{Numbers}
use Rattle.fi_run.specs.declared.script.row.Numbers.TheVariants.{Absent, One, Two}
use Rattle.fi_run.specs.declared.script.row.MadeFuture.{MadeFuture}
use Rattle.fi_run.specs.declared.script.row.Row.{Row}
use Rattle.fi_run.specs.declared.script.row.Row.TheVariants.{Plain, Make, Poll, Cancel}
use Rattle.fi_run.specs.declared.script.verb.Verb.{Verb}
use Rattle.fi_run.specs.declared.script.verb.Verb.TheVariants as verb
use Rattle.fi_run.specs.declared.semaphore.SemaphoreCall.{SemaphoreCall}
use Rattle.fi_run.specs.declared.semaphore.SemaphoreCall.TheVariants as semaphore
use Rattle.fi_run.specs.declared.state.StateCall.{StateCall}
use Rattle.fi_run.specs.declared.state.StateCall.TheVariants as state
use Rattle.fi_run.specs.declared.timer.TimerCall.{TimerCall}
use Rattle.fi_run.specs.declared.timer.TimerCall.TheVariants as timer

-- What a line with a label asks for: a free label is for making a future, one in use for its poll or cancel.
abbrev pub labelled_row : Verb → Numbers → Option MadeFuture → Option Row
labelled_row verb numbers None = Some (Make verb numbers)
labelled_row verb.Poll numbers (Some future) = Some (Poll future numbers)
labelled_row verb.Cancel numbers (Some future) = Some (Cancel future numbers)
labelled_row verb numbers (Some future) = None

-- the poll and the cancel of a future that this verb made
abbrev pub poll_row : Verb → Slot → ℕ → Row
poll_row verb slot waker = Poll (record { verb = verb; slot = slot }) (One waker)

abbrev pub cancel_row : Verb → Slot → Row
cancel_row verb slot = Cancel (record { verb = verb; slot = slot }) Absent

-- ---- the event
abbrev pub event_call : Row → Option (EventCall ℕ)
event_call (Make verb.Wait Absent) = Some event.Wait
event_call (Poll future (One waker)) = Some (event.Poll future.slot waker)
event_call (Cancel future Absent) = Some (event.Cancel future.slot)
event_call (Plain verb.Set Absent) = Some event.Set
event_call (Plain verb.Reset Absent) = Some event.Reset
event_call (Plain verb.IsSet Absent) = Some event.IsSet
event_call row = None

-- ---- the two channels of one value
abbrev pub oneshot_call : Row → Option (OneshotCall ℕ ℕ)
oneshot_call (Make verb.Receive Absent) = Some oneshot.Receive
oneshot_call (Poll future (One waker)) = Some (oneshot.Poll future.slot waker)
oneshot_call (Cancel future Absent) = Some (oneshot.Cancel future.slot)
oneshot_call (Plain verb.TryReceive Absent) = Some oneshot.TryReceive
oneshot_call (Plain verb.Send (One value)) = Some (oneshot.Send value)
oneshot_call (Plain verb.Close Absent) = Some oneshot.Close
oneshot_call row = None

-- ---- the state broadcast
abbrev pub state_call : Row → Option (StateCall ℕ ℕ)
state_call (Make verb.Receive (One seen)) = Some (state.Receive seen)
state_call (Poll future (One waker)) = Some (state.Poll future.slot waker)
state_call (Cancel future Absent) = Some (state.Cancel future.slot)
state_call (Plain verb.TryReceive (One seen)) = Some (state.TryReceive seen)
state_call (Plain verb.Send (One value)) = Some (state.Send value)
state_call (Plain verb.Close Absent) = Some state.Close
state_call row = None

-- ---- the timer
-- A delay of this many milliseconds, in seconds and nanoseconds. Its length is in the contract of `delay_of`.
abbrev pub of_millis : ℕ → Duration
of_millis millis = record { secs = millis / 1000; nanos = millis % 1000 * 1000000 }

abbrev pub timer_call : Row → Option (TimerCall ℕ)
timer_call (Make verb.Deadline (One expiry)) = Some (timer.Deadline expiry)
timer_call (Make verb.Delay (Two now millis)) = Some (timer.Delay now (of_millis millis))
timer_call (Poll future (Two now waker)) = Some (timer.Poll future.slot now waker)
timer_call (Cancel future Absent) = Some (timer.Cancel future.slot)
timer_call (Plain verb.Check (One now)) = Some (timer.Check now)
timer_call (Plain verb.Next Absent) = Some timer.Next
timer_call row = None

-- the call as its line has it, with a delay in whole milliseconds
abbrev pub in_whole_millis : TimerCall ℕ → TimerCall ℕ
in_whole_millis (timer.Delay now delay) = timer.Delay now (of_millis (whole_millis_in (as_nanos delay)))
in_whole_millis call = call

-- ---- the mutex
abbrev pub mutex_call : Row → Option (MutexCall ℕ ℕ)
mutex_call (Make verb.Lock Absent) = Some mutex.Lock
mutex_call (Poll future (One waker)) = Some (mutex.Poll future.slot waker)
mutex_call (Cancel future Absent) = Some (mutex.Cancel future.slot)
mutex_call (Plain verb.TryLock Absent) = Some mutex.TryLock
mutex_call (Plain verb.Unlock (One value)) = Some (mutex.Unlock value)
mutex_call (Plain verb.IsLocked Absent) = Some mutex.IsLocked
mutex_call row = None

-- ---- the semaphore
abbrev pub semaphore_call : Row → Option (SemaphoreCall ℕ)
semaphore_call (Make verb.Acquire (One need)) = Some (semaphore.Acquire need)
semaphore_call (Poll future (One waker)) = Some (semaphore.Poll future.slot waker)
semaphore_call (Cancel future Absent) = Some (semaphore.Cancel future.slot)
semaphore_call (Plain verb.TryAcquire (One n)) = Some (semaphore.TryAcquire n)
semaphore_call (Plain verb.Release (One n)) = Some (semaphore.Release n)
semaphore_call (Plain verb.GiveBack (One n)) = Some (semaphore.GiveBack n)
semaphore_call (Plain verb.Disarm (One n)) = Some (semaphore.Disarm n)
semaphore_call (Plain verb.Permits Absent) = Some semaphore.Permits
semaphore_call (Plain verb.Held Absent) = Some semaphore.Held
semaphore_call row = None

-- ---- the channel of many values
-- A future is polled and cancelled as what it was made as.
abbrev pub channel_poll : Verb → Slot → ℕ → Option (ChannelCall ℕ ℕ)
channel_poll verb.Send slot waker = Some (channel.PollSend slot waker)
channel_poll verb.Receive slot waker = Some (channel.PollReceive slot waker)
channel_poll verb.Stream slot waker = Some (channel.PollNext slot waker)
channel_poll other slot waker = None

abbrev pub channel_cancel : Verb → Slot → Option (ChannelCall ℕ ℕ)
channel_cancel verb.Send slot = Some (channel.CancelSend slot)
channel_cancel verb.Receive slot = Some (channel.CancelReceive slot)
channel_cancel verb.Stream slot = Some (channel.CancelReceive slot)
channel_cancel other slot = None

abbrev pub channel_call : Row → Option (ChannelCall ℕ ℕ)
channel_call (Make verb.Send (One value)) = Some (channel.Send value)
channel_call (Make verb.Receive Absent) = Some channel.Receive
channel_call (Make verb.Stream Absent) = Some channel.Stream
channel_call (Poll future (One waker)) = channel_poll future.verb future.slot waker
channel_call (Cancel future Absent) = channel_cancel future.verb future.slot
channel_call (Plain verb.TrySend (One value)) = Some (channel.TrySend value)
channel_call (Plain verb.TryReceive Absent) = Some channel.TryReceive
channel_call (Plain verb.Close Absent) = Some channel.Close
channel_call row = None
