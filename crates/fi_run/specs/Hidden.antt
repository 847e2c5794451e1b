-- No line of a script asks for the oldest waker.
use Rattle.std.specs.Prelude.{◌≢◌, Some}
use Rattle.std.proofs.Common.{arith}
use Rattle.fi_run.specs.Rows.{channel_call, event_call, mutex_call, oneshot_call, semaphore_call, state_call, timer_call}
use Rattle.fi_run.specs.declared.script.row.Row.{Row}
use Rattle.fi_run.specs.declared.channel.ChannelCall.TheVariants as channel_calls
use Rattle.fi_run.specs.declared.event.EventCall.TheVariants as event_calls
use Rattle.fi_run.specs.declared.mutex.MutexCall.TheVariants as mutex_calls
use Rattle.fi_run.specs.declared.oneshot.OneshotCall.TheVariants as oneshot_calls
use Rattle.fi_run.specs.declared.semaphore.SemaphoreCall.TheVariants as semaphore_calls
use Rattle.fi_run.specs.declared.state.StateCall.TheVariants as state_calls
use Rattle.fi_run.specs.declared.timer.TimerCall.TheVariants as timer_calls

pub event_hides : (row : Row) → event_call row ≢ Some event_calls.NextWake
event_hides row e = grind arith

pub oneshot_hides : (row : Row) → oneshot_call row ≢ Some oneshot_calls.NextWake
oneshot_hides row e = grind arith

pub state_hides : (row : Row) → state_call row ≢ Some state_calls.NextWake
state_hides row e = grind arith

pub timer_hides : (row : Row) → timer_call row ≢ Some timer_calls.NextWake
timer_hides row e = grind arith

pub mutex_hides : (row : Row) → mutex_call row ≢ Some mutex_calls.NextWake
mutex_hides row e = grind arith

pub semaphore_hides : (row : Row) → semaphore_call row ≢ Some semaphore_calls.NextWake
semaphore_hides row e = grind arith

pub channel_hides : (row : Row) → channel_call row ≢ Some channel_calls.NextWake
channel_hides row e = grind arith
