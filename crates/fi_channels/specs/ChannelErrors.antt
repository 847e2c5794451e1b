-- What the refusals of a channel say.
use Rattle.std.specs.Prelude.{Bool, true, false, Option, Some, None}
use Rattle.fi_parts.specs.declared.errors.Fault.{Fault}
use Rattle.fi_parts.specs.declared.errors.Fault.TheVariants as faults
use Rattle.fi_channels.specs.declared.channel.errors.SendFault.{SendFault}
use Rattle.fi_channels.specs.declared.channel.errors.SendFault.TheVariants as not_polled
use Rattle.fi_channels.specs.declared.channel.errors.TryReceiveError.{TryReceiveError}
use Rattle.fi_channels.specs.declared.channel.errors.TryReceiveError.TheVariants as not_received
use Rattle.fi_channels.specs.declared.channel.errors.TrySendError.{TrySendError}
use Rattle.fi_channels.specs.declared.channel.errors.TrySendError.TheVariants.{Full, Closed, NoMemory}

module _ {T : Type 0} where
  -- the value that was not sent
  abbrev pub value_in : TrySendError T → T
  value_in (Full value) = value
  value_in (Closed value) = value
  value_in (NoMemory refused) = refused.0

  -- the value that a send's poll hands back
  abbrev pub value_of_poll : SendFault T → Option T
  value_of_poll (not_polled.Closed value) = Some value
  value_of_poll (not_polled.Fault fault) = None

  abbrev pub is_full : TrySendError T → Bool
  is_full (Full value) = true
  is_full error = false

  abbrev pub is_closed_to : TrySendError T → Bool
  is_closed_to (Closed value) = true
  is_closed_to error = false

  abbrev pub is_memory : TrySendError T → Bool
  is_memory (NoMemory value) = true
  is_memory error = false

  -- The fault that a refusal converts into: of a send at once, and of a send's poll.
  abbrev pub fault_of_send : TrySendError T → Fault
  fault_of_send (Full value) = faults.Full
  fault_of_send (Closed value) = faults.Closed
  fault_of_send (NoMemory value) = faults.NoMemory

  abbrev pub fault_of_poll : SendFault T → Fault
  fault_of_poll (not_polled.Closed value) = faults.Closed
  fault_of_poll (not_polled.Fault fault) = fault

-- the same of a receive at once
abbrev pub fault_of_receive : TryReceiveError → Fault
fault_of_receive not_received.Empty = faults.Empty
fault_of_receive not_received.Closed = faults.Closed

abbrev pub is_empty : TryReceiveError → Bool
is_empty not_received.Empty = true
is_empty not_received.Closed = false
