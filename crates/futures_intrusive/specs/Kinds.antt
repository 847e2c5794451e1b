-- What each kind of channel calls closed and cleared.
use Rattle.std.specs.Prelude.{◌≡◌, ⊤, not, []}
use Rattle.fi_channels.specs.ChannelWords.{ChannelMachine}
use Rattle.fi_channels.specs.Cleared.{NoSendWaits}
use Rattle.fi_channels.specs.Oneshot.{OneshotMachine, has_closed}
use Rattle.fi_channels.specs.StateBroadcast.{StateMachine}
use Rattle.futures_intrusive.specs.Ends.{Closing}

module _ {T W : Type 0} where
  abbrev pub closing_channel : Closing (ChannelMachine T W)
  closing_channel = record {
    is_closed = λ state. not state.own.is_open;
    IsCleared = λ state. state.own.buffer.items ≡ [];
    NoSendWaits = NoSendWaits;
  }

  -- its one value stays to be received, and its sends never wait
  abbrev pub closing_one_value : Closing (OneshotMachine T W)
  closing_one_value = record { is_closed = λ state. has_closed state.own; IsCleared = λ state. ⊤; NoSendWaits = λ state. ⊤ }

  -- its newest state stays to be received, and its sends never wait
  abbrev pub closing_state_broadcast : Closing (StateMachine T W)
  closing_state_broadcast = record { is_closed = λ state. not state.own.is_open; IsCleared = λ state. ⊤; NoSendWaits = λ state. ⊤ }
