-- A channel that is closed and cleared in one call.
use Rattle.std.specs.Prelude.{◌≡◌, ℕ, false}
use Rattle.fi_parts.specs.declared.errors.CloseStatus.{CloseStatus}
use Rattle.fi_parts.specs.Buffer.{Bounded, empty}
use Rattle.fi_parts.specs.Waiting.{is_registered}
use Rattle.fi_channels.specs.Channel.{Closes}
use Rattle.fi_channels.specs.ChannelWords.{ChannelMachine, with_buffer, send_phase}

module _ {T W : Type 0} where
  -- It is as after a close, and then its buffer is taken out with its items and its memory. An empty one of the same capacity is left.
  abbrev pub ClosesAndClears : {B : Type 0} → (B → Bounded T) → ChannelMachine T W → B → ChannelMachine T W → Type 0
  ClosesAndClears bounded old taken new =
      (closed : ChannelMachine T W) × (status : CloseStatus) × Closes old status closed × (bounded taken ≡ closed.own.buffer)
      × (new ≡ record closed { own = with_buffer closed.own (empty closed.own.buffer.capacity 0) })

  -- No send is registered.
  abbrev pub NoSendWaits : ChannelMachine T W → Type 0
  NoSendWaits state = (name : ℕ) → is_registered (send_phase state name) ≡ false
