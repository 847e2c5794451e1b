-- The fields of a channel, and what it takes from them.
use Rattle.std.specs.Prelude.{◌≡◌, ℕ, Bool, Option, Some, None, ◌++◌}
use Rattle.std.specs.Option.{option_flatten}
use Rattle.futures.specs.declared.task.Poll.{Poll}
use Rattle.fi_parts.specs.Buffer.{Bounded}
use Rattle.fi_parts.specs.Oldest.{asks_of_oldest, complete_oldest, pair_of_oldest}
use Rattle.fi_parts.specs.declared.phase.Phase.{Phase}
use Rattle.fi_parts.specs.declared.phase.Phase.TheVariants.{Fresh, Ended}
use Rattle.fi_channels.specs.declared.channel.fields.ChannelFields.{ChannelFields}
use Rattle.fi_channels.specs.declared.channel.fields.ReceiveKind.{ReceiveKind}
use Rattle.fi_channels.specs.declared.channel.fields.ReceiveKind.TheVariants.{Single, Stream}
use Rattle.fi_channels.specs.Channel.{PollsReceive, PollsNext}
use Rattle.fi_channels.specs.ChannelWords.{ChannelMachine, next_value, can_receive, can_stream}
use Rattle.fi_channels.specs.TwoSidesModel.{TwoSidesModel}
use Rattle.fi_channels.specs.Waiter.{of_sends}

-- The sends and receives of a channel.
abbrev pub ChannelWaiters : Type 0 → Type 0 → Type 0
ChannelWaiters T W = TwoSidesModel (Option T) ReceiveKind W

-- how a receive that was given an item stands
abbrev pub phase_given : {W : Type 0} → Option ReceiveKind → Phase W
phase_given (Some Stream) = Fresh
phase_given kind = Ended

-- a receive of this kind may be polled
abbrev pub can_poll_as : {W : Type 0} → ReceiveKind → Option ReceiveKind → Option (Phase W) → Bool
can_poll_as Single asks phase = can_receive asks phase
can_poll_as Stream asks phase = can_stream asks phase

-- A poll of a receive of this kind.
abbrev pub PollsAs : {T W : Type 0} → ReceiveKind → ChannelMachine T W → ℕ → W → Poll (Option T) → ChannelMachine T W → Type 0
PollsAs Single old name waker answer new = PollsReceive old name waker answer new
PollsAs Stream old name waker answer new = PollsNext old name waker answer new

module _ {T W : Type 0} where
  -- the machine of a buffer, the sends and receives, and the flag
  abbrev pub machine : Bounded T → ChannelWaiters T W → Bool → ChannelMachine T W
  machine buffer waiters is_open = record { own = record { is_open = is_open; buffer = buffer }; waiting = waiters }

  -- the machine of these fields, whose buffer is seen in this way
  abbrev pub machine_of : {B : Type 0} → (B → Bounded T) → ChannelFields T B W → ChannelMachine T W
  machine_of bounded fields = machine (bounded fields.buffer) fields.waiters fields.is_open

  -- the oldest send is complete and named, and owns no value, if one waits
  abbrev pub completed : ChannelWaiters T W → ChannelWaiters T W
  completed waiters = record waiters {
    sends = complete_oldest None waiters.sends;
    out = waiters.out ++ of_sends (pair_of_oldest waiters.sends);
  }

  abbrev pub TakesAt : Option (T × Bounded T) → Bounded T → ChannelWaiters T W → Option T → Bounded T → ChannelWaiters T W → Type 0
  TakesAt None buffer waiters answer left others = (answer ≡ None) × (left ≡ buffer) × (others ≡ waiters)
  TakesAt (Some next) buffer waiters answer left others = (answer ≡ Some next.0) × (left ≡ next.1) × (others ≡ completed waiters)

  -- The next value was taken, if there is one; the oldest send that waits handed its value on.
  abbrev pub Takes : Bounded T → ChannelWaiters T W → Option T → Bounded T → ChannelWaiters T W → Type 0
  Takes buffer waiters answer left others =
      TakesAt (next_value buffer buffer.items (option_flatten (asks_of_oldest waiters.sends))) buffer waiters answer left others
