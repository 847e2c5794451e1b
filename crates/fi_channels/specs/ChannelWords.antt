-- The words of a channel's machine: what it keeps, what may be polled, what is stored, what comes next.
use Rattle.std.specs.Prelude.{◌≡◌, ◌<◌, ◌≤◌, ◌+◌, nat_lt, ℕ, Bool, true, false, refl, Option, Some, None, is_some}
use Rattle.std.specs.Prelude.{Result, Err, List, [], ◌∷◌, length}
use Rattle.std.specs.Option.{option_flatten}
use Rattle.futures.specs.declared.task.Poll.{Poll}
use Rattle.futures.specs.declared.task.Poll.TheVariants.{Ready, Pending}
use Rattle.fi_parts.specs.declared.phase.Notice.TheVariants.{Tell}
use Rattle.fi_parts.specs.declared.phase.Phase.{Phase}
use Rattle.fi_parts.specs.declared.phase.Phase.TheVariants.{Fresh, Registered, Told, Complete}
use Rattle.fi_parts.specs.Buffer.{Bounded, Fits, pushed, popped}
use Rattle.fi_parts.specs.Effects.{WaiterEffect, completes_first}
use Rattle.fi_parts.specs.Effects.WaiterEffect.{Ends, Renews, Asks, NotifiesOldest, AndThen}
use Rattle.fi_parts.specs.Machine.{AllowsBasics}
use Rattle.fi_parts.specs.NamedPairs.{waker_by}
use Rattle.fi_parts.specs.Oldest.{asks_of_oldest}
use Rattle.fi_parts.specs.Order.{holds, Apart}
use Rattle.fi_parts.specs.Waiting.{Waiters, phase_of, asks_of, displaced_from}
use Rattle.fi_channels.specs.declared.channel.errors.SendFault.{SendFault}
use Rattle.fi_channels.specs.declared.channel.errors.SendFault.TheVariants as send_fault
use Rattle.fi_channels.specs.declared.channel.fields.ReceiveKind.{ReceiveKind}
use Rattle.fi_channels.specs.declared.channel.fields.ReceiveKind.TheVariants.{Single, Stream}
use Rattle.fi_channels.specs.declared.channel.two_sides.Waiter.TheVariants.{Send, Receive}
use Rattle.fi_channels.specs.TwoSidedEffects.{TwoSidedEffect}
use Rattle.fi_channels.specs.TwoSidedEffects.TwoSidedEffect.{OnSends, OnReceives}
use Rattle.fi_channels.specs.TwoSidedMachine.{TwoSidedMachine, TwoSidedRules, initial_two_sided}
use Rattle.fi_channels.specs.Waiter.{same_waiter}

-- Open or closed, and the buffer.
pub record Buffered (T : Type 0) : Type 0 where
  pub is_open : Bool
  pub buffer : Bounded T

-- A send has the value that it still owns; a receive is a single one or a stream.
abbrev pub ChannelMachine : Type 0 → Type 0 → Type 0
ChannelMachine T W = TwoSidedMachine (Buffered T) (Option T) ReceiveKind W

module _ {W : Type 0} where
  -- a send may be polled: it is live and has not ended
  abbrev pub can_send : Option (Phase W) → Bool
  can_send (Some Fresh) = true
  can_send (Some (Registered waker)) = true
  can_send (Some Complete) = true
  can_send phase = false

  -- the same of a receive
  abbrev pub can_take : Option (Phase W) → Bool
  can_take (Some Fresh) = true
  can_take (Some (Registered waker)) = true
  can_take (Some Told) = true
  can_take phase = false

  -- a single receive may be polled until it has ended, a stream always
  abbrev pub can_receive : Option ReceiveKind → Option (Phase W) → Bool
  can_receive (Some Single) phase = can_take phase
  can_receive kind phase = false

  abbrev pub can_stream : Option ReceiveKind → Option (Phase W) → Bool
  can_stream (Some Stream) phase = is_some phase
  can_stream kind phase = false

  -- the phases of a send, and of a receive
  abbrev pub is_send_phase : Option (Phase W) → Bool
  is_send_phase (Some Told) = false
  is_send_phase phase = true

  abbrev pub is_receive_phase : Option (Phase W) → Bool
  is_receive_phase (Some Complete) = false
  is_receive_phase phase = true

  -- the phases in which a send owns its value
  abbrev pub owns_value : Option (Phase W) → Bool
  owns_value (Some Fresh) = true
  owns_value (Some (Registered waker)) = true
  owns_value phase = false

  -- a receive that was given an item ends, or is fresh again if it is a stream
  abbrev pub is_given : Option ReceiveKind → ℕ → WaiterEffect ReceiveKind W
  is_given (Some Stream) name = Renews name
  is_given kind name = Ends name

  -- So many receives are told.
  pub record AreTold (receives : Waiters ReceiveKind W) (count : ℕ) : Type 0 where
    pub names : List ℕ
    pub apart : Apart names
    pub told : (name : ℕ) → holds name names ≡ true → phase_of receives name ≡ Some Told
    pub many : count ≤ length names

  pub knows_sends : AllowsBasics (is_send_phase)
  knows_sends = record { gone = refl; fresh = refl; registered = λ waker. refl; ended = refl }

  pub knows_receives : AllowsBasics (is_receive_phase)
  knows_receives = record { gone = refl; fresh = refl; registered = λ waker. refl; ended = refl }

  abbrev pub rules : TwoSidedRules W
  rules = record {
    sending = is_send_phase;
    known_send = knows_sends;
    receiving = is_receive_phase;
    known_receive = knows_receives;
  }

module _ {T : Type 0} where
  -- a poll of a send is its last: a refused one has not ended
  abbrev pub has_sent : Poll (Result (Unit {0}) (SendFault T)) → Bool
  has_sent Pending = false
  has_sent (Ready (Err (send_fault.Fault fault))) = false
  has_sent (Ready answer) = true

  -- a stream has ended
  abbrev pub is_end : Poll (Option T) → Bool
  is_end (Ready None) = true
  is_end answer = false

  -- the buffer holds less than its capacity
  abbrev pub has_room : Buffered T → Bool
  has_room own = nat_lt (length own.buffer.items) own.buffer.capacity

  -- with that buffer, and closed
  abbrev pub with_buffer : Buffered T → Bounded T → Buffered T
  with_buffer own buffer = record own { buffer = buffer }

  abbrev pub closed : Buffered T → Buffered T
  closed own = record own { is_open = false }

  -- The value is in the buffer, behind the others. More may be reserved, if what was reserved is full.
  abbrev pub Stores : Buffered T → T → Buffered T → Type 0
  Stores own value after = (reserved : ℕ) × (own.buffer.reserved ≤ reserved) × Fits (pushed own.buffer value reserved)
      × (length own.buffer.items < own.buffer.reserved → reserved ≡ own.buffer.reserved)
      × (after ≡ record own { buffer = pushed own.buffer value reserved })

  -- A send that stores its value needs memory: what is reserved is full, and is less than the capacity.
  abbrev pub IsGrowing : Buffered T → Type 0
  IsGrowing own = (own.is_open ≡ true) × (length own.buffer.items ≡ own.buffer.reserved)
      × (own.buffer.reserved < own.buffer.capacity)

  -- the buffer with these items left, and behind them the value of the send that waits, if one does
  abbrev pub refilled : Bounded T → List T → Option T → Bounded T
  refilled buffer left None = popped buffer left
  refilled buffer left (Some value) = pushed (popped buffer left) value buffer.reserved

  -- The value that is received next, and the buffer without it: the oldest of these items, whose place the value of the
  -- oldest waiting send gets; without items that value itself; None if there is neither.
  abbrev pub next_value : Bounded T → List T → Option T → Option (T × Bounded T)
  next_value buffer (value ∷ left) waiting = Some (value, refilled buffer left waiting)
  next_value buffer [] (Some value) = Some (value, buffer)
  next_value buffer [] None = None

module _ {T W : Type 0} where
  abbrev pub send_phase : ChannelMachine T W → ℕ → Option (Phase W)
  send_phase state name = phase_of state.waiting.sends name

  abbrev pub receive_phase : ChannelMachine T W → ℕ → Option (Phase W)
  receive_phase state name = phase_of state.waiting.receives name

  abbrev pub kind_of : ChannelMachine T W → ℕ → Option ReceiveKind
  kind_of state name = asks_of state.waiting.receives name

  -- the value that this send still owns
  abbrev pub value_of : ChannelMachine T W → ℕ → Option T
  value_of state name = option_flatten (asks_of state.waiting.sends name)

  -- The waker that this send has, or this receive: the registered one, or that of its pair.
  abbrev pub displaced_send : ChannelMachine T W → ℕ → Option W
  displaced_send state name = displaced_from (send_phase state name) (waker_by same_waiter (Send name) state.waiting.out)

  abbrev pub displaced_receive : ChannelMachine T W → ℕ → Option W
  displaced_receive state name = displaced_from (receive_phase state name) (waker_by same_waiter (Receive name) state.waiting.out)

  -- the waker that a send had, which a refused poll leaves to it
  abbrev pub displaced_by_send : Poll (Result (Unit {0}) (SendFault T)) → Option W → Option W
  displaced_by_send (Ready (Err (send_fault.Fault fault))) before = None
  displaced_by_send answer before = before

  -- open, with this buffer, and nobody waits
  abbrev pub opened : Bounded T → ChannelMachine T W
  opened buffer = initial_two_sided (record { is_open = true; buffer = buffer })

  -- what can be received at once
  abbrev pub next_of : ChannelMachine T W → Option (T × Bounded T)
  next_of state = next_value state.own.buffer state.own.buffer.items (option_flatten (asks_of_oldest state.waiting.sends))

  -- how many values there are: those buffered, and one of each waiting send
  abbrev pub value_count : ChannelMachine T W → ℕ
  value_count state = length state.own.buffer.items + length state.waiting.sends.queue

  -- the oldest receive is told, if one waits
  abbrev pub tells_oldest : TwoSidedEffect (Option T) ReceiveKind W
  tells_oldest = OnReceives (NotifiesOldest Tell)

  -- the oldest send is complete, without its value, if one waits
  abbrev pub completes_oldest : ChannelMachine T W → TwoSidedEffect (Option T) ReceiveKind W
  completes_oldest old = OnSends (completes_first None old.waiting.sends.queue)

  -- the send ends, and its value has left it
  abbrev pub finishes : ℕ → WaiterEffect (Option T) W
  finishes name = AndThen (Ends name) (Asks name None)
