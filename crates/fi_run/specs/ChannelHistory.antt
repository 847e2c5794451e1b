-- What a history of a channel says of its closings, its streams and its wakers. A history is a list of calls with their answers,
-- the newest first, since some first state.
use Rattle.std.specs.Prelude.{◌≡◌, ⊤, ℕ, ◌+◌, ◌==◌, if◌then◌else◌, Option, Some, List, [], ◌∷◌}
use Rattle.fi_parts.specs.declared.phase.Phase.{Phase}
use Rattle.fi_parts.specs.declared.phase.Phase.TheVariants.{Fresh, Ended}
use Rattle.fi_parts.specs.WakerHistory.{WakerChange, KeepsWakers}
use Rattle.fi_parts.specs.WakerHistory.WakerChange.{NoEffect}
use Rattle.fi_channels.specs.declared.channel.fields.ReceiveKind.{ReceiveKind}
use Rattle.fi_channels.specs.declared.channel.fields.ReceiveKind.TheVariants as kinds
use Rattle.fi_channels.specs.ChannelWords.{ChannelMachine, receive_phase, kind_of}
use Rattle.fi_channels.specs.TwoSidedEffects.{waiting_sends, waiting_receives}
use Rattle.fi_run.specs.declared.answer.Answer.{Answer}
use Rattle.fi_run.specs.declared.answer.Answer.TheVariants.{Made, Item, End, Newly, Refused}
use Rattle.fi_run.specs.declared.channel.ChannelCall.{ChannelCall}
use Rattle.fi_run.specs.declared.channel.ChannelCall.TheVariants.{Send, Receive, Stream, PollSend, PollReceive, PollNext}
use Rattle.fi_run.specs.declared.channel.ChannelCall.TheVariants.{CancelSend, CancelReceive, Close, NextWake}
use Rattle.fi_run.specs.ChannelValues.{accepted, offered, received, Follows, ComeInOrder}
use Rattle.fi_run.specs.StateHistory.{OpenFits}
use Rattle.fi_run.specs.WakerChanges.{on_wakers}
use Rattle.fi_run.specs.WakerChanges.Subject.{Polling, Cancelling, Other}

-- What the last poll of a live stream gave: an item, the end, or neither.
pub data LastNext : Type 0 where
  GaveItem : LastNext
  GaveEnd : LastNext
  GaveNone : LastNext

module _ {W : Type 0} where
  -- a stream that had ended at first
  abbrev pub next_at_first : Option ReceiveKind → Option (Phase W) → LastNext
  next_at_first (Some kinds.Stream) (Some Ended) = GaveEnd
  next_at_first kind phase = GaveNone

  -- A stream that gave an item is fresh again, and one that gave the end has ended.
  abbrev pub StandsAfter : LastNext → Option ReceiveKind → Option (Phase W) → Type 0
  StandsAfter GaveItem kind phase = (kind ≡ Some kinds.Stream) × (phase ≡ Some Fresh)
  StandsAfter GaveEnd kind phase = (kind ≡ Some kinds.Stream) × (phase ≡ Some Ended)
  StandsAfter GaveNone kind phase = ⊤

module _ {T W : Type 0} where
  abbrev pub closes_step : ChannelCall T W → Answer T W → ℕ → ℕ
  closes_step call (Refused fault) n = n
  closes_step Close Newly n = n + 1
  closes_step call answer n = n

  -- how many closes were answered Newly
  abbrev pub new_closes : List (ChannelCall T W × Answer T W) → ℕ
  new_closes [] = 0
  new_closes (entry ∷ history) = closes_step entry.0 entry.1 (new_closes history)

  -- At most one close was new, and what is closed stays closed.
  abbrev pub ClosesOnce : ChannelMachine T W → List (ChannelCall T W × Answer T W) → ChannelMachine T W → Type 0
  ClosesOnce first history now = OpenFits first.own.is_open now.own.is_open (new_closes history)

  abbrev pub next_step : ℕ → ChannelCall T W → Answer T W → LastNext → LastNext
  next_step name call (Refused fault) last = last
  next_step name (PollNext slot waker) (Item value) last = if slot.0 == name then GaveItem else last
  next_step name (PollNext slot waker) End last = if slot.0 == name then GaveEnd else last
  next_step name (PollNext slot waker) answer last = if slot.0 == name then GaveNone else last
  next_step name (CancelReceive slot) answer last = if slot.0 == name then GaveNone else last
  next_step name Receive (Made slot) last = if slot.0 == name then GaveNone else last
  next_step name Stream (Made slot) last = if slot.0 == name then GaveNone else last
  next_step name call answer last = last

  -- what the last poll of the stream of this name gave
  abbrev pub last_next : ChannelMachine T W → ℕ → List (ChannelCall T W × Answer T W) → LastNext
  last_next first name [] = next_at_first (kind_of first name) (receive_phase first name)
  last_next first name (entry ∷ history) = next_step name entry.0 entry.1 (last_next first name history)

  -- a poll of a stream that gave its end gives it again
  abbrev pub EndsAgain : LastNext → Answer T W → Type 0
  EndsAgain GaveEnd answer = answer ≡ End
  EndsAgain last answer = ⊤

  abbrev pub EndsAgainAt : (ℕ → LastNext) → ChannelCall T W → Answer T W → Type 0
  EndsAgainAt last (PollNext slot waker) answer = EndsAgain (last slot.0) answer
  EndsAgainAt last call answer = ⊤

  -- A stream that answered End answers End at every later poll, until it is cancelled.
  abbrev pub StreamsStayEnded : ChannelMachine T W → List (ChannelCall T W × Answer T W) → Type 0
  StreamsStayEnded first [] = ⊤
  StreamsStayEnded first (entry ∷ history) =
      EndsAgainAt (λ name. last_next first name history) entry.0 entry.1 × StreamsStayEnded first history

  -- A stream that gave an item is fresh until its next poll, and one that gave its end has ended.
  abbrev pub StreamsStand : ChannelMachine T W → List (ChannelCall T W × Answer T W) → ChannelMachine T W → Type 0
  StreamsStand first history now = (name : ℕ) → StandsAfter (last_next first name history) (kind_of now name)
      (receive_phase now name)

  -- what a call with its answer is to the wakers of the sends, and of the receives
  abbrev pub on_send_wakers : ChannelCall T W → Answer T W → WakerChange W
  on_send_wakers call (Refused fault) = NoEffect
  on_send_wakers (Send value) answer = on_wakers Other answer
  on_send_wakers (PollSend slot waker) answer = on_wakers (Polling slot.0 waker) answer
  on_send_wakers (CancelSend slot) answer = on_wakers (Cancelling slot.0) answer
  on_send_wakers NextWake answer = on_wakers Other answer
  on_send_wakers call answer = NoEffect

  abbrev pub on_receive_wakers : ChannelCall T W → Answer T W → WakerChange W
  on_receive_wakers call (Refused fault) = NoEffect
  on_receive_wakers Receive answer = on_wakers Other answer
  on_receive_wakers Stream answer = on_wakers Other answer
  on_receive_wakers (PollReceive slot waker) answer = on_wakers (Polling slot.0 waker) answer
  on_receive_wakers (PollNext slot waker) answer = on_wakers (Polling slot.0 waker) answer
  on_receive_wakers (CancelReceive slot) answer = on_wakers (Cancelling slot.0) answer
  on_receive_wakers NextWake answer = on_wakers Other answer
  on_receive_wakers call answer = NoEffect

  -- The waker of the last poll of a pending send, or receive, is registered, or stands in out beside its name, or was handed out
  -- since.
  abbrev pub SendWakersAreKept : ChannelMachine T W → List (ChannelCall T W × Answer T W) → ChannelMachine T W → Type 0
  SendWakersAreKept first history now =
      KeepsWakers (λ entry. on_send_wakers entry.0 entry.1) (waiting_sends first.waiting) history (waiting_sends now.waiting)

  abbrev pub ReceiveWakersAreKept : ChannelMachine T W → List (ChannelCall T W × Answer T W) → ChannelMachine T W → Type 0
  ReceiveWakersAreKept first history now =
      KeepsWakers (λ entry. on_receive_wakers entry.0 entry.1) (waiting_receives first.waiting) history
      (waiting_receives now.waiting)

  -- What holds of a first state, the history since, and the state now.
  pub record HistoryHolds (first : ChannelMachine T W) (history : List (ChannelCall T W × Answer T W))
      (now : ChannelMachine T W) :
      Type 0 where
    pub capacity : now.own.buffer.capacity ≡ first.own.buffer.capacity
    pub follows :
        Follows (accepted first history) (λ name. offered first name history)
        (received history) now.own.buffer.items now.waiting.sends
    pub order : ComeInOrder first history now
    pub closes : ClosesOnce first history now
    pub ended : StreamsStayEnded first history
    pub streams : StreamsStand first history now
    pub sends : SendWakersAreKept first history now
    pub receives : ReceiveWakersAreKept first history now
