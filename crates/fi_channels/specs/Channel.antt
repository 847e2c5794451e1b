-- The machine of a channel of many values.
use Rattle.std.specs.Prelude.{◌≡◌, ℕ, Bool, true, false, Option, Some, None, is_some, Result, Ok, Err}
use Rattle.futures.specs.declared.task.Poll.{Poll}
use Rattle.futures.specs.declared.task.Poll.TheVariants.{Ready, Pending}
use Rattle.fi_parts.specs.declared.errors.CloseStatus.{CloseStatus}
use Rattle.fi_parts.specs.declared.errors.CloseStatus.TheVariants.{NewlyClosed, AlreadyClosed}
use Rattle.fi_parts.specs.declared.errors.Fault.TheVariants.{NoMemory}
use Rattle.fi_parts.specs.declared.phase.Notice.TheVariants.{Renew}
use Rattle.fi_parts.specs.declared.phase.Phase.{Phase}
use Rattle.fi_parts.specs.declared.phase.Phase.TheVariants.{Fresh, Registered, Told, Complete, Ended}
use Rattle.fi_parts.specs.Buffer.{Bounded, Fits}
use Rattle.fi_parts.specs.Effects.WaiterEffect.{Inserts, Registers, KeepsWaiting, Ends, Removes, NotifiesAll}
use Rattle.fi_parts.specs.Waiting.{is_registered}
use Rattle.fi_channels.specs.declared.channel.errors.SendFault.{SendFault}
use Rattle.fi_channels.specs.declared.channel.errors.SendFault.TheVariants as send_fault
use Rattle.fi_channels.specs.declared.channel.errors.TryReceiveError.{TryReceiveError}
use Rattle.fi_channels.specs.declared.channel.errors.TryReceiveError.TheVariants as not_received
use Rattle.fi_channels.specs.declared.channel.errors.TrySendError.{TrySendError}
use Rattle.fi_channels.specs.declared.channel.errors.TrySendError.TheVariants as not_sent
use Rattle.fi_channels.specs.declared.channel.fields.ReceiveKind.{ReceiveKind}
use Rattle.fi_channels.specs.ChannelWords.{Buffered, ChannelMachine, owns_value, is_given, AreTold, rules, has_room}
use Rattle.fi_channels.specs.ChannelWords.{with_buffer, closed, Stores, IsGrowing, send_phase, receive_phase, kind_of}
use Rattle.fi_channels.specs.ChannelWords.{value_of, next_of, value_count, tells_oldest, completes_oldest, finishes}
use Rattle.fi_channels.specs.TwoSidedEffects.TwoSidedEffect.{OnSends, OnReceives, PopsFirst, Then}
use Rattle.fi_channels.specs.TwoSidedMachine.{TwoSidedStep, HasSoundSides}

module _ {T W : Type 0} where
  -- A fresh send of this value, or a fresh receive, under a name that was not live.
  abbrev pub MakesSend : ChannelMachine T W → T → ℕ → ChannelMachine T W → Type 0
  MakesSend old value name new = TwoSidedStep old old.own (OnSends (Inserts name (Some value))) new

  abbrev pub MakesReceive : ChannelMachine T W → ReceiveKind → ℕ → ChannelMachine T W → Type 0
  MakesReceive old kind name new = TwoSidedStep old old.own (OnReceives (Inserts name kind)) new

  -- A poll of a fresh send of this value, to a channel that is open or not, whose buffer has room or not.
  abbrev pub FreshSends : (is_open room : Bool) → Option T → ChannelMachine T W → ℕ → W → Poll (Result (Unit {0}) (SendFault T)) →
      ChannelMachine T W → Type 0
  FreshSends is_open room None old name waker answer new = ⊥
  -- a closed channel hands the value back
  FreshSends false room (Some value) old name waker answer new =
      (answer ≡ Ready (Err (send_fault.Closed value))) × TwoSidedStep old old.own (OnSends (finishes name)) new
  -- a buffer with room stores it, and the oldest receive is told
  FreshSends true true (Some value) old name waker answer new = (answer ≡ Ready (Ok tt))
      × (own : Buffered T) × Stores old.own value own × TwoSidedStep old own (Then (OnSends (finishes name)) tells_oldest) new
  -- a full one lets the send wait with it, and the oldest receive is told
  FreshSends true false (Some value) old name waker answer new =
      (answer ≡ Pending) × TwoSidedStep old old.own (Then (OnSends (Registers name waker)) tells_oldest) new

  -- A poll of a send of this phase.
  abbrev pub SendsAs : Option (Phase W) → ChannelMachine T W → ℕ → W → Poll (Result (Unit {0}) (SendFault T)) →
      ChannelMachine T W → Type 0
  SendsAs (Some Fresh) old name waker answer new =
      FreshSends old.own.is_open (has_room old.own) (value_of old name) old name waker answer new
  -- a registered one stays pending with its newest waker
  SendsAs (Some (Registered before)) old name waker answer new =
      (answer ≡ Pending) × TwoSidedStep old old.own (OnSends (KeepsWaiting name waker)) new
  -- the value of a complete one was taken
  SendsAs (Some Complete) old name waker answer new = (answer ≡ Ready (Ok tt))
      × TwoSidedStep old old.own (OnSends (Ends name)) new
  -- no other is polled
  SendsAs phase old name waker answer new = ⊥

  -- A poll that was refused memory changes nothing: the send still owns its value. It was fresh, and needed memory.
  abbrev pub PollsSend : ChannelMachine T W → ℕ → W → Poll (Result (Unit {0}) (SendFault T)) → ChannelMachine T W → Type 0
  PollsSend old name waker (Ready (Err (send_fault.Fault fault))) new =
      (fault ≡ NoMemory) × (send_phase old name ≡ Some Fresh) × IsGrowing old.own × (new ≡ old)
  PollsSend old name waker answer new = SendsAs (send_phase old name) old name waker answer new

  -- The send leaves the channel, and gives the value that it still owns.
  abbrev pub CancelsSend : ChannelMachine T W → ℕ → Option T → ChannelMachine T W → Type 0
  CancelsSend old name answer new = (answer ≡ value_of old name) × TwoSidedStep old old.own (OnSends (Removes name)) new

  -- A poll of a fresh or told receive, where this can be received: it takes that; else it waits at an open channel, and ends
  -- at a closed one.
  abbrev pub TakesNext : Option (T × Bounded T) → Bool → ChannelMachine T W → ℕ → W → Poll (Option T) → ChannelMachine T W →
      Type 0
  TakesNext (Some next) is_open old name waker answer new = (answer ≡ Ready (Some next.0))
      × TwoSidedStep old (with_buffer old.own next.1)
      (Then (OnReceives (is_given (kind_of old name) name)) (completes_oldest old)) new
  TakesNext None true old name waker answer new = (answer ≡ Pending)
      × TwoSidedStep old old.own (OnReceives (Registers name waker)) new
  TakesNext None false old name waker answer new = (answer ≡ Ready None) × TwoSidedStep old old.own (OnReceives (Ends name)) new

  -- A poll of a receive of this phase.
  abbrev pub ReceivesAs : Option (Phase W) → ChannelMachine T W → ℕ → W → Poll (Option T) → ChannelMachine T W → Type 0
  ReceivesAs (Some Fresh) old name waker answer new = TakesNext (next_of old) old.own.is_open old name waker answer new
  ReceivesAs (Some Told) old name waker answer new = TakesNext (next_of old) old.own.is_open old name waker answer new
  -- a registered one stays pending with its newest waker
  ReceivesAs (Some (Registered before)) old name waker answer new =
      (answer ≡ Pending) × TwoSidedStep old old.own (OnReceives (KeepsWaiting name waker)) new
  -- no other is polled
  ReceivesAs phase old name waker answer new = ⊥

  abbrev pub PollsReceive : ChannelMachine T W → ℕ → W → Poll (Option T) → ChannelMachine T W → Type 0
  PollsReceive old name waker answer new = ReceivesAs (receive_phase old name) old name waker answer new

  -- A poll of a stream is like that of a receive; one that has ended ends again, ever after.
  abbrev pub StreamsAs : Option (Phase W) → ChannelMachine T W → ℕ → W → Poll (Option T) → ChannelMachine T W → Type 0
  StreamsAs (Some Ended) old name waker answer new = (answer ≡ Ready None) × TwoSidedStep old old.own (OnReceives (Ends name)) new
  StreamsAs phase old name waker answer new = ReceivesAs phase old name waker answer new

  abbrev pub PollsNext : ChannelMachine T W → ℕ → W → Poll (Option T) → ChannelMachine T W → Type 0
  PollsNext old name waker answer new = StreamsAs (receive_phase old name) old name waker answer new

  -- The receive leaves the channel; a told one tells the oldest that waits.
  abbrev pub CancelsReceiveAs : Option (Phase W) → ChannelMachine T W → ℕ → ChannelMachine T W → Type 0
  CancelsReceiveAs (Some Told) old name new = TwoSidedStep old old.own (Then (OnReceives (Removes name)) tells_oldest) new
  CancelsReceiveAs phase old name new = TwoSidedStep old old.own (OnReceives (Removes name)) new

  abbrev pub CancelsReceive : ChannelMachine T W → ℕ → ChannelMachine T W → Type 0
  CancelsReceive old name new = CancelsReceiveAs (receive_phase old name) old name new

  -- A send at once is accepted by an open channel whose buffer has room; the oldest receive is told. Else the value comes
  -- back and nothing has changed.
  abbrev pub TriesSend : ChannelMachine T W → T → Result (Unit {0}) (TrySendError T) → ChannelMachine T W → Type 0
  TriesSend old value (Ok done) new = (old.own.is_open ≡ true) × (has_room old.own ≡ true)
      × (own : Buffered T) × Stores old.own value own × TwoSidedStep old own tells_oldest new
  TriesSend old value (Err (not_sent.Closed back)) new = (back ≡ value) × (old.own.is_open ≡ false) × (new ≡ old)
  TriesSend old value (Err (not_sent.Full back)) new =
      (back ≡ value) × (old.own.is_open ≡ true) × (has_room old.own ≡ false) × (new ≡ old)
  TriesSend old value (Err (not_sent.NoMemory back)) new = (back.0 ≡ value) × IsGrowing old.own × (new ≡ old)

  -- A receive at once, where this can be received; else it is refused and nothing has changed.
  abbrev pub TriesNext : Option (T × Bounded T) → Bool → ChannelMachine T W → Result T TryReceiveError → ChannelMachine T W →
      Type 0
  TriesNext (Some next) is_open old answer new =
      (answer ≡ Ok next.0) × TwoSidedStep old (with_buffer old.own next.1) (completes_oldest old) new
  TriesNext None true old answer new = (answer ≡ Err not_received.Empty) × (new ≡ old)
  TriesNext None false old answer new = (answer ≡ Err not_received.Closed) × (new ≡ old)

  abbrev pub TriesReceive : ChannelMachine T W → Result T TryReceiveError → ChannelMachine T W → Type 0
  TriesReceive old answer new = TriesNext (next_of old) old.own.is_open old answer new

  -- The first close names all receives that wait, then all sends, each in order, and makes them fresh; the sends keep their
  -- values. Later ones change nothing.
  abbrev pub ClosesAt : Bool → ChannelMachine T W → CloseStatus → ChannelMachine T W → Type 0
  ClosesAt true old status new = (status ≡ NewlyClosed)
      × TwoSidedStep old (closed old.own) (Then (OnReceives (NotifiesAll Renew)) (OnSends (NotifiesAll Renew))) new
  ClosesAt false old status new = (status ≡ AlreadyClosed) × (new ≡ old)

  abbrev pub Closes : ChannelMachine T W → CloseStatus → ChannelMachine T W → Type 0
  Closes old status new = ClosesAt old.own.is_open old status new

  -- The front pair is taken out, and its waker answered.
  abbrev pub Wakes : ChannelMachine T W → Option W → ChannelMachine T W → Type 0
  Wakes old answer new = TwoSidedStep old old.own (PopsFirst answer) new

  -- The queues and out are in order and only their phases occur; exactly the fresh and registered sends own a value; what is
  -- buffered fits.
  pub record IsSound (state : ChannelMachine T W) : Type 0 where
    pub waiters : HasSoundSides rules state
    pub owned : (name : ℕ) → is_some (value_of state name) ≡ owns_value (send_phase state name)
    pub buffer : Fits state.own.buffer

  -- No wake is owed: if a receive is registered, at least as many are told as there are values; a send is registered only
  -- while the channel is open and its buffer full, so that with its own there are more values than the capacity.
  pub record OwesNoWake (state : ChannelMachine T W) : Type 0 where
    pub receives : (name : ℕ) → is_registered (receive_phase state name) ≡ true →
        AreTold state.waiting.receives (value_count state)
    pub sends : (name : ℕ) → is_registered (send_phase state name) ≡ true →
        (state.own.is_open ≡ true) × (has_room state.own ≡ false)
