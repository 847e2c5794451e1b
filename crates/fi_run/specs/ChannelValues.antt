-- What a history of a channel says of its values. A history is a list of calls with their answers, the newest first, since some
-- first state.
use Rattle.std.specs.Prelude.{◌≡◌, ◌⊎◌, ℕ, ◌+◌, ◌==◌, eqb, cond, not, if◌then◌else◌, Bool, true, false}
use Rattle.std.specs.Prelude.{Option, Some, None, List, [], ◌∷◌, ◌++◌, length, map, take, filter}
use Rattle.std.specs.List.{list_any}
use Rattle.std.specs.Option.{option_flatten}
use Rattle.fi_parts.specs.declared.phase.Phase.TheVariants.{Complete}
use Rattle.fi_parts.specs.Waiting.{Waiters, phase_of, asks_of}
use Rattle.fi_channels.specs.ChannelWords.{ChannelMachine, value_of}
use Rattle.fi_run.specs.declared.answer.Answer.{Answer}
use Rattle.fi_run.specs.declared.answer.Answer.TheVariants.{Made, Pending, Item, Nothing, Done, Newly, Refused}
use Rattle.fi_run.specs.declared.channel.ChannelCall.{ChannelCall}
use Rattle.fi_run.specs.declared.channel.ChannelCall.TheVariants.{Send, PollSend, PollReceive, PollNext, CancelSend, TrySend}
use Rattle.fi_run.specs.declared.channel.ChannelCall.TheVariants.{TryReceive, Close}

-- A value that a channel has accepted, and the send that may still take it back.
pub record Accepted (T : Type 0) : Type 0 where
  pub sender : Option ℕ
  pub value : T

abbrev pub is_sender : ℕ → Option ℕ → Bool
is_sender name None = false
is_sender name (Some sender) = eqb name sender

module _ {T : Type 0} where
  abbrev pub values_in : List (Accepted T) → List T
  values_in accepted = map (λ (a : Accepted T). a.value) accepted

  abbrev pub from_nobody : List T → List (Accepted T)
  from_nobody values = map (λ (v : T). record { sender = None; value = v }) values

  -- this value, if there is one, of that sender
  abbrev pub one_from : Option ℕ → Option T → List (Accepted T)
  one_from sender None = []
  one_from sender (Some value) = (record { sender = sender; value = value }) ∷ []

  -- this send may take one of them back
  abbrev pub waits_with : ℕ → List (Accepted T) → Bool
  waits_with name accepted = list_any (λ (a : Accepted T). is_sender name a.sender) accepted

  -- without what this send took back
  abbrev pub withdrawn_by : ℕ → List (Accepted T) → List (Accepted T)
  withdrawn_by name accepted = filter (λ (a : Accepted T). not (is_sender name a.sender)) accepted

  abbrev pub released : ℕ → Accepted T → Accepted T
  released name a = record a { sender = cond (is_sender name a.sender) None a.sender }

  -- this send takes nothing back any more
  abbrev pub released_by : ℕ → List (Accepted T) → List (Accepted T)
  released_by name accepted = map (released name) accepted

  -- what comes with the first poll of a send that was accepted
  abbrev pub accepts_once : ℕ → Option ℕ → Option T → List (Accepted T) → List (Accepted T)
  accepts_once name sender offered before = if waits_with name before then before else before ++ one_from sender offered

module _ {T W : Type 0} where
  abbrev pub offered_step : ℕ → ChannelCall T W → Answer T W → Option T → Option T
  offered_step name call (Refused fault) offered = offered
  offered_step name (Send value) (Made slot) offered = if slot.0 == name then Some value else offered
  offered_step name call answer offered = offered

  -- the value that the last send of this name was made with; if none was made since, the one that it owned at first
  abbrev pub offered : ChannelMachine T W → ℕ → List (ChannelCall T W × Answer T W) → Option T
  offered first name [] = value_of first name
  offered first name (entry ∷ history) = offered_step name entry.0 entry.1 (offered first name history)

  abbrev pub received_step : ChannelCall T W → Answer T W → List T → List T
  received_step call (Refused fault) before = before
  received_step (PollReceive slot waker) (Item value) before = before ++ value ∷ []
  received_step (PollNext slot waker) (Item value) before = before ++ value ∷ []
  received_step TryReceive (Item value) before = before ++ value ∷ []
  received_step call answer before = before

  -- the values that were received, in their order
  abbrev pub received : List (ChannelCall T W × Answer T W) → List T
  received [] = []
  received (entry ∷ history) = received_step entry.0 entry.1 (received history)

  -- the values of the sends that wait, in the order of this queue
  abbrev pub waiting_in : Waiters (Option T) W → List ℕ → List (Accepted T)
  waiting_in sends [] = []
  waiting_in sends (name ∷ names) = one_from (Some name) (option_flatten (asks_of sends name)) ++ waiting_in sends names

  -- the values that a channel holds: those in its buffer, and those of the sends that wait
  abbrev pub held : ChannelMachine T W → List (Accepted T)
  held state = from_nobody state.own.buffer.items ++ waiting_in state.waiting.sends state.waiting.sends.queue

  -- A send is accepted by its first poll that is pending or done, and can take its value back until it is done. The first close
  -- withdraws what is neither received nor fits the buffer.
  abbrev pub accepted_step : ℕ → ChannelCall T W → Answer T W → (ℕ → Option T)
      → List T → List (Accepted T) → List (Accepted T)
  accepted_step capacity call (Refused fault) offers taken before = before
  accepted_step capacity (TrySend value) Done offers taken before = before ++ one_from None (Some value)
  accepted_step capacity (PollSend slot waker) Pending offers taken before =
      accepts_once slot.0 (Some slot.0) (offers slot.0) before
  accepted_step capacity (PollSend slot waker) Done offers taken before =
      released_by slot.0 (accepts_once slot.0 None (offers slot.0) before)
  accepted_step capacity (CancelSend slot) (Item value) offers taken before = withdrawn_by slot.0 before
  accepted_step capacity (CancelSend slot) Nothing offers taken before = released_by slot.0 before
  accepted_step capacity Close Newly offers taken before = take (length taken + capacity) before
  accepted_step capacity call answer offers taken before = before

  -- The values that were held at first and those accepted since, in their order, without the withdrawn.
  abbrev pub accepted : ChannelMachine T W → List (ChannelCall T W × Answer T W) → List (Accepted T)
  accepted first [] = held first
  accepted first (entry ∷ history) = accepted_step first.own.buffer.capacity entry.0 entry.1
      (λ name. offered first name history)
      (received history) (accepted first history)

  -- Values come out in the order in which they were accepted: those held at first and those accepted since, without the
  -- withdrawn, are those received and then those held now.
  abbrev pub ComeInOrder : ChannelMachine T W → List (ChannelCall T W × Answer T W) → ChannelMachine T W → Type 0
  ComeInOrder first history now = values_in (accepted first history) ≡ received history ++ values_in (held now)

  -- What an induction over a run keeps of these sends and buffered items, where these values are accepted, offered and received: the
  -- values received or buffered are settled, and behind them are those of the sends that wait. Who waits with a settled value is
  -- complete; a complete send that doesn't was so in the first state.
  pub record Follows (before : List (Accepted T)) (offers : ℕ → Option T) (taken items : List T)
      (sends : Waiters (Option T) W) : Type 0 where
    pub settled : List (Accepted T)
    pub accepted_is : before ≡ settled ++ waiting_in sends sends.queue
    pub values : values_in settled ≡ taken ++ items
    pub complete : (name : ℕ) → waits_with name settled ≡ true → phase_of sends name ≡ Some Complete
    pub done : (name : ℕ) → phase_of sends name ≡ Some Complete → (waits_with name settled ≡ true) ⊎
        (offers name ≡ option_flatten (asks_of sends name))
    pub offered : (name : ℕ) (value : T) → option_flatten (asks_of sends name) ≡ Some value → offers name ≡ Some value
