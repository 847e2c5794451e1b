-- A poll or a cancel neither opens nor closes a channel, and puts nothing into a cleared one.
use Rattle.std.specs.Prelude.{◌≡◌, ℕ, suc, Bool, true, false, not, Option, Some, None, IfSome, IfNone, Result, Ok, Err, List, [], ◌∷◌, length, refl}
use Rattle.std.proofs.Common.{sym, ap, subst, ◌∙◌, arith}
use Rattle.std.proofs.lemmas.Bool.{both_ways}
use Rattle.futures.specs.declared.task.Poll.{Poll}
use Rattle.futures.specs.declared.task.Poll.TheVariants.{Ready, Pending}
use Rattle.fi_parts.specs.Buffer.{Bounded}
use Rattle.fi_parts.specs.Machine.{phase_at}
use Rattle.fi_parts.specs.declared.errors.Fault.{Fault}
use Rattle.fi_parts.specs.declared.errors.Fault.TheVariants.{NoSlot}
use Rattle.fi_parts.specs.declared.phase.Phase.{Phase}
use Rattle.fi_parts.specs.declared.phase.Phase.TheVariants.{Fresh, Registered, Told, Complete, Ended}
use Rattle.fi_parts.proofs.PairsWithin.{none_some, some_same}
use Rattle.fi_channels.specs.Channel as channel
use Rattle.fi_channels.specs.Channel.{FreshSends, SendsAs, PollsSend, TakesNext, ReceivesAs, StreamsAs, PollsReceive}
use Rattle.fi_channels.specs.Channel.{PollsNext, CancelsReceiveAs, CancelsReceive}
use Rattle.fi_channels.specs.ChannelWords.{ChannelMachine, Buffered, Stores, next_value, next_of, with_buffer, send_phase}
use Rattle.fi_channels.specs.ChannelWords.{receive_phase, has_room, value_of, can_stream, kind_of}
use Rattle.fi_channels.specs.Polled.{Answered}
use Rattle.fi_channels.specs.declared.channel.errors.SendFault.{SendFault}
use Rattle.fi_channels.specs.declared.channel.errors.SendFault.TheVariants as send_fault
use Rattle.fi_channels.specs.declared.oneshot.content.Content.{Content}
use Rattle.fi_channels.specs.declared.oneshot.content.Content.TheVariants.{Empty, Full, Spent}
use Rattle.fi_channels.specs.Oneshot as oneshot
use Rattle.fi_channels.specs.Oneshot.{OneshotMachine, Giving, left_by, has_closed}
use Rattle.fi_channels.specs.StateBroadcast as broadcast
use Rattle.fi_channels.specs.StateBroadcast.{StateMachine, Newest, newer_at}
use Rattle.fi_sync.specs.Streams.{Streamed, PollsStream}
use Rattle.fi_sync.specs.Waiting.{PollsWhere}
use Rattle.futures_intrusive.specs.Ends.{Closing, StaysClosed}
use Rattle.futures_intrusive.specs.Kinds.{closing_channel, closing_one_value, closing_state_broadcast}

-- What changes nothing neither opens nor closes a channel, and so does a poll or a cancel where no future lives.
module _ {S : Type 0} (closing : Closing S) (old new : S) where
  pub same : new ≡ old → StaysClosed closing old new
  same is = record {
    closed = ap closing.is_closed is;
    cleared = λ shut was. subst closing.IsCleared (sym is) was;
  }

  pub answers : {A : Type 0} (polls : Poll A → S → Type 0) (refused : Fault → S → Type 0) (answer : Poll (Result A Fault))
      → ((answer : Poll A) → polls answer new → StaysClosed closing old new)
      → ((fault : Fault) → refused fault new → StaysClosed closing old new)
      → Answered polls refused answer new → StaysClosed closing old new
  answers polls refused (Ready (Ok x)) stays lacks did = stays (Ready x) did
  answers polls refused (Ready (Err fault)) stays lacks did = lacks fault did
  answers polls refused Pending stays lacks did = stays Pending did

module _ {T W : Type 0} (old new : ChannelMachine T W) where
  own_same : new.own ≡ old.own → StaysClosed closing_channel old new
  own_same is = record {
    closed = ap (λ (own : Buffered T). not own.is_open) is;
    cleared = λ shut was. ap (λ (own : Buffered T). own.buffer.items) is ∙ was;
  }

  was_open : (value : T) (own : Buffered T) → old.own.is_open ≡ true → Stores old.own value own → new.own ≡ own
      → StaysClosed closing_channel old new
  was_open value own is stores stored = record {
    closed = ap (λ (own : Buffered T). not own.is_open) (stored ∙ stores.4);
    cleared = λ shut was. absurd (both_ways (not old.own.is_open) (ap not is) shut);
  }

  fresh_sends : (is_open room : Bool) (value : Option T) (name : ℕ) (waker : W) (answer : Poll (Result (Unit {0}) (SendFault T)))
      → old.own.is_open ≡ is_open → FreshSends is_open room value old name waker answer new → StaysClosed closing_channel old new
  fresh_sends is_open room None name waker answer is did = absurd did
  fresh_sends false room (Some value) name waker answer is did = own_same did.1.0
  fresh_sends true true (Some value) name waker answer is did = was_open value did.1 is did.2 did.3.0
  fresh_sends true false (Some value) name waker answer is did = own_same did.1.0

  sends_as : (phase : Option (Phase W)) (name : ℕ) (waker : W) (answer : Poll (Result (Unit {0}) (SendFault T)))
      → SendsAs phase old name waker answer new → StaysClosed closing_channel old new
  sends_as (Some Fresh) name waker answer did =
      fresh_sends old.own.is_open (has_room old.own) (value_of old name) name waker answer refl did
  sends_as (Some (Registered before)) name waker answer did = own_same did.1.0
  sends_as (Some Complete) name waker answer did = own_same did.1.0
  sends_as phase name waker answer did = absurd did

  pub wakes : (answer : Option W) → channel.Wakes old answer new → StaysClosed closing_channel old new
  wakes answer did = own_same did.0

  pub sends : (name : ℕ) (waker : W) (answer : Poll (Result (Unit {0}) (SendFault T))) → PollsSend old name waker answer new
      → StaysClosed closing_channel old new
  sends name waker (Ready (Err (send_fault.Fault fault))) did = same closing_channel old new did.3
  sends name waker (Ready (Err (send_fault.Closed value))) did = sends_as (send_phase old name) name waker _ did
  sends name waker (Ready (Ok done)) did = sends_as (send_phase old name) name waker _ did
  sends name waker Pending did = sends_as (send_phase old name) name waker _ did

  -- Where nothing is buffered, a taking leaves nothing buffered.
  none_taken : (items : List T) (waiting : Option T) (next : T × Bounded T) → old.own.buffer.items ≡ items
      → old.own.buffer.items ≡ [] → next_value old.own.buffer items waiting ≡ Some next → next.1.items ≡ []
  none_taken [] None next is empty took = absurd (none_some next took)
  none_taken [] (Some value) next is empty took =
      ap (λ (taken : T × Bounded T). taken.1.items) (sym (some_same _ _ took)) ∙ empty
  none_taken (value ∷ left) waiting next is empty took =
      let impossible : suc (length left) ≡ 0 = ap length (sym is ∙ empty) in absurd (omega (arith, impossible))

  taken : (next : T × Bounded T) → next_of old ≡ Some next → new.own ≡ with_buffer old.own next.1
      → StaysClosed closing_channel old new
  taken next is own = record {
    closed = ap (λ (own : Buffered T). not own.is_open) own;
    cleared = λ shut was. ap (λ (own : Buffered T). own.buffer.items) own ∙ none_taken old.own.buffer.items _ next refl was is;
  }

  takes_next : (next : Option (T × Bounded T)) (is_open : Bool) (name : ℕ) (waker : W) (answer : Poll (Option T))
      → next_of old ≡ next → TakesNext next is_open old name waker answer new → StaysClosed closing_channel old new
  takes_next (Some next) is_open name waker answer is did = taken next is did.1.0
  takes_next None true name waker answer is did = own_same did.1.0
  takes_next None false name waker answer is did = own_same did.1.0

  receives_as : (phase : Option (Phase W)) (name : ℕ) (waker : W) (answer : Poll (Option T))
      → ReceivesAs phase old name waker answer new → StaysClosed closing_channel old new
  receives_as (Some Fresh) name waker answer did = takes_next (next_of old) old.own.is_open name waker answer refl did
  receives_as (Some Told) name waker answer did = takes_next (next_of old) old.own.is_open name waker answer refl did
  receives_as (Some (Registered before)) name waker answer did = own_same did.1.0
  receives_as phase name waker answer did = absurd did

  streams_as : (phase : Option (Phase W)) (name : ℕ) (waker : W) (answer : Poll (Option T))
      → StreamsAs phase old name waker answer new → StaysClosed closing_channel old new
  streams_as (Some Ended) name waker answer did = own_same did.1.0
  streams_as phase name waker answer did = receives_as phase name waker answer did

  streamed : (name : ℕ) (waker : W) (answer : Poll (Option (Result T Fault))) → Streamed (PollsNext old name waker) answer new
      → StaysClosed closing_channel old new
  streamed name waker Pending did = streams_as (receive_phase old name) name waker _ did
  streamed name waker (Ready None) did = streams_as (receive_phase old name) name waker _ did
  streamed name waker (Ready (Some (Ok item))) did = streams_as (receive_phase old name) name waker _ did
  streamed name waker (Ready (Some (Err fault))) did = absurd did

  pub slot_polls : {B : Type 0} (P : Type 0) (polled : Option (Poll (Option (Result T Fault)) × B)) (name : ℕ) (waker : W)
      → IfSome polled (λ polled. PollsStream old name waker polled.0 new) → IfNone polled (P × (new ≡ old))
      → StaysClosed closing_channel old new
  slot_polls P None name waker did lacks = same closing_channel old new lacks.1
  slot_polls P (Some polled) name waker did lacks = at (can_stream (kind_of old name) (receive_phase old name)) did
    where
      at : (can : Bool) → PollsWhere can (Streamed (PollsNext old name waker)) (Some (Err NoSlot)) old polled.0 new
          → StaysClosed closing_channel old new
      at true did = streamed name waker polled.0 did
      at false did = same closing_channel old new did.1

  cancels_as : (phase : Option (Phase W)) (name : ℕ) → CancelsReceiveAs phase old name new → StaysClosed closing_channel old new
  cancels_as (Some Told) name did = own_same did.0
  cancels_as phase name did = own_same did.0

  pub send_cancels : (name : ℕ) (left : Option T) → channel.CancelsSend old name left new → StaysClosed closing_channel old new
  send_cancels name left did = own_same did.1.0

  pub receives : (name : ℕ) (waker : W) (answer : Poll (Result (Option T) Fault))
      → Answered (PollsReceive old name waker) (λ fault state. ⊥) answer new → StaysClosed closing_channel old new
  receives name waker answer did = answers closing_channel old new (PollsReceive old name waker) (λ fault state. ⊥) answer
      (λ answer. receives_as (receive_phase old name) name waker answer) (λ fault none. absurd none) did

  pub receive_cancels : (name : ℕ) → CancelsReceive old name new → StaysClosed closing_channel old new
  receive_cancels name did = cancels_as (receive_phase old name) name did

left_closed : {T : Type 0} (keeps : Bool) (value : T) → has_closed (left_by keeps value) ≡ true
left_closed true value = refl
left_closed false value = refl

module _ {T W : Type 0} (old new : OneshotMachine T W) where
  content_same : new.own ≡ old.own → StaysClosed closing_one_value old new
  content_same is = record { closed = ap has_closed is; cleared = λ shut was. was }

  both_closed : has_closed old.own ≡ true → has_closed new.own ≡ true → StaysClosed closing_one_value old new
  both_closed was is = record { closed = is ∙ sym was; cleared = λ shut was. was }

  fresh_polls : (giving : Giving T) (content : Content T) (name : ℕ) (waker : W) (answer : Poll (Option T)) → old.own ≡ content
      → oneshot.FreshPolls giving content old name waker answer new → StaysClosed closing_one_value old new
  fresh_polls giving Empty name waker answer is did = content_same (did.1.0 ∙ sym is)
  fresh_polls giving (Full value) name waker answer is did =
      both_closed (ap has_closed is) (ap has_closed did.3.0 ∙ left_closed giving.keeps value)
  fresh_polls giving Spent name waker answer is did = both_closed (ap has_closed is) (ap has_closed did.1.0)

  polls_as : (giving : Giving T) (phase : Option (Phase W)) (name : ℕ) (waker : W) (answer : Poll (Option T))
      → oneshot.PollsAs giving phase old name waker answer new → StaysClosed closing_one_value old new
  polls_as giving (Some Fresh) name waker answer did = fresh_polls giving old.own name waker answer refl did
  polls_as giving (Some (Registered before)) name waker answer did = content_same did.1.0
  polls_as giving phase name waker answer did = absurd did

  pub one_value_polls : (giving : Giving T) (name : ℕ) (waker : W) (answer : Poll (Result (Option T) Fault))
      → Answered (oneshot.Polls giving old name waker) (oneshot.Lacks giving old name) answer new
      → StaysClosed closing_one_value old new
  one_value_polls giving name waker answer did =
      answers closing_one_value old new (oneshot.Polls giving old name waker) (oneshot.Lacks giving old name) answer
      (λ answer. polls_as giving (phase_at old name) name waker answer)
      (λ fault lacks. same closing_one_value old new lacks.2) did

  pub one_value_wakes : (answer : Option W) → oneshot.Wakes old answer new → StaysClosed closing_one_value old new
  one_value_wakes answer did = content_same did.0

  pub one_value_cancels : (name : ℕ) → oneshot.Cancels old name new → StaysClosed closing_one_value old new
  one_value_cancels name did = content_same did.0

module _ {T W : Type 0} (old new : StateMachine T W) where
  newest_same : new.own ≡ old.own → StaysClosed closing_state_broadcast old new
  newest_same is = record { closed = ap (λ (own : Newest T). not own.is_open) is; cleared = λ shut was. was }

  fresh_waits : (is_open : Bool) (name : ℕ) (waker : W) (answer : Poll (Option (ℕ × T)))
      → broadcast.FreshWaits is_open old name waker answer new → StaysClosed closing_state_broadcast old new
  fresh_waits true name waker answer did = newest_same did.1.0
  fresh_waits false name waker answer did = newest_same did.1.0

  fresh_receives : (is_clone : T → T → Type 0) (newer : Option T) (name : ℕ) (waker : W) (answer : Poll (Option (ℕ × T)))
      → broadcast.FreshPolls is_clone newer old name waker answer new → StaysClosed closing_state_broadcast old new
  fresh_receives is_clone (Some value) name waker answer did = newest_same did.3.0
  fresh_receives is_clone None name waker answer did = fresh_waits old.own.is_open name waker answer did

  state_polls_as : (is_clone : T → T → Type 0) (phase : Option (Phase W)) (name : ℕ) (waker : W) (answer : Poll (Option (ℕ × T)))
      → broadcast.PollsAs is_clone phase old name waker answer new → StaysClosed closing_state_broadcast old new
  state_polls_as is_clone (Some Fresh) name waker answer did = fresh_receives is_clone (newer_at old name) name waker answer did
  state_polls_as is_clone (Some (Registered before)) name waker answer did = newest_same did.1.0
  state_polls_as is_clone phase name waker answer did = absurd did

  pub state_polls : (is_clone : T → T → Type 0) (is_infallible : T → Type 0) (name : ℕ) (waker : W)
      (answer : Poll (Result (Option (ℕ × T)) Fault))
      → Answered (broadcast.Polls is_clone old name waker) (broadcast.LacksClone is_infallible old name) answer new
      → StaysClosed closing_state_broadcast old new
  state_polls is_clone is_infallible name waker answer did =
      answers closing_state_broadcast old new (broadcast.Polls is_clone old name waker) (broadcast.LacksClone is_infallible old name)
      answer (λ answer. state_polls_as is_clone (phase_at old name) name waker answer)
      (λ fault lacks. same closing_state_broadcast old new lacks.2) did

  pub state_wakes : (answer : Option W) → broadcast.Wakes old answer new → StaysClosed closing_state_broadcast old new
  state_wakes answer did = newest_same did.0

  pub state_cancels : (name : ℕ) → broadcast.Cancels old name new → StaysClosed closing_state_broadcast old new
  state_cancels name did = newest_same did.0
