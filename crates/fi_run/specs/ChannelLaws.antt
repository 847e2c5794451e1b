-- What the runs of a channel keep.
use Rattle.std.specs.Prelude.{◌≡◌, ℕ, ◌+◌, ◌==◌, Bool, true, false, Option, Some, None, Result, Ok, Err}
use Rattle.std.specs.Prelude.{List, [], ◌∷◌, ◌++◌, length, take, refl}
use Rattle.std.proofs.Common.{sym, ◌∙◌, ap, subst}
use Rattle.std.proofs.lemmas.Bool.{eq-eqb, ne_eqb}
use Rattle.std.specs.Option.{option_flatten}
use Rattle.futures.specs.declared.task.Poll as polls
use Rattle.futures.specs.declared.task.Poll.TheVariants as polled
use Rattle.fi_parts.specs.declared.errors.CloseStatus.{CloseStatus}
use Rattle.fi_parts.specs.declared.errors.CloseStatus.TheVariants.{NewlyClosed, AlreadyClosed}
use Rattle.fi_parts.specs.declared.errors.Fault.TheVariants.{NoMemory, Closed, Full}
use Rattle.fi_parts.specs.declared.phase.Phase.{Phase}
use Rattle.fi_parts.specs.declared.phase.Phase.TheVariants.{Fresh, Registered, Told, Complete, Ended}
use Rattle.fi_parts.specs.Buffer.{Bounded, empty, pushed}
use Rattle.fi_parts.specs.Oldest.{complete_first, complete_oldest, asks_of_oldest}
use Rattle.fi_parts.specs.Waiting.{Waiters, is_registered, registered, stays, ended, clear_queue, insert_fresh, exchange, without_future}
use Rattle.fi_parts.proofs.PairsWithin.{none_some, some_same, if_true, if_false}
use Rattle.fi_parts.proofs.WakerHistories.{kept_at_first}
use Rattle.fi_channels.specs.declared.channel.errors.SendFault.{SendFault}
use Rattle.fi_channels.specs.declared.channel.errors.SendFault.TheVariants as send_fault
use Rattle.fi_channels.specs.declared.channel.errors.TryReceiveError.{TryReceiveError}
use Rattle.fi_channels.specs.declared.channel.errors.TrySendError.TheVariants as not_sent
use Rattle.fi_channels.specs.declared.channel.fields.ReceiveKind.TheVariants as kinds
use Rattle.fi_channels.specs.Channel.{FreshSends, SendsAs, TakesNext, ReceivesAs, StreamsAs, CancelsReceiveAs}
use Rattle.fi_channels.specs.Channel.{TriesNext, ClosesAt, IsSound, OwesNoWake}
use Rattle.fi_channels.specs.ChannelWords.{ChannelMachine, Buffered, rules, has_room, next_value, next_of, send_phase}
use Rattle.fi_channels.specs.ChannelWords.{receive_phase, value_of, Stores}
use Rattle.fi_channels.specs.ChannelFields.{ChannelWaiters}
use Rattle.fi_channels.specs.TwoSidedEffects.{waiting_sends, waiting_receives}
use Rattle.fi_channels.proofs.ChannelLaws as laws
use Rattle.fi_channels.proofs.ChannelLaws.{Holds, Goes}
use Rattle.fi_channels.proofs.TwoSidedMachines.{line_keeps_send_wakers, line_keeps_receive_wakers}
use Rattle.fi_run.specs.declared.answer.Answer.{Answer}
use Rattle.fi_run.specs.declared.answer.Answer.TheVariants.{Made, Pending, Item, Nothing, End, Done, Newly, Already, Woken}
use Rattle.fi_run.specs.declared.answer.Answer.TheVariants.{Back, Refused}
use Rattle.fi_run.specs.declared.channel.ChannelCall.{ChannelCall}
use Rattle.fi_run.specs.declared.channel.ChannelCall.TheVariants.{Send, Receive, Stream, PollSend, PollReceive, PollNext}
use Rattle.fi_run.specs.declared.channel.ChannelCall.TheVariants.{CancelSend, CancelReceive, TrySend, TryReceive, Close}
use Rattle.fi_run.specs.declared.channel.ChannelCall.TheVariants.{NextWake}
use Rattle.fi_run.specs.Channel.{Opens, Step}
use Rattle.fi_run.specs.ChannelHistory.{closes_step, last_next, on_send_wakers, on_receive_wakers}
use Rattle.fi_run.specs.ChannelHistory.{EndsAgainAt, StreamsStand, HistoryHolds}
use Rattle.fi_run.specs.ChannelOrder.{follows_first, follows_order, follows_same, follows_stored, released_stored}
use Rattle.fi_run.specs.ChannelSteps as steps
use Rattle.fi_run.specs.ChannelStreams.{streams_at_first, streams_stand, ends_again}
use Rattle.fi_run.specs.ChannelValues.{Accepted, one_from, waits_with, withdrawn_by, released_by, accepts_once}
use Rattle.fi_run.specs.ChannelValues.{offered_step, received_step}
use Rattle.fi_run.specs.ChannelValues.{accepted_step, accepted, offered, received, Follows}
use Rattle.fi_run.specs.Outgoing.{TakesOldest, two_sided_outgoing}
use Rattle.fi_run.specs.OutgoingLaws.{pops_first}
use Rattle.fi_run.specs.StateHistory.{OpenFits}
use Rattle.fi_run.specs.StateLaws.{close_counts, open_at_first}

module _ {T W : Type 0} where
  -- Each step is a line of the table.
  goes : (old : ChannelMachine T W) (call : ChannelCall T W) (answer : Answer T W) (new : ChannelMachine T W) → Holds old →
      Step old call answer new → Goes old new (on_send_wakers call answer) (on_receive_wakers call answer)
  goes old call (Refused fault) new was did = laws.unchanged old new did.1 was
  goes old (Send value) (Made slot) new was did = laws.makes_send old new value slot.0 did was
  goes old (Send value) (Back given NoMemory) new was did = laws.unchanged old new did.1 was
  goes old Receive (Made slot) new was did = laws.makes_receive old new kinds.Single slot.0 did was
  goes old Stream (Made slot) new was did = laws.makes_receive old new kinds.Stream slot.0 did was
  goes old (PollSend slot waker) Pending new was did = (laws.polls_send old new slot.0 waker polled.Pending did was).0
  goes old (PollSend slot waker) Done new was did = (laws.polls_send old new slot.0 waker (polled.Ready (Ok tt)) did was).0
  goes old (PollSend slot waker) (Back value Closed) new was did =
      (laws.polls_send old new slot.0 waker (polled.Ready (Err (send_fault.Closed value))) did was).0
  goes old (PollReceive slot waker) Pending new was did = (laws.polls_receive old new slot.0 waker polled.Pending did.1 was).0
  goes old (PollReceive slot waker) (Item value) new was did =
      (laws.polls_receive old new slot.0 waker (polled.Ready (Some value)) did.1 was).0
  goes old (PollReceive slot waker) Nothing new was did =
      (laws.polls_receive old new slot.0 waker (polled.Ready None) did.1 was).0
  goes old (PollNext slot waker) Pending new was did = (laws.polls_next old new slot.0 waker polled.Pending did.1 was).0
  goes old (PollNext slot waker) (Item value) new was did =
      (laws.polls_next old new slot.0 waker (polled.Ready (Some value)) did.1 was).0
  goes old (PollNext slot waker) End new was did = (laws.polls_next old new slot.0 waker (polled.Ready None) did.1 was).0
  goes old (CancelSend slot) (Item value) new was did = laws.cancels_send old new slot.0 (Some value) did was
  goes old (CancelSend slot) Nothing new was did = laws.cancels_send old new slot.0 None did was
  goes old (CancelReceive slot) Done new was did = laws.cancels_receive old new slot.0 did was
  goes old (TrySend value) Done new was did = laws.tries_send old new value (Ok tt) did was
  goes old (TrySend value) (Back given Closed) new was did = laws.tries_send old new value (Err (not_sent.Closed given)) did was
  goes old (TrySend value) (Back given Full) new was did = laws.tries_send old new value (Err (not_sent.Full given)) did was
  goes old (TrySend value) (Back given NoMemory) new was did = laws.tries_send old new value
      (Err (not_sent.NoMemory (record { 0 = given; 1 = record { request = tt } }))) did was
  goes old TryReceive (Item value) new was did = laws.tries_receive old new (Ok value) did was
  goes old Close Newly new was did = laws.closes old new NewlyClosed did was
  goes old Close Already new was did = laws.closes old new AlreadyClosed did was
  goes old NextWake (Woken waker) new was did = laws.wakes old new waker did was
  goes old call answer new was did = absurd did

  pub channel_keeps : (old : ChannelMachine T W) (call : ChannelCall T W) (answer : Answer T W) (new : ChannelMachine T W) →
      IsSound old → OwesNoWake old → Step old call answer new → IsSound new × OwesNoWake new
  channel_keeps old call answer new sound no_wake did = (goes old call answer new (sound, no_wake) did).1

  pub channel_starts : (capacity_for : ℕ → ℕ) (capacity : ℕ) (state : ChannelMachine T W) → Opens capacity_for capacity state →
      IsSound state × OwesNoWake state
  channel_starts capacity_for capacity state opens =
      let buffer = empty (capacity_for capacity) state.own.buffer.reserved in
      laws.made_holds state buffer opens.0 refl (laws.made_fits state buffer opens.0 opens.1)

  -- what a step did to the flag
  abbrev OpenAfter : ChannelCall T W → Answer T W → Bool → Bool → Type 0
  OpenAfter call (Refused fault) before after = after ≡ before
  OpenAfter Close Newly before after = (before ≡ true) × (after ≡ false)
  OpenAfter call answer before after = after ≡ before

  closes_after : (call : ChannelCall T W) (answer : Answer T W) (first before after : Bool) (closes : ℕ) →
      OpenAfter call answer before after → OpenFits first before closes → OpenFits first after (closes_step call answer closes)
  closes_after Close Newly first before after closes did fits =
      subst (λ is_open. OpenFits first is_open (closes_step {T = T} {W = W} Close Newly closes)) (sym did.1)
      (close_counts first closes (subst (λ is_open. OpenFits first is_open closes) did.0 fits))
  closes_after call (Refused fault) first before after closes did fits =
      subst (λ is_open. OpenFits first is_open closes) (sym did) fits
  closes_after call answer first before after closes did fits = subst (λ is_open. OpenFits first is_open closes) (sym did) fits

  module _ (old new : ChannelMachine T W) where
    -- What a step left: these values accepted, offered and received, and the capacity.
    abbrev Leaves : List (Accepted T) → (ℕ → Option T) → List T → Type 0
    Leaves before offers taken = Follows before offers taken new.own.buffer.items new.waiting.sends
        × (new.own.buffer.capacity ≡ old.own.buffer.capacity)

    abbrev Left : List (Accepted T) → (ℕ → Option T) → List T → Bool → Type 0
    Left before offers taken is_open = Leaves before offers taken × (new.own.is_open ≡ is_open)

    left_by : (before : List (Accepted T)) (offers : ℕ → Option T) (taken : List T) (own : Buffered T)
        (sends : Waiters (Option T) W) →
        new.own ≡ own → new.waiting.sends ≡ sends → own.buffer.capacity ≡ old.own.buffer.capacity →
        Follows before offers taken own.buffer.items sends → Left before offers taken own.is_open
    left_by before offers taken own sends owns sides capacity held = (
      (
        follows_same before offers taken own.buffer.items new.own.buffer.items sends new.waiting.sends
            (ap (λ (o : Buffered T). o.buffer.items) owns) sides held,
        ap (λ (o : Buffered T). o.buffer.capacity) owns ∙ capacity,
      ),
      ap (λ (o : Buffered T). o.is_open) owns,
    )

    module _ (was : Holds old) (before : List (Accepted T)) (offers : ℕ → Option T) (taken : List T)
        (held : Follows before offers taken old.own.buffer.items old.waiting.sends) where
      abbrev items : List T
      items = old.own.buffer.items

      quiet : new.own ≡ old.own → new.waiting.sends ≡ old.waiting.sends → Left before offers taken old.own.is_open
      quiet owns sides = left_by before offers taken old.own old.waiting.sends owns sides refl held

      unchanged : new ≡ old → Left before offers taken old.own.is_open
      unchanged same = quiet (ap (λ (m : ChannelMachine T W). m.own) same)
          (ap (λ (m : ChannelMachine T W). m.waiting.sends) same)

      -- a value was stored, and these are the sends
      stored : (own : Buffered T) (value : T) (sends : Waiters (Option T) W) (after : List (Accepted T)) →
          Stores old.own value own →
          new.own ≡ own → new.waiting.sends ≡ sends → Follows after offers taken (items ++ value ∷ []) sends →
          Left after offers taken old.own.is_open
      stored own value sends after stores owns sides follows =
          left_by after offers taken (record old.own { buffer = pushed old.own.buffer value stores.0 }) sends
          (owns ∙ stores.4) sides refl follows

      -- what a poll of a send is to the values
      abbrev sent : ℕ → polls.Poll (Result (Unit {0}) (SendFault T)) → List (Accepted T)
      sent name polled.Pending = accepts_once name (Some name) (offers name) before
      sent name (polled.Ready (Ok done)) = released_by name (accepts_once name None (offers name) before)
      sent name answer = before

      abbrev finished : ℕ → Waiters (Option T) W
      finished name = exchange (ended old.waiting.sends name) name None

      fresh_sends : (name : ℕ) (waker : W) (is_open room : Bool) (asks : Option T)
          (answer : polls.Poll (Result (Unit {0}) (SendFault T))) → send_phase old name ≡ Some Fresh →
          has_room old.own ≡ room → value_of old name ≡ asks →
          FreshSends is_open room asks old name waker answer new → Left (sent name answer) offers taken old.own.is_open
      fresh_sends name waker is_open room None answer fresh has owns did = absurd did
      fresh_sends name waker false room (Some value) answer fresh has owns did =
          let step = did.1 in
          let ends = step.1.0 in
          subst (λ a. Left (sent name a) offers taken old.own.is_open) (sym did.0)
          (left_by before offers taken old.own (finished name) step.0
          (ends.3.1.0 ∙ ap (λ (s : Waiters (Option T) W). exchange s name None) ends.2.1.0) refl
          (steps.finished_follows old was before offers taken items held name fresh))
      fresh_sends name waker true true (Some value) answer fresh has owns did =
          let step = did.3 in
          let ends = step.1.1.0 in
          let sends = finished name in
          let one = one_from None (Some value) in
          let nowhere = steps.waits_nowhere old was before offers taken items held name (ap steps.is_complete fresh)
          (ap is_registered fresh) in
          subst (λ a. Left (sent name a) offers taken old.own.is_open) (sym did.0)
          (stored did.1 value sends (released_by name (accepts_once name None (offers name) before)) did.2 step.0
          (step.1.2.1 ∙ ends.3.1.0 ∙ ap (λ (s : Waiters (Option T) W). exchange s name None) ends.2.1.0)
          (subst (λ (xs : List (Accepted T)). Follows xs offers taken (items ++ value ∷ []) sends)
          (sym (ap (released_by name) (if_false (waits_with name before) before (before ++ one_from None (offers name)) nowhere
          ∙ ap (λ o. before ++ one_from None o) (held.offered name value owns)) ∙ released_stored name before value nowhere))
          (follows_stored before offers taken items sends value
          (steps.nobody_waits_to_send old was has)
          (steps.finished_follows old was before offers taken items held name fresh))))
      fresh_sends name waker true false (Some value) answer fresh has owns did =
          let step = did.1 in
          subst (λ a. Left (sent name a) offers taken old.own.is_open) (sym did.0)
          (left_by (accepts_once name (Some name) (offers name) before) offers taken old.own
          (registered old.waiting.sends name waker) step.0
          (step.1.2.1 ∙ step.1.1.0.1.0) refl
          (steps.registered_follows old was before offers taken items held name waker value fresh owns))

      sends_as : (name : ℕ) (waker : W) (phase : Option (Phase W)) (answer : polls.Poll (Result (Unit {0}) (SendFault T))) →
          send_phase old name ≡ phase → SendsAs phase old name waker answer new → Left
          (sent name answer) offers taken old.own.is_open
      sends_as name waker (Some Fresh) answer is did =
          fresh_sends name waker old.own.is_open (has_room old.own) (value_of old name) answer is refl refl did
      sends_as name waker (Some (Registered older)) answer is did =
          subst (λ a. Left (sent name a) offers taken old.own.is_open) (sym did.0)
          (left_by (accepts_once name (Some name) (offers name) before) offers taken old.own
          (stays old.waiting.sends name waker) did.1.0
          did.1.1.0.1.0 refl (steps.stays_follows old was before offers taken items held name waker older is))
      sends_as name waker (Some Complete) answer is did =
          subst (λ a. Left (sent name a) offers taken old.own.is_open) (sym did.0)
          (left_by (released_by name (accepts_once name None (offers name) before)) offers taken old.own
          (ended old.waiting.sends name) did.1.0
          did.1.1.0.1.0 refl (steps.ended_follows old was before offers taken items held name is))
      sends_as name waker phase answer is did = absurd did

      -- the oldest value was taken
      takes : (next : T × Bounded T) → next_of old ≡ Some next → new.own ≡ record old.own { buffer = next.1 } →
          new.waiting.sends ≡ complete_oldest None old.waiting.sends → Left before offers (taken ++ next.0 ∷ []) old.own.is_open
      takes next took owns sides =
          left_by before offers (taken ++ next.0 ∷ []) (record old.own { buffer = next.1 })
          (complete_oldest None old.waiting.sends) owns sides
          (next_capacity old.own.buffer old.own.buffer.items (option_flatten (asks_of_oldest old.waiting.sends)) next took)
          (steps.taken_follows old was before offers taken items held next refl took)
        where
          next_capacity : (buffer : Bounded T) (items : List T) (asks : Option T) (next : T × Bounded T) →
              next_value buffer items asks ≡ Some next → next.1.capacity ≡ buffer.capacity
          next_capacity buffer [] None next is = absurd (none_some next is)
          next_capacity buffer [] (Some value) next is = sym (ap (λ (n : T × Bounded T). n.1.capacity) (some_same _ next is))
          next_capacity buffer (value ∷ left) None next is = sym
              (ap (λ (n : T × Bounded T). n.1.capacity) (some_same _ next is))
          next_capacity buffer (value ∷ left) (Some other) next is = sym
              (ap (λ (n : T × Bounded T). n.1.capacity) (some_same _ next is))

      abbrev gotten : polls.Poll (Option T) → List T
      gotten (polled.Ready (Some value)) = taken ++ value ∷ []
      gotten answer = taken

      abbrev Got : polls.Poll (Option T) → Type 0
      Got answer = Left before offers (gotten answer) old.own.is_open

      takes_next : (name : ℕ) (waker : W) (next : Option (T × Bounded T)) (is_open : Bool) (answer : polls.Poll (Option T)) →
          next_of old ≡ next → TakesNext next is_open old name waker answer new → Got answer
      takes_next name waker (Some next) is_open answer is did =
          let step = did.1 in
          let mid = step.1.0 in
          let queue = old.waiting.sends.queue in
          subst Got (sym did.0) (takes next is step.0
          (laws.completes queue mid.sends new.waiting.sends mid.out new.waiting.out
          (ap (λ (s : Waiters (Option T) W). s.queue) step.1.1.1) step.1.2.0
          ∙ ap (λ (s : Waiters (Option T) W). complete_first None s queue) step.1.1.1))
      takes_next name waker None true answer is did = subst Got (sym did.0) (quiet did.1.0 did.1.1.1)
      takes_next name waker None false answer is did = subst Got (sym did.0) (quiet did.1.0 did.1.1.1)

      receives_as : (name : ℕ) (waker : W) (phase : Option (Phase W)) (answer : polls.Poll (Option T)) →
          ReceivesAs phase old name waker answer new → Got answer
      receives_as name waker (Some Fresh) answer did = takes_next name waker (next_of old) old.own.is_open answer refl did
      receives_as name waker (Some Told) answer did = takes_next name waker (next_of old) old.own.is_open answer refl did
      receives_as name waker (Some (Registered older)) answer did = subst Got (sym did.0) (quiet did.1.0 did.1.1.1)
      receives_as name waker phase answer did = absurd did

      streams_as : (name : ℕ) (waker : W) (phase : Option (Phase W)) (answer : polls.Poll (Option T)) →
          StreamsAs phase old name waker answer new → Got answer
      streams_as name waker (Some Ended) answer did = subst Got (sym did.0) (quiet did.1.0 did.1.1.1)
      streams_as name waker None answer did = absurd did
      streams_as name waker (Some Fresh) answer did = receives_as name waker (Some Fresh) answer did
      streams_as name waker (Some (Registered older)) answer did = receives_as name waker (Some (Registered older)) answer did
      streams_as name waker (Some Told) answer did = receives_as name waker (Some Told) answer did
      streams_as name waker (Some Complete) answer did = absurd did

      tries_next : (next : Option (T × Bounded T)) (is_open : Bool) (value : T) → next_of old ≡ next →
          TriesNext next is_open old (Ok value) new → Left before offers (taken ++ value ∷ []) old.own.is_open
      tries_next (Some next) is_open value is did =
          let step = did.1 in
          let queue = old.waiting.sends.queue in
          subst (λ (v : T). Left before offers (taken ++ v ∷ []) old.own.is_open) (sym (ok_same value next.0 did.0))
          (takes next is step.0
          (laws.completes queue old.waiting.sends new.waiting.sends old.waiting.out new.waiting.out refl step.1.0))
        where
          ok_same : (x y : T) → ◌≡◌ {A = Result T TryReceiveError} (Ok x) (Ok y) → x ≡ y
          ok_same x y e = cc
      tries_next None true value is did = absurd (cc did.0)
      tries_next None false value is did = absurd (cc did.0)

      cancels_as : (name : ℕ) (phase : Option (Phase W)) → CancelsReceiveAs phase old name new →
          Left before offers taken old.own.is_open
      cancels_as name (Some Told) did = quiet did.0 (did.1.2.1 ∙ did.1.1.1)
      cancels_as name None did = quiet did.0 did.1.1
      cancels_as name (Some Fresh) did = quiet did.0 did.1.1
      cancels_as name (Some (Registered older)) did = quiet did.0 did.1.1
      cancels_as name (Some Complete) did = quiet did.0 did.1.1
      cancels_as name (Some Ended) did = quiet did.0 did.1.1

      -- what a close with this answer left
      abbrev ClosedWith : CloseStatus → Type 0
      ClosedWith NewlyClosed = Leaves (take (length taken + old.own.buffer.capacity) before) offers taken
          × ((old.own.is_open ≡ true) × (new.own.is_open ≡ false))
      ClosedWith AlreadyClosed = Left before offers taken old.own.is_open

      closes_at : (is_open : Bool) (status : CloseStatus) → old.own.is_open ≡ is_open → ClosesAt is_open old status new →
          ClosedWith status
      closes_at true status is did =
          let step = did.1 in
          let left = left_by (take (length taken + old.own.buffer.capacity) before) offers taken
          (record old.own { is_open = false })
          (clear_queue Fresh old.waiting.sends) step.0 (step.1.2.0.0 ∙ ap (clear_queue Fresh) step.1.1.1) refl
          (steps.closed_follows old was before offers taken items held refl) in
          subst ClosedWith (sym did.0) (left.0, (is, left.1))
      closes_at false status is did = subst ClosedWith (sym did.0) (unchanged did.1)

      -- what a step leaves of the values
      abbrev FollowsAfter : ChannelCall T W → Answer T W → Type 0
      FollowsAfter call answer = Leaves (accepted_step old.own.buffer.capacity call answer offers taken before)
          (λ name. offered_step name call answer (offers name)) (received_step call answer taken)
          × OpenAfter call answer old.own.is_open new.own.is_open

      follows : (call : ChannelCall T W) (answer : Answer T W) → Step old call answer new → FollowsAfter call answer
      follows call (Refused fault) did = unchanged did.1
      follows (Send value) (Made slot) did =
          left_by before (λ name. offered_step {T = T} {W = W} name (Send value) (Made slot) (offers name)) taken old.own
          (insert_fresh old.waiting.sends slot.0 (Some value)) did.0 did.1.0.1.0 refl
          (steps.made_follows old was before offers taken items held value slot.0
          (λ name. offered_step {T = T} {W = W} name (Send value) (Made slot) (offers name)) did.1.0.0
          (if_true (slot.0 == slot.0) (Some value) (offers slot.0) (eq-eqb slot.0 slot.0 refl))
          (λ q ne. if_false (slot.0 == q) (Some value) (offers q) (ne_eqb slot.0 q (λ e. ne (sym e)))))
      follows (Send value) (Back given NoMemory) did = unchanged did.1
      follows Receive (Made slot) did = quiet did.0 did.1.1
      follows Stream (Made slot) did = quiet did.0 did.1.1
      follows (PollSend slot waker) Pending did = sends_as slot.0 waker (send_phase old slot.0) polled.Pending refl did
      follows (PollSend slot waker) Done did = sends_as slot.0 waker (send_phase old slot.0) (polled.Ready (Ok tt)) refl did
      follows (PollSend slot waker) (Back value Closed) did =
          sends_as slot.0 waker (send_phase old slot.0) (polled.Ready (Err (send_fault.Closed value))) refl did
      follows (PollReceive slot waker) Pending did = receives_as slot.0 waker (receive_phase old slot.0) polled.Pending did.1
      follows (PollReceive slot waker) (Item value) did =
          receives_as slot.0 waker (receive_phase old slot.0) (polled.Ready (Some value)) did.1
      follows (PollReceive slot waker) Nothing did = receives_as slot.0 waker (receive_phase old slot.0)
          (polled.Ready None) did.1
      follows (PollNext slot waker) Pending did = streams_as slot.0 waker (receive_phase old slot.0) polled.Pending did.1
      follows (PollNext slot waker) (Item value) did =
          streams_as slot.0 waker (receive_phase old slot.0) (polled.Ready (Some value)) did.1
      follows (PollNext slot waker) End did = streams_as slot.0 waker (receive_phase old slot.0) (polled.Ready None) did.1
      follows (CancelSend slot) (Item value) did =
          left_by (withdrawn_by slot.0 before) offers taken old.own
          (without_future old.waiting.sends slot.0) did.1.0 did.1.1.0.1.0 refl
          (steps.withdrawn_follows old was before offers taken items held slot.0 value (sym did.0))
      follows (CancelSend slot) Nothing did =
          left_by (released_by slot.0 before) offers taken old.own (without_future old.waiting.sends slot.0) did.1.0 did.1.1.0.1.0 refl
          (steps.left_follows old was before offers taken items held slot.0 (sym did.0))
      follows (CancelReceive slot) Done did = cancels_as slot.0 (receive_phase old slot.0) did
      follows (TrySend value) Done did =
          stored did.2 value old.waiting.sends (before ++ one_from None (Some value)) did.3 did.4.0 did.4.1.1
          (follows_stored before offers taken items old.waiting.sends value (steps.nobody_waits_to_send old was did.1) held)
      follows (TrySend value) (Back given Closed) did = unchanged did.2
      follows (TrySend value) (Back given Full) did = unchanged did.3
      follows (TrySend value) (Back given NoMemory) did = unchanged did.2
      follows TryReceive (Item value) did = tries_next (next_of old) old.own.is_open value refl did
      follows Close Newly did = closes_at old.own.is_open NewlyClosed refl did
      follows Close Already did = closes_at old.own.is_open AlreadyClosed refl did
      follows NextWake (Woken waker) did = quiet did.0 (ap (λ (m : ChannelWaiters T W). m.sends) did.1.1)
      follows call answer did = absurd did

  -- a poll of a stream that had ended
  ends_well : (first old new : ChannelMachine T W) (history : List (ChannelCall T W × Answer T W)) (call : ChannelCall T W)
      (answer : Answer T W) → StreamsStand first history old → Step old call answer new →
      EndsAgainAt (λ name. last_next first name history) call answer
  ends_well first old new history (PollNext slot waker) answer stand did =
      ends_again old new slot.0 slot waker (last_next first slot.0 history) answer refl (stand slot.0) did
  ends_well first old new history call answer stand did = tt

  pub channel_history_initial : (state : ChannelMachine T W) → HistoryHolds state [] state
  channel_history_initial state =
      record {
        capacity = refl;
        follows = follows_first state.own.buffer.items state.waiting.sends;
        order = refl;
        closes = open_at_first state.own.is_open;
        ended = tt;
        streams = λ name. streams_at_first state state name;
        sends = kept_at_first {E = ChannelCall T W × Answer T W} (λ entry. on_send_wakers entry.0 entry.1)
            (waiting_sends state.waiting);
        receives =
            kept_at_first {E = ChannelCall T W × Answer T W} (λ entry. on_receive_wakers entry.0 entry.1)
            (waiting_receives state.waiting);
      }

  pub channel_history_preserved : (first : ChannelMachine T W) (history : List (ChannelCall T W × Answer T W))
      (old : ChannelMachine T W)
      (call : ChannelCall T W) (answer : Answer T W) (new : ChannelMachine T W) →
      IsSound old → OwesNoWake old → HistoryHolds first history old → Step old call answer new →
      HistoryHolds first ((call, answer) ∷ history) new
  channel_history_preserved first history old call answer new sound no_wake was did =
      let line = (goes old call answer new (sound, no_wake) did).0 in
      let left = follows old new (sound, no_wake) (accepted first history) (λ name. offered first name history)
      (received history)
      was.follows call answer did in
      let held = subst (λ capacity. Follows
      (accepted_step capacity call answer (λ name. offered first name history) (received history) (accepted first history))
      (λ name. offered first name ((call, answer) ∷ history)) (received ((call, answer) ∷ history))
      new.own.buffer.items new.waiting.sends) was.capacity left.0.0 in
      let on_sends = λ (entry : ChannelCall T W × Answer T W). on_send_wakers entry.0 entry.1 in
      let on_receives = λ (entry : ChannelCall T W × Answer T W). on_receive_wakers entry.0 entry.1 in
      record {
        capacity = left.0.1 ∙ was.capacity;
        follows = held;
        order = follows_order (accepted first ((call, answer) ∷ history))
            (λ name. offered first name ((call, answer) ∷ history))
            (received ((call, answer) ∷ history)) new.own.buffer.items new.waiting.sends held;
        closes = closes_after call answer first.own.is_open old.own.is_open new.own.is_open _ left.1 was.closes;
        ended = (ends_well first old new history call answer was.streams did, was.ended);
        streams = λ name. streams_stand old new (sound, no_wake) call answer did (last_next first name history) name
            (was.streams name);
        sends = line_keeps_send_wakers rules on_sends on_receives history (call, answer) old new line sound.waiters
            (waiting_sends first.waiting) was.sends;
        receives = line_keeps_receive_wakers rules on_sends on_receives history (call, answer) old new line sound.waiters
            (waiting_receives first.waiting) was.receives;
      }

pub channel_takes_oldest : {T W : Type 0} (old : ChannelMachine T W) (answer : Answer T W) (new : ChannelMachine T W)
    → Step old NextWake answer new → TakesOldest two_sided_outgoing (λ waker. Woken waker) old answer new
channel_takes_oldest old (Woken waker) new did = pops_first (λ found. Woken found) old waker new did
channel_takes_oldest old (Refused fault) new did = absurd did.0
channel_takes_oldest old answer new did = absurd did
