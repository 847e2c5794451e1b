-- Each call on a channel is a line of its table, and keeps a channel sound that owes no wake.
use Rattle.std.proofs.Common.{◌≡◌, ◌≤◌, ◌+◌, ℕ, suc, drop, Bool, true, false, List, [], ◌∷◌, ◌++◌, Option, Some, None}
use Rattle.std.proofs.Common.{is_some, Result, Ok, Err, length, length-append, refl, sym, ap, subst, ◌∙◌, inl, inr, arith}
use Rattle.std.proofs.lemmas.Bool.{both_ways, cases_eq}
use Rattle.std.specs.Option.{option_flatten}
use Rattle.futures.specs.declared.task.Poll.{Poll}
use Rattle.futures.specs.declared.task.Poll.TheVariants.{Ready, Pending}
use Rattle.fi_parts.specs.declared.errors.CloseStatus.{CloseStatus}
use Rattle.fi_parts.specs.declared.phase.Notice.TheVariants.{Renew}
use Rattle.fi_parts.specs.declared.phase.Phase.{Phase}
use Rattle.fi_parts.specs.declared.phase.Phase.TheVariants.{Fresh, Registered, Told, Complete, Ended}
use Rattle.fi_parts.specs.Buffer.{Bounded, Fits}
use Rattle.fi_parts.specs.Effects.{completes_first}
use Rattle.fi_parts.specs.MachineTable.{keeps_asks, AllowsEffect, waker_change, poll_change}
use Rattle.fi_parts.specs.Effects.WaiterEffect.{NoChange, Inserts, Registers, KeepsWaiting, Ends, Removes, NotifiesAll}
use Rattle.fi_parts.specs.Oldest.{complete_first, complete_oldest, pop_oldest, asks_of_first, asks_of_oldest}
use Rattle.fi_parts.specs.Order.{without}
use Rattle.fi_parts.specs.Pairs.{without_pair}
use Rattle.fi_parts.specs.PlaceRules.{registered_rule}
use Rattle.fi_parts.specs.Places.{is_told}
use Rattle.fi_parts.specs.WakerHistory.{WakerChange, gives}
use Rattle.fi_parts.specs.WakerHistory.WakerChange.{Pends, Leaves, NoEffect}
use Rattle.fi_parts.specs.Waiting.{asks_in, Waiters, Waiting, phase_of, phase_in, asks_of, is_registered, insert_fresh, registered, stays}
use Rattle.fi_parts.specs.Waiting.{ended, without_future, with_phase, may_be_named, exchange, clear_queue, noticed, IsOrdered}
use Rattle.fi_parts.proofs.FiniteMaps.{get-insert_same}
use Rattle.fi_parts.proofs.Effects.{some_phase, registered_as}
use Rattle.fi_parts.proofs.Oldest.{phase-with_asks}
use Rattle.fi_parts.proofs.Sound.{none_registered, sound-forgotten}
use Rattle.fi_parts.proofs.Waiting.{asks-with_phase, Becomes, noticed_phase, becomes-made, becomes-with_phase, becomes-forgotten}
use Rattle.fi_parts.proofs.Waiting.{phase-emptied, lives_as, live_if_registered, first_registered}
use Rattle.fi_channels.specs.declared.channel.errors.SendFault.{SendFault}
use Rattle.fi_channels.specs.declared.channel.errors.SendFault.TheVariants as send_fault
use Rattle.fi_channels.specs.declared.channel.errors.TryReceiveError.{TryReceiveError}
use Rattle.fi_channels.specs.declared.channel.errors.TrySendError.{TrySendError}
use Rattle.fi_channels.specs.declared.channel.errors.TrySendError.TheVariants as not_sent
use Rattle.fi_channels.specs.declared.channel.fields.ReceiveKind.{ReceiveKind}
use Rattle.fi_channels.specs.declared.channel.fields.ReceiveKind.TheVariants.{Stream}
use Rattle.fi_channels.specs.Channel.{MakesSend, MakesReceive, FreshSends, SendsAs, PollsSend, CancelsSend, TakesNext}
use Rattle.fi_channels.specs.Channel.{ReceivesAs, PollsReceive, StreamsAs, PollsNext, CancelsReceiveAs, CancelsReceive}
use Rattle.fi_channels.specs.Channel.{TriesSend, TriesNext, TriesReceive, ClosesAt, Closes, Wakes, IsSound, OwesNoWake}
use Rattle.fi_channels.specs.ChannelWords.{ChannelMachine, Buffered, AreTold, rules, is_send_phase, is_receive_phase, owns_value, has_room}
use Rattle.fi_channels.specs.ChannelWords.{Stores, next_of, value_count, send_phase, receive_phase, value_of, kind_of, opened, finishes}
use Rattle.fi_channels.specs.ChannelWords.{is_given, tells_oldest, completes_oldest, can_send, can_stream}
use Rattle.fi_channels.specs.declared.channel.two_sides.Waiter.{Waiter}
use Rattle.fi_channels.specs.declared.channel.two_sides.Waiter.TheVariants.{Send, Receive}
use Rattle.fi_channels.specs.TwoSidedEffects.{TwoSidedEffect, TakesOn}
use Rattle.fi_channels.specs.TwoSidedTable.{AllowsTwoSided, KeepsKinds, on_sends, on_receives, TwoSidedLine}
use Rattle.fi_channels.specs.TwoSidedEffects.TwoSidedEffect.{OnSends, OnReceives, PopsFirst, Then}
use Rattle.fi_channels.specs.ChannelFields.{ChannelWaiters}
use Rattle.fi_channels.specs.TwoSidedMachine.{TwoSidedStep}
use Rattle.fi_channels.specs.Waiter.{same_waiter, sends_in, receives_in}
use Rattle.std.specs.Ordering.{nat_cmp}
use Rattle.std.specs.FinMap as map
use Rattle.fi_channels.proofs.NextValues.{Fronts, left_over, nothing_left}
use Rattle.fi_channels.proofs.OwnedValues.{Owned, OwnedAt, owned-made, owned-with_phase, owned-finished, owned-forgotten}
use Rattle.fi_channels.proofs.OwnedValues.{owned-emptied, owned-completed}
use Rattle.fi_channels.proofs.ToldReceives.{Enough, none_told, enough_fewer, enough_but, enough_beside, oldest_enough, passed_on}
use Rattle.fi_channels.proofs.TwoSidedMachines.{two_sided_initial, two_sided_line, two_sided_line_sound}

-- a receive that is given its value is of the kind that it was
given_keeps : (W : Type 0) (kind : Option ReceiveKind) (name : ℕ) → keeps_asks (is_given {W = W} kind name) ≡ true
given_keeps W (Some Stream) name = refl
given_keeps W kind name = refl

-- what a poll of a send with this answer is to the wakers of sends: a refusal leaves them as they are
abbrev pub sent_change : {T W : Type 0} → ℕ → W → Poll (Result (Unit {0}) (SendFault T)) → WakerChange W
sent_change name waker Pending = Pends name waker
sent_change name waker (Ready (Err (send_fault.Fault fault))) = NoEffect
sent_change name waker (Ready answer) = Leaves name

-- Whoever sends and waits finds the channel open and its buffer full.
abbrev Waits : {T W : Type 0} → Buffered T → Waiters (Option T) W → Type 0
Waits own sends = (name : ℕ) → is_registered (phase_of sends name) ≡ true → (own.is_open ≡ true) × (has_room own ≡ false)

-- What holds of a buffer, the sends and the receives, beside the order of the queues and of out.
record Keeps {T W : Type 0} (own : Buffered T) (sending : Waiters (Option T) W) (receiving : Waiters ReceiveKind W) : Type 0 where
  owned : Owned sending
  buffer : Fits own.buffer
  told : Enough receiving (length own.buffer.items + length sending.queue)
  waits : Waits own sending

shorter : (name : ℕ) (names : List ℕ) → length (without name names) ≤ length names
shorter name [] = omega arith
shorter name (other ∷ names) = grind (arith, cases_eq name other, shorter name names)

unregistered_fresh : {W : Type 0} (phase : Option (Phase W)) → is_registered (noticed_phase Fresh phase) ≡ false
unregistered_fresh (Some (Registered waker)) = refl
unregistered_fresh phase = refl

module _ {W : Type 0} where
  given_allowed : (waiting : Waiting ReceiveKind W) (kind : Option ReceiveKind) (name : ℕ) →
      AllowsEffect registered_rule is_receive_phase waiting
      (is_given kind name)
  given_allowed waiting (Some Stream) name = tt
  given_allowed waiting kind name = tt

  given_leaves : (kind : Option ReceiveKind) (name : ℕ) →
      waker_change {D = ReceiveKind} {W = W} (is_given kind name) ≡ Leaves name
  given_leaves (Some Stream) name = refl
  given_leaves kind name = refl

  -- Its phase has changed to one that is not registered, and it asks for the same.
  abbrev Changed : Waiters ReceiveKind W → Waiters ReceiveKind W → ℕ → Type 0
  Changed old new name = (phase : Phase W) × (is_registered (Some phase) ≡ false) × Becomes old new name (Some phase)
      × (asks_of new name ≡ asks_of old name)

  changed_to : (phase : Phase W) → is_registered (Some phase) ≡ false → (old new : Waiters ReceiveKind W) (name : ℕ) →
      may_be_named (phase_of old name) ≡ true → new ≡ record old { live = with_phase old.live name phase } → Changed old new name
  changed_to phase off old new name lives is =
      let p = some_phase (phase_of old name) lives in (
        phase,
        off,
        subst (λ (s : Waiters ReceiveKind W). Becomes old s name (Some phase)) (sym is)
            (becomes-with_phase old name phase old.queue (lives_as old name p.0 p.1)),
        ap (λ (s : Waiters ReceiveKind W). asks_of s name) is ∙ asks-with_phase old.live name phase name,
      )

  -- what was given an item
  given_becomes : (kind : Option ReceiveKind) (old new : Waiters ReceiveKind W) (name : ℕ) (out after : List (Waiter × W)) →
      TakesOn Receive same_waiter (is_given kind name) old out new after → Changed old new name
  given_becomes (Some Stream) old new name out after did = changed_to Fresh refl old new name did.0 did.1.0
  given_becomes kind old new name out after did = changed_to Ended refl old new name did.0 did.1.0

  -- a receive of another phase than this is not told
  untold : (phase : Option (Phase W)) → is_told phase ≡ false → phase ≡ Some Told → ⊥
  untold phase off is = both_ways _ off (ap is_told is)

  registered_untold : (phase : Option (Phase W)) → is_registered phase ≡ true → is_told phase ≡ false
  registered_untold (Some Told) is = absurd (both_ways false refl is)
  registered_untold phase is = refl

module _ {D W : Type 0} where
  -- one name changed, and is not registered
  not_joined : (old new : Waiters D W) (name : ℕ) (phase : Option (Phase W)) → Becomes old new name phase →
      is_registered phase ≡ false →
      (q : ℕ) → is_registered (phase_of new q) ≡ true → is_registered (phase_of old q) ≡ true
  not_joined old new name phase becomes off q now = grind (arith, cases_eq q name, becomes.here, becomes.others q, off, now)

  -- one that was registered already changed
  joined_before : (old new : Waiters D W) (name : ℕ) (phase : Option (Phase W)) → Becomes old new name phase →
      is_registered (phase_of old name) ≡ true →
      (q : ℕ) → is_registered (phase_of new q) ≡ true → is_registered (phase_of old q) ≡ true
  joined_before old new name phase becomes was q now = grind (arith, cases_eq q name, becomes.others q, was, now)

completing_quiet : (T W : Type 0) (queue : List ℕ) →
    ◌≡◌ {A = WakerChange W} (waker_change (completes_first {D = Option T} None queue)) NoEffect
completing_quiet T W [] = refl
completing_quiet T W (name ∷ others) = refl

module _ {T W : Type 0} where
  -- What the effects of the channel's table may do.
  completing_allowed : (waiting : Waiting (Option T) W) (queue : List ℕ) → AllowsEffect registered_rule is_send_phase waiting
      (completes_first None queue)
  completing_allowed waiting [] = tt
  completing_allowed waiting (name ∷ others) = refl

  pub completes : (queue : List ℕ) (side new : Waiters (Option T) W) (out after : List (Waiter × W)) → side.queue ≡ queue →
      TakesOn Send same_waiter (completes_first None queue) side out new after → new ≡ complete_first None side queue
  completes [] side new out after is did = did.0
  completes (name ∷ others) side new out after is did =
      did.3.0 ∙ ap (λ (names : List ℕ). noticed Complete (exchange side name None) name names) (ap (drop 1) (sym did.1 ∙ is))

  rest_of : (queue : List ℕ) (side : Waiters (Option T) W) → side.queue ≡ queue →
      (complete_first None side queue).queue ≡ drop 1 queue
  rest_of [] side is = is
  rest_of (name ∷ others) side is = refl

  -- who is registered once the oldest completed was so before
  completed_before : (queue : List ℕ) (side : Waiters (Option T) W) (out : List (ℕ × W)) → IsOrdered side out →
      side.queue ≡ queue → (q : ℕ) →
      is_registered (phase_of (complete_first None side queue) q) ≡ true → is_registered (phase_of side q) ≡ true
  completed_before [] side out ordered is q now = now
  completed_before (name ∷ others) side out ordered is q now =
      let asked = exchange side name None in
      let first = first_registered side out name others ordered is in
      let becomes = becomes-with_phase asked name Complete others
      (live_if_registered asked name (ap is_registered (phase-with_asks side.live name None name) ∙ first)) in
      ap is_registered (sym (phase-with_asks side.live name None q))
      ∙ not_joined asked (complete_first None side (name ∷ others)) name (Some Complete) becomes refl q now

  abbrev pub Holds : ChannelMachine T W → Type 0
  Holds state = IsSound state × OwesNoWake state

  -- the oldest waiting send owns a value
  fronts_of : (state : ChannelMachine T W) → Holds state → (queue : List ℕ) → state.waiting.sends.queue ≡ queue →
      Fronts queue (option_flatten (asks_of_first state.waiting.sends queue))
  fronts_of state was [] is = refl
  fronts_of state was (name ∷ others) is =
      let waker = registered_as (phase_of state.waiting.sends name)
      (first_registered state.waiting.sends (sends_in state.waiting.out) name others was.0.waiters.sends.ordered is) in
      some_is (option_flatten (asks_of state.waiting.sends name)) (was.0.owned name ∙ ap owns_value waker.1)
    where
      some_is : (asks : Option T) → is_some asks ≡ true → (value : T) × (asks ≡ Some value)
      some_is None is = absurd (both_ways false refl is)
      some_is (Some value) is = (value, refl)

  module _ (old new : ChannelMachine T W) where
    abbrev Was : Type 0
    Was = Keeps old.own old.waiting.sends old.waiting.receives

    keeps_of : Holds old → Was
    keeps_of was = record { owned = was.0.owned; buffer = was.0.buffer; told = was.1.receives; waits = was.1.sends }

    abbrev Now : Type 0
    Now = Keeps new.own new.waiting.sends new.waiting.receives

    keeps_at : (own : Buffered T) (sending : Waiters (Option T) W) (receiving : Waiters ReceiveKind W) → new.own ≡ own →
        new.waiting.sends ≡ sending → new.waiting.receives ≡ receiving → Keeps own sending receiving → Now
    keeps_at own sending receiving owns sent received keeps = rw (owns, sent, received) keeps

    -- The call is a line of the table, and what held holds afterwards.
    abbrev pub Goes : (on_send on_receive : WakerChange W) → Type 0
    Goes on_send on_receive = TwoSidedLine rules on_send on_receive old new × Holds new

    goes : (own : Buffered T) (effect : TwoSidedEffect (Option T) ReceiveKind W) → TwoSidedStep old own effect new → KeepsKinds effect →
        AllowsTwoSided is_send_phase is_receive_phase old.waiting effect → Holds old → Now →
        Goes (on_sends effect) (on_receives effect)
    goes own effect steps kinds allows was keeps =
        let line = two_sided_line rules own effect old new steps kinds allows in (
          line,
          (
            record {
              waiters = two_sided_line_sound rules old new line was.0.waiters;
              owned = keeps.owned;
              buffer = keeps.buffer;
            },
            record { receives = keeps.told; sends = keeps.waits },
          ),
        )

    pub unchanged : new ≡ old → Holds old → Goes NoEffect NoEffect
    unchanged same was = rw same (two_sided_line rules old.own (OnSends NoChange) old old (refl, ((refl, refl), refl)) tt tt, was)

    -- The sends changed alone, and nobody joined those who wait.
    sends_alone : (sending : Waiters (Option T) W) → Was → Owned sending → length sending.queue ≤ length old.waiting.sends.queue →
        ((q : ℕ) → is_registered (phase_of sending q) ≡ true → is_registered (send_phase old q) ≡ true) →
        Keeps old.own sending old.waiting.receives
    sends_alone sending was owned fewer joined = record {
      owned = owned;
      buffer = was.buffer;
      told = enough_fewer old.waiting.receives (length old.own.buffer.items + length sending.queue) (value_count old) (omega
          (arith, fewer)) was.told;
      waits = λ q now. was.waits q (joined q now);
    }

    -- One receive changed alone, and did not join those who wait.
    receives_alone : (receiving : Waiters ReceiveKind W) (name : ℕ) (phase : Option (Phase W)) → Was →
        Becomes old.waiting.receives receiving name phase →
        is_told (receive_phase old name) ≡ false →
        ((q : ℕ) → is_registered (phase_of receiving q) ≡ true → is_registered (receive_phase old q) ≡ true) →
        Keeps old.own old.waiting.sends receiving
    receives_alone receiving name phase was becomes off joined = record {
      owned = was.owned;
      buffer = was.buffer;
      told = λ q now. enough_beside old.waiting.receives receiving name (value_count old) becomes.others
          (untold (receive_phase old name) off) (was.told q (joined q now));
      waits = was.waits;
    }

    pub makes_send : (value : T) (name : ℕ) → MakesSend old value name new → Holds old → Goes (Leaves name) NoEffect
    makes_send value name did was =
        let side = old.waiting.sends in
        let becomes = becomes-made side name (Some value) in
        goes old.own (OnSends (Inserts name (Some value))) did tt tt was
        (keeps_at old.own (insert_fresh side name (Some value)) old.waiting.receives did.0 did.1.0.1.0 did.1.1
        (sends_alone (insert_fresh side name (Some value)) (keeps_of was) (owned-made side name value was.0.owned) (omega arith)
        (not_joined side (insert_fresh side name (Some value)) name (Some Fresh) becomes refl)))

    pub makes_receive : (kind : ReceiveKind) (name : ℕ) → MakesReceive old kind name new → Holds old → Goes NoEffect (Leaves name)
    makes_receive kind name did was =
        let side = old.waiting.receives in
        let becomes = becomes-made side name kind in
        goes old.own (OnReceives (Inserts name kind)) did refl tt was
        (keeps_at old.own old.waiting.sends (insert_fresh side name kind) did.0 did.1.1 did.1.0.1.0
        (receives_alone (insert_fresh side name kind) name (Some Fresh) (keeps_of was) becomes (ap is_told did.1.0.0)
        (not_joined side (insert_fresh side name kind) name (Some Fresh) becomes refl)))

    pub cancels_send : (name : ℕ) (answer : Option T) → CancelsSend old name answer new → Holds old → Goes (Leaves name) NoEffect
    cancels_send name answer did was =
        let side = old.waiting.sends in
        goes old.own (OnSends (Removes name)) did.1 tt tt was
        (keeps_at old.own (without_future side name) old.waiting.receives did.1.0 did.1.1.0.1.0 did.1.1.1
        (sends_alone (without_future side name) (keeps_of was) (owned-forgotten side name was.0.owned) (shorter name side.queue)
        (not_joined side (without_future side name) name None (becomes-forgotten side name) refl)))

    pub wakes : (answer : Option W) → Wakes old answer new → Holds old → Goes (gives answer) (gives answer)
    wakes answer did was =
        goes old.own (PopsFirst answer) did tt tt was
        (keeps_at old.own old.waiting.sends old.waiting.receives did.0 (ap (λ (m : ChannelWaiters T W). m.sends) did.1.1)
        (ap (λ (m : ChannelWaiters T W). m.receives) did.1.1) (keeps_of was))

    line_closes : (status : CloseStatus) (is_open : Bool) → ClosesAt is_open old status new → Holds old → Goes NoEffect NoEffect
    line_closes status false did was = unchanged did.1 was
    line_closes status true did was =
        let step = did.1 in
        let mid = step.1.0 in
        let sides = old.waiting in
        let nobody = λ (q : ℕ). unregistered_fresh (phase_of sides.receives q) in
        goes (record old.own { is_open = false }) (Then (OnReceives (NotifiesAll Renew)) (OnSends (NotifiesAll Renew))) step
        (refl, tt) (refl, λ m did2. refl, refl, refl) was
        (keeps_at (record old.own { is_open = false }) (clear_queue Fresh sides.sends) (clear_queue Fresh sides.receives) step.0
        (step.1.2.0.0 ∙ ap (clear_queue Fresh) step.1.1.1) (step.1.2.1 ∙ step.1.1.0.0) (record {
          owned = owned-emptied sides.sends (sends_in sides.out) was.0.waiters.sends.ordered was.0.owned;
          buffer = was.0.buffer;
          told = λ q now. absurd (both_ways _ (ap is_registered (phase-emptied Fresh sides.receives (receives_in sides.out) q
              was.0.waiters.receives.ordered) ∙ unregistered_fresh (phase_of sides.receives q)) now);
          waits = λ q now. absurd (both_ways _ (ap is_registered (phase-emptied Fresh sides.sends (sends_in sides.out) q
              was.0.waiters.sends.ordered) ∙ unregistered_fresh (phase_of sides.sends q)) now);
        }))

    pub closes : (status : CloseStatus) → Closes old status new → Holds old → Goes NoEffect NoEffect
    closes status did was = line_closes status old.own.is_open did was

    -- One value more, and the oldest receive was told.
    told_one_more : (own : Buffered T) (sending : Waiters (Option T) W) → Holds old → Owned sending → Fits own.buffer →
        length own.buffer.items + length sending.queue ≡ suc (value_count old) → Waits own sending →
        Keeps own sending (pop_oldest Told old.waiting.receives)
    told_one_more own sending was owned fits more waits = record {
      owned = owned;
      buffer = fits;
      told = enough_fewer (pop_oldest Told old.waiting.receives) _ (suc (value_count old)) (omega (arith, more))
          (oldest_enough old.waiting.receives (receives_in old.waiting.out)
          (value_count old) was.0.waiters.receives was.1.receives);
      waits = waits;
    }

    stored_more : (own : Buffered T) (value : T) (queue : List ℕ) → Stores old.own value own →
        length own.buffer.items + length queue ≡ suc (length old.own.buffer.items + length queue)
    stored_more own value queue stores =
        let many : length own.buffer.items ≡ length (old.own.buffer.items ++ value ∷ []) =
        ap (λ (o : Buffered T). length o.buffer.items) stores.4 in
        let one : length (old.own.buffer.items ++ value ∷ [])
        ≡ length old.own.buffer.items + 1 = length-append old.own.buffer.items (value ∷ []) in
        omega (arith, many, one)

    stored_fits : (own : Buffered T) (value : T) → Stores old.own value own → Fits own.buffer
    stored_fits own value stores = subst (λ (o : Buffered T). Fits o.buffer) (sym stores.4) stores.2

    pub tries_send : (value : T) (answer : Result (Unit {0}) (TrySendError T)) → TriesSend old value answer new → Holds old →
        Goes NoEffect NoEffect
    tries_send value (Err (not_sent.Closed back)) did was = unchanged did.2 was
    tries_send value (Err (not_sent.Full back)) did was = unchanged did.3 was
    tries_send value (Err (not_sent.NoMemory back)) did was = unchanged did.2 was
    tries_send value (Ok done) did was =
        let own = did.2 in
        let step = did.4 in
        goes own tells_oldest step refl refl was
        (keeps_at own old.waiting.sends (pop_oldest Told old.waiting.receives) step.0 step.1.1 step.1.0.0
        (told_one_more own old.waiting.sends was was.0.owned (stored_fits own value did.3)
        (stored_more own value old.waiting.sends.queue did.3)
        (λ q now. absurd (both_ways _ (was.1.sends q now).1 did.1))))

    -- The oldest send completed, and the next value is gone.
    abbrev completed_side : Waiters (Option T) W
    completed_side = complete_oldest None old.waiting.sends

    taken_keeps : (next : T × Bounded T) (receiving : Waiters ReceiveKind W) → next_of old ≡ Some next → Holds old →
        ((n : ℕ) → value_count old ≡ suc n → Enough receiving n) →
        Keeps (record old.own { buffer = next.1 }) completed_side receiving
    taken_keeps next receiving took was enough =
        let side = old.waiting.sends in
        let ordered = was.0.waiters.sends.ordered in
        let left = left_over old.own old.own.buffer.items side.queue (option_flatten (asks_of_oldest side)) next refl was.0.buffer
        (fronts_of old was side.queue refl) took in
        let rest : length completed_side.queue ≡ length (drop 1 side.queue) = ap length (rest_of side.queue side refl) in
        let count = left.1 in
        record {
          owned = owned-completed side (sends_in old.waiting.out) ordered was.0.owned;
          buffer = left.0;
          told = enough (length next.1.items + length completed_side.queue) (omega (arith, count, rest));
          waits = λ q now.
              let before = completed_before side.queue side (sends_in old.waiting.out) ordered refl q now in
              let full = was.1.sends q before in (
                full.0,
                elim left.2 [
                  | inl empty ↦ absurd (none_registered is_send_phase side
                      (sends_in old.waiting.out) was.0.waiters.sends empty q before)
                  | inr same ↦ same ∙ full.1
                ],
              );
        }

    line_tries : (next : Option (T × Bounded T)) (is_open : Bool) (answer : Result T TryReceiveError) → next_of old ≡ next →
        TriesNext next is_open old answer new → Holds old → Goes NoEffect NoEffect
    line_tries None true answer is did was = unchanged did.1 was
    line_tries None false answer is did was = unchanged did.1 was
    line_tries (Some next) is_open answer is did was =
        let step = did.1 in
        let queue = old.waiting.sends.queue in
        subst (λ (e : WakerChange W). Goes e NoEffect) (completing_quiet T W queue)
        (goes (record old.own { buffer = next.1 }) (completes_oldest old) step tt (completing_allowed _ queue) was
        (keeps_at (record old.own { buffer = next.1 }) completed_side old.waiting.receives step.0
        (completes queue old.waiting.sends new.waiting.sends old.waiting.out new.waiting.out refl step.1.0) step.1.1
        (taken_keeps next old.waiting.receives is was
        (λ n count. enough_fewer old.waiting.receives n (value_count old) (omega (arith, count)) was.1.receives))))

    pub tries_receive : (answer : Result T TryReceiveError) → TriesReceive old answer new → Holds old → Goes NoEffect NoEffect
    tries_receive answer did was = line_tries (next_of old) old.own.is_open answer refl did was

    -- a told receive that is cancelled passes its notice on
    line_cancels : (phase : Option (Phase W)) (name : ℕ) → receive_phase old name ≡ phase → is_told phase ≡ false →
        TwoSidedStep old old.own (OnReceives (Removes name)) new → Holds old → Goes NoEffect (Leaves name)
    line_cancels phase name is off step was =
        let side = old.waiting.receives in
        let becomes = becomes-forgotten side name in
        goes old.own (OnReceives (Removes name)) step refl tt was
        (keeps_at old.own old.waiting.sends (without_future side name) step.0 step.1.1 step.1.0.1.0
        (receives_alone (without_future side name) name None (keeps_of was) becomes (ap is_told is ∙ off)
        (not_joined side (without_future side name) name None becomes refl)))

    cancels_as : (phase : Option (Phase W)) (name : ℕ) → receive_phase old name ≡ phase →
        CancelsReceiveAs phase old name new → Holds old →
        Goes NoEffect (Leaves name)
    cancels_as (Some Told) name is step was =
        let side = old.waiting.receives in
        goes old.own (Then (OnReceives (Removes name)) tells_oldest) step (refl, refl) (tt, λ m did2. refl, refl, refl) was
        (keeps_at old.own old.waiting.sends (pop_oldest Told (without_future side name)) step.0 (step.1.2.1 ∙ step.1.1.1)
        (step.1.2.0.0 ∙ ap (pop_oldest Told) step.1.1.0.1.0) (record {
          owned = was.0.owned;
          buffer = was.0.buffer;
          told = passed_on side (without_pair name (receives_in old.waiting.out)) name (value_count old)
              (sound-forgotten is_receive_phase side (receives_in old.waiting.out) name refl was.0.waiters.receives)
              was.1.receives;
          waits = was.1.sends;
        }))
    cancels_as phase name is step was = line_cancels phase name is refl step was

    pub cancels_receive : (name : ℕ) → CancelsReceive old name new → Holds old → Goes NoEffect (Leaves name)
    cancels_receive name did was = cancels_as (receive_phase old name) name refl did was

  module _ (old new : ChannelMachine T W) (name : ℕ) (waker : W) where
    -- A poll is a line, keeps what held, and its receive, or send, still lives; a receive is of the kind that it was.
    abbrev pub Receives : Poll (Option T) → Type 0
    Receives answer = Goes old new NoEffect (poll_change name waker answer)
        × ((is_some (receive_phase new name) ≡ true) × (kind_of new name ≡ kind_of old name))

    abbrev pub Sends : Poll (Result (Unit {0}) (SendFault T)) → Type 0
    Sends answer = Goes old new (sent_change name waker answer) NoEffect × (is_some (send_phase new name) ≡ true)

    -- nothing is there, so nobody need be told
    nobody_owed : (receiving : Waiters ReceiveKind W) → next_of old ≡ None → Holds old → Enough receiving (value_count old)
    nobody_owed receiving none was =
        let zero = nothing_left old.own.buffer old.own.buffer.items old.waiting.sends.queue (option_flatten
        (asks_of_oldest old.waiting.sends))
        (fronts_of old was old.waiting.sends.queue refl) none in
        enough_fewer receiving (value_count old) 0 (omega (arith, zero)) (λ q now. none_told receiving)

    quiet_keeps : (receiving : Waiters ReceiveKind W) → next_of old ≡ None → Holds old → Keeps old.own old.waiting.sends receiving
    quiet_keeps receiving none was =
        record { owned = was.0.owned; buffer = was.0.buffer; told = nobody_owed receiving none was; waits = was.1.sends }

    lives_received : (receiving : Waiters ReceiveKind W) (phase : Phase W) → new.waiting.receives ≡ receiving →
        phase_of receiving name ≡ Some phase → asks_of receiving name ≡ kind_of old name →
        (is_some (receive_phase new name) ≡ true) × (kind_of new name ≡ kind_of old name)
    lives_received receiving phase is here asks = (
      ap (λ (s : Waiters ReceiveKind W). is_some (phase_of s name)) is ∙ ap is_some here,
      ap (λ (s : Waiters ReceiveKind W). asks_of s name) is ∙ asks,
    )

    -- a receive that lived has this phase now
    lives_with : (phase : Phase W) (queue : List ℕ) →
        new.waiting.receives ≡ record { live = with_phase old.waiting.receives.live name phase; queue = queue } →
        may_be_named (receive_phase old name) ≡ true → (is_some (receive_phase new name) ≡ true) × (kind_of new name ≡ kind_of old name)
    lives_with phase queue is lived =
        let side = old.waiting.receives in
        let p = some_phase (receive_phase old name) lived in
        lives_received (record { live = with_phase side.live name phase; queue = queue }) phase is
        (becomes-with_phase side name phase queue (lives_as side name p.0 p.1)).here (asks-with_phase side.live name phase name)

    takes_next : (next : Option (T × Bounded T)) (is_open : Bool) (answer : Poll (Option T)) → next_of old ≡ next →
        TakesNext next is_open old name waker answer new → Holds old → Receives answer
    takes_next (Some next) is_open answer is did was =
        let step = did.1 in
        let mid = step.1.0 in
        let kind = kind_of old name in
        let queue = old.waiting.sends.queue in
        let given = given_becomes kind old.waiting.receives mid.receives name old.waiting.out mid.out step.1.1.0 in
        let received : new.waiting.receives ≡ mid.receives = step.1.2.1 in
        let sent : new.waiting.sends ≡ completed_side old new =
        completes queue mid.sends new.waiting.sends mid.out new.waiting.out (ap (λ (s : Waiters
        (Option T) W). s.queue) step.1.1.1) step.1.2.0
        ∙ ap (λ (s : Waiters (Option T) W). complete_first None s queue) step.1.1.1 in
        subst Receives (sym did.0) (
          subst (λ (e : WakerChange W). Goes old new NoEffect e) (given_leaves kind name)
              (goes old new (record old.own { buffer = next.1 }) (Then (OnReceives (is_given kind name))
              (completes_oldest old)) step (given_keeps W kind name, tt)
              (given_allowed _ kind name, λ m did2. completing_allowed _ queue, completing_quiet T W queue, refl) was
              (keeps_at old new (record old.own { buffer = next.1 }) (completed_side old new) mid.receives step.0 sent received
              (taken_keeps old new next mid.receives is was (λ n count. enough_but old.waiting.receives mid.receives name n
              (Some given.0) given.2 given.1
              (λ q now. subst (AreTold old.waiting.receives) count (was.1.receives q now)))))),
          lives_received mid.receives given.0 received given.2.here given.3,
        )
    takes_next None true answer is did was =
        let step = did.1 in
        let joined = registered old.waiting.receives name waker in
        subst Receives (sym did.0) (
          goes old new old.own (OnReceives (Registers name waker)) step refl tt was
              (keeps_at old new old.own old.waiting.sends joined step.0 step.1.1 step.1.0.1.0 (quiet_keeps joined is was)),
          lives_with (Registered waker) joined.queue step.1.0.1.0 step.1.0.0,
        )
    takes_next None false answer is did was =
        let step = did.1 in
        let side = ended old.waiting.receives name in
        subst Receives (sym did.0) (
          goes old new old.own (OnReceives (Ends name)) step refl tt was
              (keeps_at old new old.own old.waiting.sends side step.0 step.1.1 step.1.0.1.0 (quiet_keeps side is was)),
          lives_with Ended side.queue step.1.0.1.0 step.1.0.0,
        )

    receives_as : (phase : Option (Phase W)) (answer : Poll (Option T)) → receive_phase old name ≡ phase →
        ReceivesAs phase old name waker answer new → Holds old → Receives answer
    receives_as (Some Fresh) answer is did was = takes_next (next_of old) old.own.is_open answer refl did was
    receives_as (Some Told) answer is did was = takes_next (next_of old) old.own.is_open answer refl did was
    receives_as (Some (Registered before)) answer is did was =
        let step = did.1 in
        let side = old.waiting.receives in
        let becomes = becomes-with_phase side name (Registered waker) side.queue (live_if_registered side name step.1.0.0) in
        subst Receives (sym did.0) (
          goes old new old.own (OnReceives (KeepsWaiting name waker)) step refl tt was
              (keeps_at old new old.own old.waiting.sends (stays side name waker) step.0 step.1.1 step.1.0.1.0
              (receives_alone old new (stays side name waker) name (Some (Registered waker)) (keeps_of old new was) becomes
              (registered_untold (receive_phase old name) step.1.0.0)
              (joined_before side (stays side name waker) name (Some (Registered waker)) becomes step.1.0.0))),
          lives_received (stays side name waker) (Registered waker) step.1.0.1.0 becomes.here
              (asks-with_phase side.live name (Registered waker) name),
        )
    receives_as phase answer is did was = absurd did

    pub polls_receive : (answer : Poll (Option T)) → PollsReceive old name waker answer new → Holds old → Receives answer
    polls_receive answer did was = receives_as (receive_phase old name) answer refl did was

    -- A poll of a stream is like that of a receive; one that has ended ends again.
    streams_as : (phase : Option (Phase W)) (answer : Poll (Option T)) → receive_phase old name ≡ phase →
        StreamsAs phase old name waker answer new → Holds old → Receives answer
    streams_as (Some Ended) answer is did was =
        let step = did.1 in
        let side = old.waiting.receives in
        let becomes = becomes-with_phase side name Ended side.queue (lives_as side name Ended is) in
        subst Receives (sym did.0) (
          goes old new old.own (OnReceives (Ends name)) step refl tt was
              (keeps_at old new old.own old.waiting.sends (ended side name) step.0 step.1.1 step.1.0.1.0
              (receives_alone old new (ended side name) name (Some Ended) (keeps_of old new was) becomes (ap is_told is)
              (not_joined side (ended side name) name (Some Ended) becomes refl))),
          lives_received (ended side name) Ended step.1.0.1.0 becomes.here (asks-with_phase side.live name Ended name),
        )
    streams_as phase answer is did was = receives_as phase answer is did was

    pub polls_next : (answer : Poll (Option T)) → PollsNext old name waker answer new → Holds old → Receives answer
    polls_next answer did was = streams_as (receive_phase old name) answer refl did was

    can_still : (kind : Option ReceiveKind) (before after : Option (Phase W)) → can_stream kind before ≡ true →
        is_some after ≡ true →
        can_stream kind after ≡ true
    can_still (Some Stream) before after can lives = lives
    can_still kind before after can lives = absurd (both_ways false refl can)

    pub still_streams : can_stream (kind_of old name) (receive_phase old name) ≡ true → (answer : Poll (Option T)) →
        Receives answer →
        can_stream (kind_of new name) (receive_phase new name) ≡ true
    still_streams can answer now = ap (λ kind. can_stream kind (receive_phase new name)) now.1.1
        ∙ can_still (kind_of old name) (receive_phase old name) (receive_phase new name) can now.1.0

    abbrev finished_side : Waiters (Option T) W
    finished_side = exchange (ended old.waiting.sends name) name None

    finished_becomes : (before : Phase W) → send_phase old name ≡ Some before →
        Becomes old.waiting.sends finished_side name (Some Ended)
    finished_becomes before is =
        let side = old.waiting.sends in
        let becomes = becomes-with_phase side name Ended side.queue (lives_as side name before is) in
        let live = (ended side name).live in
        record {
          here = phase-with_asks live name None name ∙ becomes.here;
          others = λ q ne. phase-with_asks live name None q ∙ becomes.others q ne;
        }

    lives_sent : (sending : Waiters (Option T) W) (phase : Phase W) → new.waiting.sends ≡ sending →
        phase_of sending name ≡ Some phase → is_some (send_phase new name) ≡ true
    lives_sent sending phase is here = ap (λ (s : Waiters (Option T) W). is_some (phase_of s name)) is ∙ ap is_some here

    fresh_sends : (is_open room : Bool) (asks : Option T) (answer : Poll (Result (Unit {0}) (SendFault T))) →
        send_phase old name ≡ Some Fresh →
        old.own.is_open ≡ is_open → has_room old.own ≡ room → FreshSends is_open room asks old name waker answer new →
        Holds old → Sends answer
    fresh_sends is_open room None answer fresh flag has did was = absurd did
    fresh_sends false room (Some value) answer fresh flag has did was =
        let step = did.1 in
        let did2 = step.1.0 in
        let becomes = finished_becomes Fresh fresh in
        let sent : new.waiting.sends ≡ finished_side =
        did2.3.1.0 ∙ ap (λ (s : Waiters (Option T) W). exchange s name None) did2.2.1.0 in
        subst Sends (sym did.0) (
          goes old new old.own (OnSends (finishes name)) step tt (tt, λ m d. tt, refl) was
              (keeps_at old new old.own finished_side old.waiting.receives step.0 sent step.1.1
              (sends_alone old new finished_side (keeps_of old new was)
              (owned-finished old.waiting.sends name Fresh fresh was.0.owned) (omega arith)
              (not_joined old.waiting.sends finished_side name (Some Ended) becomes refl))),
          lives_sent finished_side Ended sent becomes.here,
        )
    fresh_sends true true (Some value) answer fresh flag has did was =
        let own = did.1 in
        let step = did.3 in
        let did2 = step.1.1.0 in
        let becomes = finished_becomes Fresh fresh in
        let sent : new.waiting.sends ≡ finished_side =
        step.1.2.1 ∙ did2.3.1.0 ∙ ap (λ (s : Waiters (Option T) W). exchange s name None) did2.2.1.0 in
        subst Sends (sym did.0) (
          goes old new own (Then (OnSends (finishes name)) tells_oldest) step (tt, refl)
              ((tt, λ m d. tt, refl), λ m d. refl, refl, refl) was
              (keeps_at old new own finished_side (pop_oldest Told old.waiting.receives) step.0 sent
              (step.1.2.0.0 ∙ ap (pop_oldest Told) step.1.1.1)
              (told_one_more old new own finished_side was (owned-finished old.waiting.sends name Fresh fresh was.0.owned)
              (stored_fits old new own value did.2) (stored_more old new own value old.waiting.sends.queue did.2)
              (λ q now. absurd (both_ways _ (was.1.sends q (not_joined old.waiting.sends finished_side name
              (Some Ended) becomes refl q now)).1 has)))),
          lives_sent finished_side Ended sent becomes.here,
        )
    fresh_sends true false (Some value) answer fresh flag has did was =
        let step = did.1 in
        let side = old.waiting.sends in
        let joined = registered side name waker in
        let becomes = becomes-with_phase side name (Registered waker) joined.queue (lives_as side name Fresh fresh) in
        let longer : length (side.queue ++ name ∷ []) ≡ length side.queue + 1 = length-append side.queue (name ∷ []) in
        let sent : new.waiting.sends ≡ joined = step.1.2.1 ∙ step.1.1.0.1.0 in
        subst Sends (sym did.0) (
          goes old new old.own (Then (OnSends (Registers name waker)) tells_oldest) step (tt, refl) (tt, λ m d. refl, refl, refl) was
              (keeps_at old new old.own joined (pop_oldest Told old.waiting.receives) step.0 sent
              (step.1.2.0.0 ∙ ap (pop_oldest Told) step.1.1.1)
              (told_one_more old new old.own joined was
              (owned-with_phase side name Fresh (Registered waker) joined.queue fresh refl was.0.owned) was.0.buffer (omega
              (arith, longer))
              (λ q now. elim (cases_eq q name) [
                | inl same ↦ (flag, has)
                | inr ne ↦ was.1.sends q (ap is_registered (sym (becomes.others q ne)) ∙ now)
              ]))),
          lives_sent joined (Registered waker) sent becomes.here,
        )

    sends_as : (phase : Option (Phase W)) (answer : Poll (Result (Unit {0}) (SendFault T))) → send_phase old name ≡ phase →
        SendsAs phase old name waker answer new → Holds old → Sends answer
    sends_as (Some Fresh) answer is did was = fresh_sends old.own.is_open (has_room old.own)
        (value_of old name) answer is refl refl did was
    sends_as (Some (Registered before)) answer is did was =
        let step = did.1 in
        let side = old.waiting.sends in
        let becomes = becomes-with_phase side name (Registered waker) side.queue (lives_as side name (Registered before) is) in
        subst Sends (sym did.0) (
          goes old new old.own (OnSends (KeepsWaiting name waker)) step tt tt was
              (keeps_at old new old.own (stays side name waker) old.waiting.receives step.0 step.1.0.1.0 step.1.1
              (sends_alone old new (stays side name waker) (keeps_of old new was)
              (owned-with_phase side name (Registered before) (Registered waker) side.queue is refl was.0.owned) (omega arith)
              (joined_before side (stays side name waker) name (Some (Registered waker)) becomes step.1.0.0))),
          lives_sent (stays side name waker) (Registered waker) step.1.0.1.0 becomes.here,
        )
    sends_as (Some Complete) answer is did was =
        let step = did.1 in
        let side = old.waiting.sends in
        let becomes = becomes-with_phase side name Ended side.queue (lives_as side name Complete is) in
        subst Sends (sym did.0) (
          goes old new old.own (OnSends (Ends name)) step tt tt was
              (keeps_at old new old.own (ended side name) old.waiting.receives step.0 step.1.0.1.0 step.1.1
              (sends_alone old new (ended side name) (keeps_of old new was)
              (owned-with_phase side name Complete Ended side.queue is refl was.0.owned) (omega arith)
              (not_joined side (ended side name) name (Some Ended) becomes refl))),
          lives_sent (ended side name) Ended step.1.0.1.0 becomes.here,
        )
    sends_as phase answer is did was = absurd did

    pub polls_send : (answer : Poll (Result (Unit {0}) (SendFault T))) → PollsSend old name waker answer new → Holds old →
        Sends answer
    polls_send (Ready (Err (send_fault.Fault fault))) did was =
        (unchanged old new did.3 was, ap (λ (m : ChannelMachine T W). is_some (send_phase m name)) did.3 ∙ ap is_some did.1)
    polls_send answer did was = sends_as (send_phase old name) answer refl did was

module _ {T W : Type 0} where
  -- a channel that nobody uses yet
  pub opened_holds : (buffer : Bounded T) → buffer.items ≡ [] → Fits buffer → Holds (opened {T = T} {W = W} buffer)
  opened_holds buffer empty fits = let own : Buffered T = record { is_open = true; buffer = buffer } in (
    record { waiters = two_sided_initial rules own; owned = λ q. nobody_owns q; buffer = fits },
    record {
      receives = λ q now. absurd (both_ways _ (ap (λ o. is_registered (phase_in o)) (map.get-empty nat_cmp q)) now);
      sends = λ q now. absurd (both_ways _ (ap (λ o. is_registered (phase_in o)) (map.get-empty nat_cmp q)) now);
    },
  )
    where
      nobody_owns : (q : ℕ) → is_some (value_of (opened {T = T} {W = W} buffer) q)
          ≡ owns_value (send_phase (opened {T = T} {W = W} buffer) q)
      nobody_owns q = subst OwnedAt (sym (map.get-empty nat_cmp q)) refl

  pub made_holds : (made : ChannelMachine T W) (buffer : Bounded T) → made ≡ opened buffer → buffer.items ≡ [] →
      Fits buffer → Holds made
  made_holds made buffer is empty fits = subst Holds (sym is) (opened_holds buffer empty fits)

  pub made_fits : (made : ChannelMachine T W) (buffer : Bounded T) → made ≡ opened buffer → Fits made.own.buffer → Fits buffer
  made_fits made buffer is fits = subst (λ (m : ChannelMachine T W). Fits m.own.buffer) is fits

  -- a send, or a receive, that was just made may be polled
  pub send_pollable : (old new : ChannelMachine T W) (value : T) (name : ℕ) → MakesSend old value name new →
      can_send (send_phase new name) ≡ true
  send_pollable old new value name did = ap (λ (s : Waiters (Option T) W). can_send (phase_of s name)) did.1.0.1.0
      ∙ ap can_send (becomes-made old.waiting.sends name (Some value)).here

  pub kind_made : (old new : ChannelMachine T W) (kind : ReceiveKind) (name : ℕ) → MakesReceive old kind name new →
      kind_of new name ≡ Some kind
  kind_made old new kind name did = ap (λ (s : Waiters ReceiveKind W). asks_of s name) did.1.0.1.0
      ∙ ap asks_in (get-insert_same old.waiting.receives.live name _)

  pub phase_made : (old new : ChannelMachine T W) (kind : ReceiveKind) (name : ℕ) → MakesReceive old kind name new →
      receive_phase new name ≡ Some Fresh
  phase_made old new kind name did = ap (λ (s : Waiters ReceiveKind W). phase_of s name) did.1.0.1.0
      ∙ (becomes-made old.waiting.receives name kind).here
