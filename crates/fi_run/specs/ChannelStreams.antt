-- How a channel's streams stand: what gave an item is fresh again, and what ended stays so.
use Rattle.std.specs.Prelude.{◌≡◌, ◌≢◌, ℕ, ◌==◌, Bool, true, false, if◌then◌else◌, Option, Some, None, Ok, Err}
use Rattle.std.specs.Prelude.{List, [], ◌∷◌, refl}
use Rattle.std.proofs.Common.{sym, ◌∙◌, ap, subst, inl, inr}
use Rattle.std.proofs.lemmas.Bool.{both_ways, cases_eq, eq-eqb, ne_eqb}
use Rattle.futures.specs.declared.task.Poll as polls
use Rattle.futures.specs.declared.task.Poll.TheVariants as polled
use Rattle.fi_parts.specs.declared.errors.CloseStatus.{CloseStatus}
use Rattle.fi_parts.specs.declared.errors.CloseStatus.TheVariants.{NewlyClosed, AlreadyClosed}
use Rattle.fi_parts.specs.declared.errors.Fault.{Fault}
use Rattle.fi_parts.specs.declared.errors.Fault.TheVariants.{NoMemory, NoSlot, Closed, Full}
use Rattle.fi_parts.specs.declared.phase.Phase.{Phase}
use Rattle.fi_parts.specs.declared.phase.Phase.TheVariants.{Fresh, Registered, Told, Complete, Ended}
use Rattle.fi_parts.specs.Buffer.{Bounded}
use Rattle.fi_parts.specs.Oldest.{pop_first, pop_oldest}
use Rattle.fi_parts.specs.Pairs.{without_pair}
use Rattle.fi_parts.specs.Waiting.{Waiters, phase_of, asks_of, asks_in, is_registered, insert_fresh, registered, stays, ended}
use Rattle.fi_parts.specs.Waiting.{without_future, clear_queue}
use Rattle.fi_parts.specs.Waiting.{with_phase, IsOrdered, AreSound}
use Rattle.fi_parts.proofs.Effects.{some_phase}
use Rattle.fi_parts.proofs.FiniteMaps.{get-insert_other, get-remove_other}
use Rattle.fi_parts.proofs.PairsWithin.{if_true, if_false}
use Rattle.fi_parts.proofs.Waiting.{noticed_phase, becomes-made, becomes-with_phase, becomes-forgotten, phase-emptied, lives_as}
use Rattle.fi_parts.proofs.Waiting.{asks-with_phase, asks-with_phases, first_registered, live_if_registered}
use Rattle.fi_parts.proofs.Sound.{sound-forgotten}
use Rattle.fi_parts.specs.declared.errors.Slot.{Slot}
use Rattle.fi_channels.specs.declared.channel.errors.SendFault.TheVariants as send_fault
use Rattle.fi_channels.specs.declared.channel.fields.ReceiveKind.{ReceiveKind}
use Rattle.fi_channels.specs.declared.channel.fields.ReceiveKind.TheVariants as kinds
use Rattle.fi_channels.specs.declared.channel.two_sides.Waiter.{Waiter}
use Rattle.fi_channels.specs.declared.channel.two_sides.Waiter.TheVariants as sides
use Rattle.fi_channels.specs.Channel.{SendsAs, FreshSends, TakesNext, ReceivesAs, StreamsAs, CancelsReceiveAs}
use Rattle.fi_channels.specs.Channel.{TriesNext, ClosesAt}
use Rattle.fi_channels.specs.ChannelWords.{ChannelMachine, is_receive_phase, can_receive, can_stream, receive_phase}
use Rattle.fi_channels.specs.ChannelWords.{kind_of, next_of, is_given}
use Rattle.fi_channels.specs.ChannelFields.{ChannelWaiters}
use Rattle.fi_channels.specs.TwoSidedEffects.{TakesOn}
use Rattle.fi_channels.specs.Waiter.{same_waiter, receives_in}
use Rattle.fi_channels.proofs.ChannelLaws as laws
use Rattle.fi_channels.proofs.ChannelLaws.{Holds}
use Rattle.fi_run.specs.declared.answer.Answer.{Answer}
use Rattle.fi_run.specs.declared.answer.Answer.TheVariants.{Made, Pending, Item, Nothing, End, Done, Newly, Already, Woken}
use Rattle.fi_run.specs.declared.answer.Answer.TheVariants.{Back, Refused}
use Rattle.fi_run.specs.declared.channel.ChannelCall.{ChannelCall}
use Rattle.fi_run.specs.declared.channel.ChannelCall.TheVariants.{Send, Receive, Stream, PollSend, PollReceive, PollNext}
use Rattle.fi_run.specs.declared.channel.ChannelCall.TheVariants.{CancelSend, CancelReceive, TrySend, TryReceive, Close}
use Rattle.fi_run.specs.declared.channel.ChannelCall.TheVariants.{NextWake}
use Rattle.fi_run.specs.Channel.{Step}
use Rattle.fi_run.specs.ChannelHistory.{LastNext, next_at_first, StandsAfter, next_step, EndsAgain}
use Rattle.fi_run.specs.ChannelHistory.LastNext.{GaveItem, GaveEnd, GaveNone}

pending_not : {T : Type 0} → ◌≡◌ {A = polls.Poll (Option T)} polled.Pending (polled.Ready None) → ⊥
pending_not e = cc

item_not : {T : Type 0} (value : T) → ◌≡◌ {A = polls.Poll (Option T)} (polled.Ready (Some value)) (polled.Ready None) → ⊥
item_not value e = cc

module _ {W : Type 0} where
  first_stands : (kind : Option ReceiveKind) (phase : Option (Phase W)) → StandsAfter (next_at_first kind phase) kind phase
  first_stands None phase = tt
  first_stands (Some kinds.Single) phase = tt
  first_stands (Some kinds.Stream) None = tt
  first_stands (Some kinds.Stream) (Some Fresh) = tt
  first_stands (Some kinds.Stream) (Some (Registered waker)) = tt
  first_stands (Some kinds.Stream) (Some Told) = tt
  first_stands (Some kinds.Stream) (Some Complete) = tt
  first_stands (Some kinds.Stream) (Some Ended) = (refl, refl)

  -- who is neither registered nor told of a close stands as before
  renewed_same : (phase : Option (Phase W)) → is_registered phase ≡ false → noticed_phase Fresh phase ≡ phase
  renewed_same None off = refl
  renewed_same (Some Fresh) off = refl
  renewed_same (Some (Registered waker)) off = absurd (both_ways true off refl)
  renewed_same (Some Told) off = refl
  renewed_same (Some Complete) off = refl
  renewed_same (Some Ended) off = refl

  single_only : (kind : Option ReceiveKind) (phase : Option (Phase W)) → can_receive kind phase ≡ true →
      kind ≡ Some kinds.Stream → ⊥
  single_only kind phase can is = both_ways (can_receive kind phase) (ap (λ k. can_receive k phase) is) can

  stream_only : (kind : Option ReceiveKind) (phase : Option (Phase W)) → can_stream kind phase ≡ true → kind ≡ Some kinds.Stream
  stream_only None phase can = absurd (both_ways false refl can)
  stream_only (Some kinds.Single) phase can = absurd (both_ways false refl can)
  stream_only (Some kinds.Stream) phase can = refl

module _ {W : Type 0} (old new : Waiters ReceiveKind W) where
  -- this receive stands as before, and is of the same kind
  abbrev SameAt : ℕ → Type 0
  SameAt q = (phase_of new q ≡ phase_of old q) × (asks_of new q ≡ asks_of old q)

  -- Whoever is not registered stays, but for this name.
  abbrev QuietBut : ℕ → Type 0
  QuietBut name = (q : ℕ) → q ≢ name → is_registered (phase_of old q) ≡ false → SameAt q

  abbrev Quiet : Type 0
  Quiet = (q : ℕ) → is_registered (phase_of old q) ≡ false → SameAt q

module _ {W : Type 0} where
  -- The oldest was told.
  quiet_told : (side : Waiters ReceiveKind W) (out : List (ℕ × W)) → IsOrdered side out → Quiet side (pop_oldest Told side)
  quiet_told side out ordered = each side.queue refl
    where
      each : (queue : List ℕ) → side.queue ≡ queue → Quiet side (pop_first Told side queue)
      each [] is q off = (refl, refl)
      each (n ∷ others) is q off =
          let waits = first_registered side out n others ordered is in
          let ne : q ≢ n = λ e. both_ways (is_registered (phase_of side n))
          (ap (λ k. is_registered (phase_of side k)) (sym e) ∙ off) waits in (
            (becomes-with_phase side n Told others (live_if_registered side n waits)).others q ne,
            asks-with_phase side.live n Told q,
          )

  -- All that waited are fresh.
  quiet_renewed : (side : Waiters ReceiveKind W) (out : List (ℕ × W)) → IsOrdered side out → Quiet side (clear_queue Fresh side)
  quiet_renewed side out ordered q off = (
    phase-emptied Fresh side out q ordered ∙ renewed_same (phase_of side q) off,
    asks-with_phases Fresh side.queue side.live q,
  )

  -- One has another phase.
  quiet_phase : (side : Waiters ReceiveKind W) (name : ℕ) (phase before : Phase W) (queue : List ℕ) →
      phase_of side name ≡ Some before →
      QuietBut side (record { live = with_phase side.live name phase; queue = queue }) name
  quiet_phase side name phase before queue lives q ne off = (
    (becomes-with_phase side name phase queue (lives_as side name before lives)).others q ne,
    asks-with_phase side.live name phase q,
  )

  quiet_made : (side : Waiters ReceiveKind W) (name : ℕ) (kind : ReceiveKind) → QuietBut side (insert_fresh side name kind) name
  quiet_made side name kind q ne off =
      ((becomes-made side name kind).others q ne, ap asks_in (get-insert_other side.live name _ q ne))

  quiet_forgotten : (side : Waiters ReceiveKind W) (name : ℕ) → QuietBut side (without_future side name) name
  quiet_forgotten side name q ne off =
      ((becomes-forgotten side name).others q ne, ap asks_in (get-remove_other side.live name q ne))

  -- One is gone, and then the oldest was told.
  quiet_passed : (side : Waiters ReceiveKind W) (out : List (ℕ × W)) (name : ℕ) → AreSound is_receive_phase side out →
      QuietBut side (pop_oldest Told (without_future side name)) name
  quiet_passed side out name sound q ne off =
      let gone = quiet_forgotten side name q ne off in
      let told = quiet_told (without_future side name) (without_pair name out)
      (sound-forgotten is_receive_phase side out name refl sound).ordered q
      (ap is_registered gone.0 ∙ off) in
      (told.0 ∙ gone.0, told.1 ∙ gone.1)

module _ {T W : Type 0} (old new : ChannelMachine T W) where
  abbrev before : Waiters ReceiveKind W
  before = old.waiting.receives

  abbrev after : Waiters ReceiveKind W
  after = new.waiting.receives

  abbrev Stands : LastNext → ℕ → Type 0
  Stands last name = StandsAfter last (kind_of old name) (receive_phase old name)

  abbrev StandsNow : LastNext → ℕ → Type 0
  StandsNow last name = StandsAfter last (kind_of new name) (receive_phase new name)

  -- who gave something is not registered
  quiet_stands : (last : LastNext) (name : ℕ) → (is_registered (receive_phase old name) ≡ false → SameAt before after name) →
      Stands last name → StandsNow last name
  quiet_stands GaveNone name same was = tt
  quiet_stands GaveItem name same was = let is = same (ap is_registered was.1) in (is.1 ∙ was.0, is.0 ∙ was.1)
  quiet_stands GaveEnd name same was = let is = same (ap is_registered was.1) in (is.1 ∙ was.0, is.0 ∙ was.1)

  to_quiet : (side : Waiters ReceiveKind W) → after ≡ side → Quiet before side → Quiet before after
  to_quiet side is quiet = subst (λ (s : Waiters ReceiveKind W). Quiet before s) (sym is) quiet

  to_quiet_but : (side : Waiters ReceiveKind W) (name : ℕ) → after ≡ side → QuietBut before side name → QuietBut before after name
  to_quiet_but side name is quiet = subst (λ (s : Waiters ReceiveKind W). QuietBut before s name) (sym is) quiet

  receives_same : after ≡ before → Quiet before after
  receives_same is = to_quiet before is (λ q off. (refl, refl))

  module _ (was : Holds old) where
    abbrev pairs : List (ℕ × W)
    pairs = receives_in old.waiting.out

    ordered : IsOrdered before pairs
    ordered = was.0.waiters.receives.ordered

    told : after ≡ pop_oldest Told before → Quiet before after
    told is = to_quiet (pop_oldest Told before) is (quiet_told before pairs ordered)

    quiet_fresh_sends : (name : ℕ) (waker : W) (is_open room : Bool) (asks : Option T) (answer : polls.Poll _) →
        FreshSends is_open room asks old name waker answer new → Quiet before after
    quiet_fresh_sends name waker is_open room None answer did = absurd did
    quiet_fresh_sends name waker false room (Some value) answer did = receives_same did.1.1.1
    quiet_fresh_sends name waker true true (Some value) answer did = told (did.3.1.2.0.0 ∙ ap (pop_oldest Told) did.3.1.1.1)
    quiet_fresh_sends name waker true false (Some value) answer did = told (did.1.1.2.0.0 ∙ ap (pop_oldest Told) did.1.1.1.1)

    quiet_sends : (name : ℕ) (waker : W) (phase : Option (Phase W)) (answer : polls.Poll _) →
        SendsAs phase old name waker answer new →
        Quiet before after
    quiet_sends name waker (Some Fresh) answer did = quiet_fresh_sends name waker _ _ _ answer did
    quiet_sends name waker (Some (Registered older)) answer did = receives_same did.1.1.1
    quiet_sends name waker (Some Complete) answer did = receives_same did.1.1.1
    quiet_sends name waker phase answer did = absurd did

    -- a receive that was given an item
    given_at : (kind : Option ReceiveKind) (name : ℕ) (side : Waiters ReceiveKind W) (out rest : List (Waiter × W)) →
        TakesOn sides.Receive same_waiter (is_given kind name) before out side rest →
        QuietBut before side name × (kind ≡ Some kinds.Stream → phase_of side name ≡ Some Fresh)
    given_at None name side out rest did =
        let p = some_phase (phase_of before name) did.0 in (
          subst (λ (s : Waiters ReceiveKind W). QuietBut before s name) (sym did.1.0)
              (quiet_phase before name Ended p.0 before.queue p.1),
          λ is. absurd (cc is),
        )
    given_at (Some kinds.Single) name side out rest did =
        let p = some_phase (phase_of before name) did.0 in (
          subst (λ (s : Waiters ReceiveKind W). QuietBut before s name) (sym did.1.0)
              (quiet_phase before name Ended p.0 before.queue p.1),
          λ is. absurd (cc is),
        )
    given_at (Some kinds.Stream) name side out rest did =
        let p = some_phase (phase_of before name) did.0 in (
          subst (λ (s : Waiters ReceiveKind W). QuietBut before s name) (sym did.1.0)
              (quiet_phase before name Fresh p.0 before.queue p.1),
          λ is. ap (λ (s : Waiters ReceiveKind W). phase_of s name) did.1.0
              ∙ (becomes-with_phase before name Fresh before.queue (lives_as before name p.0 p.1)).here,
        )

    -- what a poll of a stream with this answer leaves
    abbrev Gives : ℕ → polls.Poll (Option T) → Type 0
    Gives name (polled.Ready (Some value)) = receive_phase new name ≡ Some Fresh
    Gives name (polled.Ready None) = receive_phase new name ≡ Some Ended
    Gives name polled.Pending = Unit {0}

    abbrev Polled : ℕ → polls.Poll (Option T) → Type 0
    Polled name answer = QuietBut before after name × (kind_of old name ≡ Some kinds.Stream → Gives name answer)

    abbrev phase_now : ℕ → Waiters ReceiveKind W → Option (Phase W)
    phase_now name side = phase_of side name

    ends : (name : ℕ) (phase : Phase W) → receive_phase old name ≡ Some phase → after ≡ ended before name →
        Polled name (polled.Ready None)
    ends name phase lives is = (
      to_quiet_but (ended before name) name is (quiet_phase before name Ended phase before.queue lives),
      λ kind. ap (phase_now name) is ∙ (becomes-with_phase before name Ended before.queue
          (lives_as before name phase lives)).here,
    )

    polled_next : (name : ℕ) (waker : W) (next : Option (T × Bounded T)) (is_open : Bool) (answer : polls.Poll (Option T)) →
        TakesNext next is_open old name waker answer new → Polled name answer
    polled_next name waker (Some next) is_open answer did =
        let step = did.1 in
        let mid = step.1.0 in
        let given = given_at (kind_of old name) name mid.receives old.waiting.out mid.out step.1.1.0 in
        subst (Polled name) (sym did.0)
        (to_quiet_but mid.receives name step.1.2.1 given.0, λ is. ap (phase_now name) step.1.2.1 ∙ given.1 is)
    polled_next name waker None true answer did =
        let step = did.1 in
        let p = some_phase (receive_phase old name) step.1.0.0 in
        subst (Polled name) (sym did.0) (
          to_quiet_but (registered before name waker) name step.1.0.1.0
              (quiet_phase before name (Registered waker) p.0 (registered before name waker).queue p.1),
          λ is. tt,
        )
    polled_next name waker None false answer did =
        let step = did.1 in
        let p = some_phase (receive_phase old name) step.1.0.0 in
        subst (Polled name) (sym did.0) (ends name p.0 p.1 step.1.0.1.0)

    polled_as : (name : ℕ) (waker : W) (phase : Option (Phase W)) (answer : polls.Poll (Option T)) →
        receive_phase old name ≡ phase →
        ReceivesAs phase old name waker answer new → Polled name answer
    polled_as name waker (Some Fresh) answer is did = polled_next name waker (next_of old) old.own.is_open answer did
    polled_as name waker (Some Told) answer is did = polled_next name waker (next_of old) old.own.is_open answer did
    polled_as name waker (Some (Registered older)) answer is did =
        subst (Polled name) (sym did.0) (
          to_quiet_but (stays before name waker) name did.1.1.0.1.0
              (quiet_phase before name (Registered waker) (Registered older) before.queue is),
          λ kind. tt,
        )
    polled_as name waker phase answer is did = absurd did

    streamed_as : (name : ℕ) (waker : W) (phase : Option (Phase W)) (answer : polls.Poll (Option T)) →
        receive_phase old name ≡ phase →
        StreamsAs phase old name waker answer new → Polled name answer
    streamed_as name waker (Some Ended) answer is did = subst (Polled name) (sym did.0) (ends name Ended is did.1.1.0.1.0)
    streamed_as name waker None answer is did = absurd did
    streamed_as name waker (Some Fresh) answer is did = polled_as name waker (Some Fresh) answer is did
    streamed_as name waker (Some (Registered older)) answer is did = polled_as name waker
        (Some (Registered older)) answer is did
    streamed_as name waker (Some Told) answer is did = polled_as name waker (Some Told) answer is did
    streamed_as name waker (Some Complete) answer is did = absurd did

    quiet_tries : (next : Option (T × Bounded T)) (is_open : Bool) (value : T) → TriesNext next is_open old (Ok value) new →
        Quiet before after
    quiet_tries (Some next) is_open value did = receives_same did.1.1.1
    quiet_tries None true value did = absurd (cc did.0)
    quiet_tries None false value did = absurd (cc did.0)

    quiet_cancels : (name : ℕ) (phase : Option (Phase W)) → CancelsReceiveAs phase old name new → QuietBut before after name
    quiet_cancels name (Some Told) did =
        to_quiet_but (pop_oldest Told (without_future before name)) name (did.1.2.0.0 ∙ ap (pop_oldest Told) did.1.1.0.1.0)
        (quiet_passed before pairs name was.0.waiters.receives)
    quiet_cancels name None did = to_quiet_but (without_future before name) name did.1.0.1.0 (quiet_forgotten before name)
    quiet_cancels name (Some Fresh) did = to_quiet_but (without_future before name) name did.1.0.1.0 (quiet_forgotten before name)
    quiet_cancels name (Some (Registered older)) did = to_quiet_but (without_future before name) name did.1.0.1.0
        (quiet_forgotten before name)
    quiet_cancels name (Some Complete) did = to_quiet_but (without_future before name) name did.1.0.1.0 (quiet_forgotten before name)
    quiet_cancels name (Some Ended) did = to_quiet_but (without_future before name) name did.1.0.1.0 (quiet_forgotten before name)

    quiet_closes : (is_open : Bool) (status : CloseStatus) → ClosesAt is_open old status new → Quiet before after
    quiet_closes true status did = to_quiet (clear_queue Fresh before) (did.1.1.2.1 ∙ did.1.1.1.0.0)
        (quiet_renewed before pairs ordered)
    quiet_closes false status did = receives_same (ap (λ (m : ChannelMachine T W). m.waiting.receives) did.1)

    -- After a call that concerns this name the last poll gave nothing.
    but_stands : (name other : ℕ) (last given : LastNext) → QuietBut before after name → (StandsNow given name) →
        Stands last other →
        StandsNow (if name == other then given else last) other
    but_stands name other last given quiet now was = elim (cases_eq name other) [
      | inl same ↦ subst (λ (l : LastNext). StandsNow l other)
          (sym (if_true (name == other) given last (eq-eqb name other same)))
          (subst (StandsNow given) same now)
      | inr ne ↦ subst (λ (l : LastNext). StandsNow l other) (sym (if_false (name == other) given last (ne_eqb name other ne)))
          (quiet_stands last other (quiet other (λ e. ne (sym e))) was)
    ]

    -- a single receive gave nothing as a stream
    single_stands : (name other : ℕ) (last : LastNext) → can_receive (kind_of old name) (receive_phase old name) ≡ true →
        QuietBut before after name → Stands last other → StandsNow last other
    single_stands name other GaveNone can quiet was = tt
    single_stands name other GaveItem can quiet was = quiet_stands GaveItem other (quiet other (λ e.
        single_only (kind_of old name) (receive_phase old name) can (ap (kind_of old) (sym e) ∙ was.0))) was
    single_stands name other GaveEnd can quiet was = quiet_stands GaveEnd other (quiet other (λ e.
        single_only (kind_of old name) (receive_phase old name) can (ap (kind_of old) (sym e) ∙ was.0))) was

    all_stand : (last : LastNext) (other : ℕ) → Quiet before after → Stands last other → StandsNow last other
    all_stand last other quiet was = quiet_stands last other (quiet other) was

  -- How a stream of this name stands after a step.
  pub streams_stand : Holds old → (call : ChannelCall T W) (answer : Answer T W) → Step old call answer new →
      (last : LastNext) (name : ℕ) →
      StandsAfter last (kind_of old name) (receive_phase old name) →
      StandsAfter (next_step name call answer last) (kind_of new name) (receive_phase new name)
  streams_stand was call (Refused fault) did last name stood =
      all_stand was last name (receives_same (ap (λ (m : ChannelMachine T W). m.waiting.receives) did.1)) stood
  streams_stand was (Send value) (Made slot) did last name stood = all_stand was last name (receives_same did.1.1) stood
  streams_stand was (Send value) (Back given NoMemory) did last name stood =
      all_stand was last name (receives_same (ap (λ (m : ChannelMachine T W). m.waiting.receives) did.1)) stood
  streams_stand was Receive (Made slot) did last name stood =
      but_stands was slot.0 name last GaveNone (to_quiet_but (insert_fresh before slot.0 kinds.Single) slot.0 did.1.0.1.0
      (quiet_made before slot.0 kinds.Single)) tt stood
  streams_stand was Stream (Made slot) did last name stood =
      but_stands was slot.0 name last GaveNone (to_quiet_but (insert_fresh before slot.0 kinds.Stream) slot.0 did.1.0.1.0
      (quiet_made before slot.0 kinds.Stream)) tt stood
  streams_stand was (PollSend slot waker) Pending did last name stood =
      all_stand was last name (quiet_sends was slot.0 waker _ polled.Pending did) stood
  streams_stand was (PollSend slot waker) Done did last name stood =
      all_stand was last name (quiet_sends was slot.0 waker _ (polled.Ready (Ok tt)) did) stood
  streams_stand was (PollSend slot waker) (Back value Closed) did last name stood =
      all_stand was last name (quiet_sends was slot.0 waker _ (polled.Ready (Err (send_fault.Closed value))) did) stood
  streams_stand was (PollReceive slot waker) Pending did last name stood =
      single_stands was slot.0 name last did.0 (polled_as was slot.0 waker _ polled.Pending refl did.1).0 stood
  streams_stand was (PollReceive slot waker) (Item value) did last name stood =
      single_stands was slot.0 name last did.0 (polled_as was slot.0 waker _ (polled.Ready (Some value)) refl did.1).0 stood
  streams_stand was (PollReceive slot waker) Nothing did last name stood =
      single_stands was slot.0 name last did.0 (polled_as was slot.0 waker _ (polled.Ready None) refl did.1).0 stood
  streams_stand was (PollNext slot waker) Pending did last name stood =
      but_stands was slot.0 name last GaveNone (streamed_as was slot.0 waker _ polled.Pending refl did.1).0 tt stood
  streams_stand was (PollNext slot waker) (Item value) did last name stood =
      let given = streamed_as was slot.0 waker _ (polled.Ready (Some value)) refl did.1 in
      let kind = stream_only (kind_of old slot.0) (receive_phase old slot.0) did.0 in
      but_stands was slot.0 name last GaveItem given.0
      ((laws.polls_next old new slot.0 waker (polled.Ready (Some value)) did.1 was).1.1 ∙ kind, given.1 kind) stood
  streams_stand was (PollNext slot waker) End did last name stood =
      let given = streamed_as was slot.0 waker _ (polled.Ready None) refl did.1 in
      let kind = stream_only (kind_of old slot.0) (receive_phase old slot.0) did.0 in
      but_stands was slot.0 name last GaveEnd given.0
      ((laws.polls_next old new slot.0 waker (polled.Ready None) did.1 was).1.1 ∙ kind, given.1 kind) stood
  streams_stand was (CancelSend slot) (Item value) did last name stood = all_stand was last name (receives_same did.1.1.1) stood
  streams_stand was (CancelSend slot) Nothing did last name stood = all_stand was last name (receives_same did.1.1.1) stood
  streams_stand was (CancelReceive slot) Done did last name stood =
      but_stands was slot.0 name last GaveNone (quiet_cancels was slot.0 _ did) tt stood
  streams_stand was (TrySend value) Done did last name stood = all_stand was last name (told was did.4.1.0.0) stood
  streams_stand was (TrySend value) (Back given Closed) did last name stood =
      all_stand was last name (receives_same (ap (λ (m : ChannelMachine T W). m.waiting.receives) did.2)) stood
  streams_stand was (TrySend value) (Back given Full) did last name stood =
      all_stand was last name (receives_same (ap (λ (m : ChannelMachine T W). m.waiting.receives) did.3)) stood
  streams_stand was (TrySend value) (Back given NoMemory) did last name stood =
      all_stand was last name (receives_same (ap (λ (m : ChannelMachine T W). m.waiting.receives) did.2)) stood
  streams_stand was TryReceive (Item value) did last name stood =
      all_stand was last name (quiet_tries was (next_of old) old.own.is_open value did) stood
  streams_stand was Close Newly did last name stood = all_stand was last name
      (quiet_closes was old.own.is_open NewlyClosed did) stood
  streams_stand was Close Already did last name stood = all_stand was last name
      (quiet_closes was old.own.is_open AlreadyClosed did) stood
  streams_stand was NextWake (Woken waker) did last name stood =
      all_stand was last name (receives_same (ap (λ (m : ChannelWaiters T W). m.receives) did.1.1)) stood
  streams_stand was call answer did last name stood = absurd did

  -- A stream that ended ends again.
  pub ends_again : (name : ℕ) (slot : Slot) (waker : W) (last : LastNext) (answer : Answer T W) → slot.0 ≡ name →
      StandsAfter last (kind_of old name) (receive_phase old name) → Step old (PollNext slot waker) answer new →
      EndsAgain last answer
  ends_again name slot waker GaveItem answer is stood did = tt
  ends_again name slot waker GaveNone answer is stood did = tt
  ends_again name slot waker GaveEnd answer is stood did = ended_again answer did
    where
      kind : kind_of old slot.0 ≡ Some kinds.Stream
      kind = ap (kind_of old) is ∙ stood.0

      phase : receive_phase old slot.0 ≡ Some Ended
      phase = ap (receive_phase old) is ∙ stood.1

      again : (answer : polls.Poll (Option T)) → StreamsAs (receive_phase old slot.0) old slot.0 waker answer new →
          answer ≡ polled.Ready None
      again answer did = (subst (λ p. StreamsAs p old slot.0 waker answer new) phase did).0

      refused : (fault : Fault) → Step old (PollNext slot waker) (Refused fault) new → ⊥
      refused NoSlot did = both_ways (can_stream (kind_of old slot.0) (receive_phase old slot.0)) did.0
          ((λ i. can_stream (kind i) (phase i)))
      refused fault did = absurd did.0

      ended_again : (answer : Answer T W) → Step old (PollNext slot waker) answer new → EndsAgain GaveEnd answer
      ended_again End did = refl
      ended_again (Refused fault) did = absurd (refused fault did)
      ended_again Pending did = absurd (pending_not (again polled.Pending did.1))
      ended_again (Item value) did = absurd (item_not value (again (polled.Ready (Some value)) did.1))
      ended_again answer did = absurd did

  -- A history begins with the streams that had ended.
  pub streams_at_first : (name : ℕ) → StandsAfter (next_at_first (kind_of old name) (receive_phase old name))
      (kind_of old name) (receive_phase old name)
  streams_at_first name = first_stands (kind_of old name) (receive_phase old name)
