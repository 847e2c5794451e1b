-- What the calls on the fields of a channel do to its sends and receives, as effects.
use Rattle.std.specs.Prelude.{◌≡◌, ◌<◌, ◌≤◌, length, ℕ, Bool, true, false, is_some, Option, Some, None, Result, Ok, Err, List, ◌++◌, refl}
use Rattle.std.proofs.Common.{sym, ◌∙◌, ap, subst}
use Rattle.std.proofs.lemmas.Bool.{both_ways}
use Rattle.std.specs.Option.{option_flatten}
use Rattle.std.specs.Ordering.{nat_cmp}
use Rattle.std.specs.FinMap as map
use Rattle.futures.specs.declared.task.Poll.{Poll}
use Rattle.futures.specs.declared.task.Poll.TheVariants.{Ready, Pending}
use Rattle.fi_parts.specs.declared.errors.CloseStatus.TheVariants.{NewlyClosed}
use Rattle.fi_parts.specs.declared.phase.LiveFuture.{LiveFuture}
use Rattle.fi_parts.specs.declared.phase.Phase.{Phase}
use Rattle.fi_parts.specs.declared.phase.Phase.TheVariants.{Fresh, Registered, Told, Ended}
use Rattle.fi_parts.specs.Buffer.{Bounded, Fits, pushed}
use Rattle.fi_parts.specs.NamedPairs.{without_by}
use Rattle.fi_parts.specs.Places.{is_told}
use Rattle.fi_parts.specs.Oldest.{pop_oldest, pair_of_oldest}
use Rattle.fi_parts.specs.Waiting.{Waiters, phase_of, phase_in, asks_of, asks_in, is_registered, may_be_named, with_phase}
use Rattle.fi_parts.specs.Waiting.{with_asks, exchange, ended, registered, without_future, IsLive, IsOrdered}
use Rattle.fi_parts.proofs.Waiting.{get-with_phase, get-with_phase_other, lives_as, becomes-with_phase, asks-with_phase}
use Rattle.fi_parts.proofs.FiniteMaps.{same_maps}
use Rattle.fi_parts.proofs.Oldest.{get-with_asks, get-with_asks_other, phase-with_asks}
use Rattle.fi_parts.proofs.PairsWithin.{none_some, some_same}
use Rattle.fi_parts.proofs.Told.{with_phase-same}
use Rattle.fi_channels.specs.Channel.{PollsNext, StreamsAs, IsSound, SendsAs, FreshSends, PollsReceive, ReceivesAs, TakesNext}
use Rattle.fi_channels.specs.Channel.{CancelsReceive, CancelsReceiveAs, Closes, ClosesAt}
use Rattle.fi_channels.specs.declared.channel.errors.SendFault.{SendFault}
use Rattle.fi_channels.specs.declared.channel.errors.SendFault.TheVariants as send_fault
use Rattle.fi_channels.specs.declared.channel.fields.ReceiveKind.{ReceiveKind}
use Rattle.fi_channels.specs.declared.channel.fields.ReceiveKind.TheVariants.{Stream}
use Rattle.fi_channels.specs.declared.channel.two_sides.Waiter.{Waiter}
use Rattle.fi_channels.specs.declared.channel.two_sides.Waiter.TheVariants.{Send, Receive}
use Rattle.fi_channels.specs.ChannelWords.{ChannelMachine, Buffered, owns_value, is_send_phase, is_receive_phase, has_room, Stores}
use Rattle.fi_channels.specs.ChannelWords.{can_take, is_given, finishes, tells_oldest, completes_oldest, next_of}
use Rattle.fi_channels.specs.ChannelFields.{ChannelWaiters, machine, phase_given, Takes, TakesAt}
use Rattle.fi_channels.specs.TwoSidedEffects.{TakesOn, TakesTwoSided}
use Rattle.fi_channels.specs.TwoSidedEffects.TwoSidedEffect.{OnSends}
use Rattle.fi_channels.specs.TwoSidesModel.{notify_sends, notify_receives}
use Rattle.fi_channels.specs.Waiter.{same_waiter, of_receives, sends_in, receives_in}
use Rattle.fi_channels.proofs.BothSound.{both_sound-take_out_receive, both_sound-remove_receive, both_sound-notify_receives}
use Rattle.fi_channels.proofs.Sides.{receives-without_send}
use Rattle.fi_channels.proofs.TwoSidedEffects.{oldest_completes}

-- the phase of one that is told
pub told_phase : {W : Type 0} (phase : Option (Phase W)) → is_told phase ≡ true → phase ≡ Some Told
told_phase None is = absurd (both_ways false refl is)
told_phase (Some Told) is = refl
told_phase (Some phase) is = absurd (both_ways false refl is)

module _ {D W : Type 0} where
  pub future_there : (side : Waiters D W) (name : ℕ) (phase : Phase W) → phase_of side name ≡ Some phase →
      (future : LiveFuture D W) × (map.get side.live name ≡ Some future)
  future_there side name phase is = each (map.get side.live name) is
    where
      each : (o : Option (LiveFuture D W)) → phase_in o ≡ Some phase → (future : LiveFuture D W) × (o ≡ Some future)
      each None e = absurd (none_some phase e)
      each (Some future) e = (future, refl)

  -- The phase and what a future asks for may be set in either order.
  phase_then_asks : (live : map.FinMap nat_cmp (LiveFuture D W)) (n : ℕ) (d : D) (p : Phase W) (f : LiveFuture D W) →
      map.get live n ≡ Some f →
      with_phase (with_asks live n d) n p ≡ with_asks (with_phase live n p) n d
  phase_then_asks live n d p f is = same_maps _ _ n
      (get-with_phase (with_asks live n d) n p (record f { asks = d }) (get-with_asks live n d f is)
      ∙ sym (get-with_asks (with_phase live n p) n d (record f { phase = p }) (get-with_phase live n p f is)))
      (λ q ne. get-with_phase_other (with_asks live n d) n p q ne ∙ get-with_asks_other live n d q ne
      ∙ sym (get-with_asks_other (with_phase live n p) n d q ne ∙ get-with_phase_other live n p q ne))

  -- What a future asked for is put back.
  asks_back : (live : map.FinMap nat_cmp (LiveFuture D W)) (n : ℕ) (d : D) (f : LiveFuture D W) → map.get live n ≡ Some f →
      with_asks (with_asks live n d) n f.asks ≡ live
  asks_back live n d f is = same_maps _ _ n
      (get-with_asks (with_asks live n d) n f.asks (record f { asks = d }) (get-with_asks live n d f is) ∙ sym is)
      (λ q ne. get-with_asks_other (with_asks live n d) n f.asks q ne ∙ get-with_asks_other live n d q ne)

some_value : {T : Type 0} (asks : Option (Option T)) → is_some (option_flatten asks) ≡ true →
    (value : T) × (asks ≡ Some (Some value))
some_value None is = absurd (both_ways false refl is)
some_value (Some None) is = absurd (both_ways false refl is)
some_value (Some (Some value)) is = (value, refl)

abbrev Sent : Type 0 → Type 0
Sent T = Poll (Result (Unit {0}) (SendFault T))

-- A buffer that took the value in.
pub stored : {T : Type 0} (buffer left : Bounded T) (is_open : Bool) (value : T) → left ≡ pushed buffer value left.reserved →
    buffer.reserved ≤ left.reserved → (length buffer.items < buffer.reserved → left.reserved ≡ buffer.reserved) → Fits left →
    Stores (record { is_open = is_open; buffer = buffer }) value (record { is_open = is_open; buffer = left })
stored {T} buffer left is_open value is grows stays fits = (
  left.reserved,
  grows,
  subst Fits is fits,
  stays,
  ap (λ (b : Bounded T). let own : Buffered T = record { is_open = is_open; buffer = b } in own) is,
)

module _ {T W : Type 0} where
  -- the oldest receive was told
  abbrev told : ChannelWaiters T W → ChannelWaiters T W
  told waiters = record waiters {
    receives = pop_oldest Told waiters.receives;
    out = waiters.out ++ of_receives (pair_of_oldest waiters.receives);
  }

  -- What is equal is so on one side, with the pairs, and on the other.
  sends_now : (new is : ChannelWaiters T W) → new ≡ is → ((new.sends ≡ is.sends) × (new.out ≡ is.out)) × (new.receives ≡ is.receives)
  sends_now new is same = rw same ((refl, refl), refl)

  receives_now : (new is : ChannelWaiters T W) → new ≡ is → ((new.receives ≡ is.receives) × (new.out ≡ is.out)) × (new.sends ≡ is.sends)
  receives_now new is same = let on = sends_now new is same in ((on.1, on.0.1), on.0.0)

  tells : (mid new : ChannelWaiters T W) → new ≡ told mid → TakesTwoSided tells_oldest mid new
  tells mid new now = receives_now new (told mid) now

  -- A receive has this phase now, or that of one that was given an item; a send has ended, or asks for this.
  abbrev receive_to : ℕ → Phase W → ChannelWaiters T W → ChannelWaiters T W
  receive_to name phase v = record v { receives = record v.receives { live = with_phase v.receives.live name phase } }

  abbrev receive_given : ℕ → ChannelWaiters T W → ChannelWaiters T W
  receive_given name v = receive_to name (phase_given (asks_of v.receives name)) v

  abbrev send_ended : ℕ → ChannelWaiters T W → ChannelWaiters T W
  send_ended name v = record v { sends = ended v.sends name }

  abbrev send_asks : ℕ → Option T → ChannelWaiters T W → ChannelWaiters T W
  send_asks name asks v = record v { sends = exchange v.sends name asks }

  -- the receives stay where the next value is taken
  pub same_receives : (next : Option (T × Bounded T)) (buffer left : Bounded T) (mid taken : ChannelWaiters T W)
      (answer : Option T) → TakesAt next buffer mid answer left taken → taken.receives ≡ mid.receives
  same_receives None buffer left mid taken answer took = ap (λ (v : ChannelWaiters T W). v.receives) took.2
  same_receives (Some next) buffer left mid taken answer took = ap (λ (v : ChannelWaiters T W). v.receives) took.2

  -- who lives still does without a pair
  pub unpaired_lives : (one two : ChannelWaiters T W) (name : ℕ) (out : List (Waiter × W)) → two ≡ record one { out = out } →
      IsLive one.sends name →
      IsLive two.sends name
  unpaired_lives one two name out is lives = subst (λ (v : ChannelWaiters T W). IsLive v.sends name) (sym is) lives

  -- the phase that a receive has which was given an item
  pub given_phase : (taken new : ChannelWaiters T W) (name : ℕ) (kind : Option ReceiveKind) (phase : Phase W) →
      phase ≡ phase_given kind →
      kind ≡ asks_of taken.receives name →
      new ≡ receive_to name phase taken → new ≡ receive_given name taken
  given_phase taken new name kind phase is asks now =
      now ∙ ap (λ (p : Phase W). receive_to name p taken) (is ∙ ap phase_given asks)

-- A fresh send.
module _ {T W : Type 0} (waiters : ChannelWaiters T W) (name : ℕ) where
  -- the sends and receives without its pair
  abbrev no_send_pair : ChannelWaiters T W
  no_send_pair = record waiters { out = without_by same_waiter (Send name) waiters.out }

  -- Its value left it, and it ended.
  abbrev exchanged : ChannelWaiters T W
  exchanged = send_asks name None waiters

  pub lives_exchanged : phase_of waiters.sends name ≡ Some Fresh → (mid : ChannelWaiters T W) (out : List (Waiter × W)) →
      mid ≡ record exchanged { out = out } → IsLive mid.sends name
  lives_exchanged fresh mid out is =
      lives_as mid.sends name Fresh (ap (λ (v : ChannelWaiters T W). phase_of v.sends name) is
      ∙ phase-with_asks waiters.sends.live name None name ∙ fresh)

  abbrev finished : ChannelWaiters T W
  finished = record no_send_pair { sends = exchange (ended waiters.sends name) name None }

  finishes_send : phase_of waiters.sends name ≡ Some Fresh → (mid : ChannelWaiters T W) → mid ≡ finished →
      TakesTwoSided (OnSends (finishes name)) waiters mid
  finishes_send fresh mid is =
      let live : IsLive waiters.sends name = lives_as waiters.sends name Fresh fresh in
      let becomes = becomes-with_phase waiters.sends name Ended waiters.sends.queue live in
      let now = sends_now mid finished is in (
        (
          ended waiters.sends name,
          no_send_pair.out,
          (ap may_be_named fresh, (refl, refl)),
          (lives_as (ended waiters.sends name) name Ended becomes.here, now.0),
        ),
        now.1,
      )

  -- It ended, and still owns its value.
  pub ended_lives : phase_of waiters.sends name ≡ Some Fresh → (one two : ChannelWaiters T W) → one ≡ no_send_pair →
      two ≡ send_ended name one → IsLive two.sends name
  ended_lives fresh one two out phase =
      subst (λ (v : ChannelWaiters T W). IsLive v.sends name)
      (sym (phase ∙ ap (send_ended name) out))
      (lives_as (ended waiters.sends name) name Ended
      (becomes-with_phase waiters.sends name Ended waiters.sends.queue (lives_as waiters.sends name Fresh fresh)).here)

  pub ended_asks : (one two : ChannelWaiters T W) → one ≡ no_send_pair →
      two ≡ send_ended name one →
      (asks : Option T) → asks_of two.sends name ≡ Some asks → asks_of waiters.sends name ≡ Some asks
  ended_asks one two out phase asks is =
      sym (ap (λ (v : ChannelWaiters T W). asks_of v.sends name)
      (phase ∙ ap (send_ended name) out) ∙ asks-with_phase waiters.sends.live name Ended name) ∙ is

  -- It was ended before its value left it, or after.
  pub ended_then : (one two three : ChannelWaiters T W) → one ≡ no_send_pair →
      two ≡ send_ended name one →
      three ≡ send_asks name None two → three ≡ finished
  ended_then one two three out phase asks = rw (asks, phase, out)

  pub exchanged_then : phase_of waiters.sends name ≡ Some Fresh → (one two three : ChannelWaiters T W) → one ≡ exchanged →
      two ≡ record one { out = without_by same_waiter (Send name) one.out } →
      three ≡ send_ended name two → three ≡ finished
  exchanged_then fresh one two three asks out phase =
      let f = future_there waiters.sends name Fresh fresh in
      rw (phase, out, asks, phase_then_asks waiters.sends.live name None Ended f.0 f.1)

  pub put_back : (value : T) → phase_of waiters.sends name ≡ Some Fresh → asks_of waiters.sends name ≡ Some (Some value) →
      (one two : ChannelWaiters T W) → one ≡ exchanged → two ≡ send_asks name (Some value) one →
      two ≡ waiters
  put_back value fresh asks one two took put =
      let f = future_there waiters.sends name Fresh fresh in
      let same : f.0.asks ≡ Some value = some_same f.0.asks (Some value) (ap asks_in (sym f.1) ∙ asks) in
      rw (put, took, ← same, asks_back waiters.sends.live name None f.0 f.1)

  -- A full buffer lets it wait.
  abbrev waits_on : W → ChannelWaiters T W
  waits_on waker = record no_send_pair { sends = registered waiters.sends name waker }

  pub waits_then : (waker : W) (one two : ChannelWaiters T W) → one ≡ no_send_pair →
      two ≡ record one { sends = registered one.sends name waker } →
      two ≡ waits_on waker
  waits_then waker one two out now = rw (now, out)

module _ {T W : Type 0} (buffer : Bounded T) (waiters : ChannelWaiters T W) (is_open : Bool) (name : ℕ) where
  abbrev Old : ChannelMachine T W
  Old = machine buffer waiters is_open

  -- the sends and receives without the pair of this receive
  abbrev no_receive_pair : ChannelWaiters T W
  no_receive_pair = record waiters { out = without_by same_waiter (Receive name) waiters.out }

  pub sound_unpaired : IsSound Old → (mid : ChannelWaiters T W) → mid ≡ no_receive_pair → IsSound (machine buffer mid is_open)
  sound_unpaired sound mid is = subst (λ (v : ChannelWaiters T W). IsSound (machine buffer v is_open)) (sym is) (record {
    waiters = both_sound-take_out_receive is_send_phase is_receive_phase waiters name sound.waiters;
    owned = sound.owned;
    buffer = sound.buffer;
  })

  -- A receive was removed.
  abbrev removed : ChannelWaiters T W
  removed = record no_receive_pair { receives = without_future waiters.receives name }

  pub ordered_removed : IsSound Old → (mid : ChannelWaiters T W) → mid ≡ removed → IsOrdered mid.receives (receives_in mid.out)
  ordered_removed sound mid is = subst (λ (v : ChannelWaiters T W). IsOrdered v.receives (receives_in v.out)) (sym is)
      (both_sound-remove_receive is_send_phase is_receive_phase waiters name refl sound.waiters).receives.ordered

  pub told_cancels : phase_of waiters.receives name ≡ Some Told → (mid new : ChannelWaiters T W) → mid ≡ removed → new ≡ told mid →
      CancelsReceive Old name (machine buffer new is_open)
  told_cancels was mid new is now =
      let left = receives_now mid removed is in
      subst (λ (p : Option (Phase W)). CancelsReceiveAs p Old name (machine buffer new is_open)) (sym was)
      (refl, (mid, ((lives_as waiters.receives name Told was, left.0), left.1), tells mid new now))

  -- A receive was given an item.
  abbrev given : ChannelWaiters T W
  given = receive_given name no_receive_pair

  given_by : (kind : Option ReceiveKind) → may_be_named (phase_of waiters.receives name) ≡ true →
      TakesOn Receive same_waiter (is_given kind name) waiters.receives waiters.out
      (record waiters.receives { live = with_phase waiters.receives.live name (phase_given kind) }) no_receive_pair.out
  given_by (Some Stream) may = (may, (refl, refl))
  given_by kind may = (may, (refl, refl))

  takes_given : (waker : W) → IsSound Old → may_be_named (phase_of waiters.receives name) ≡ true →
      (next : Option (T × Bounded T)) (value : T) (left : Bounded T) (taken new : ChannelWaiters T W) →
      TakesAt next buffer no_receive_pair (Some value) left taken →
      new ≡ receive_given name taken → TakesNext next is_open Old name waker (Ready (Some value)) (machine left new is_open)
  takes_given waker sound may None value left taken new took now = absurd (none_some value (sym took.0))
  takes_given waker sound may (Some next) value left taken new took now = (
    ap Ready took.0,
    (
      ap (λ (b : Bounded T). let own : Buffered T = record { is_open = is_open; buffer = b } in own) took.1,
      (
        given,
        (given_by (asks_of waiters.receives name) may, refl),
        subst (λ (v : ChannelWaiters T W). TakesTwoSided (completes_oldest Old) given v)
            (sym (now ∙ ap (receive_given name) took.2)) (
              oldest_completes Send same_waiter is_send_phase None waiters.sends
                  (sends_in waiters.out) given.out sound.waiters.sends,
              refl,
            ),
      ),
    ),
  )

  received_as : (waker : W) (phase : Option (Phase W)) → can_take phase ≡ true → is_registered phase ≡ false →
      (answer : Poll (Option T)) (new : ChannelMachine T W) → TakesNext (next_of Old) is_open Old name waker answer new →
      ReceivesAs phase Old name waker answer new
  received_as waker (Some Fresh) can off answer new did = did
  received_as waker (Some Told) can off answer new did = did
  received_as waker (Some (Registered before)) can off answer new did = absurd (both_ways true off refl)
  received_as waker phase can off answer new did = absurd (both_ways false refl can)

  may_take : (phase : Option (Phase W)) → can_take phase ≡ true → is_registered phase ≡ false → may_be_named phase ≡ true
  may_take (Some Fresh) can off = refl
  may_take (Some Told) can off = refl
  may_take (Some (Registered before)) can off = absurd (both_ways true off refl)
  may_take phase can off = absurd (both_ways false refl can)

  pub received : (waker : W) → IsSound Old → can_take (phase_of waiters.receives name) ≡ true →
      is_registered (phase_of waiters.receives name) ≡ false →
      (value : T) (left : Bounded T) (mid taken new : ChannelWaiters T W) (flag : Bool) →
      mid ≡ no_receive_pair → Takes buffer mid (Some value) left taken → flag ≡ is_open →
      new ≡ receive_given name taken → PollsReceive Old name waker (Ready (Some value)) (machine left new flag)
  received waker sound can off value left mid taken new flag is took same now =
      subst (λ (f : Bool). PollsReceive Old name waker (Ready (Some value)) (machine left new f)) (sym same)
      (received_as waker (phase_of waiters.receives name) can off (Ready (Some value)) (machine left new is_open)
      (takes_given waker sound (may_take (phase_of waiters.receives name) can off) (next_of Old) value left taken new
      (subst (λ (v : ChannelWaiters T W). Takes buffer v (Some value) left taken) is took) now))

  -- A stream that has ended ends again.
  pub ends_again : (waker : W) → phase_of waiters.receives name ≡ Some Ended → (new : ChannelWaiters T W) → new ≡ no_receive_pair →
      PollsNext Old name waker (Ready None) (machine buffer new is_open)
  ends_again waker was new is =
      let left = receives_now new no_receive_pair is in
      let same : waiters.receives ≡ ended waiters.receives name = λ i. record waiters.receives {
        live = sym (with_phase-same waiters.receives.live name Ended was) i;
      } in
      subst (λ (p : Option (Phase W)). StreamsAs p Old name waker (Ready None) (machine buffer new is_open)) (sym was)
      (refl, (refl, ((ap may_be_named was, (left.0.0 ∙ same, left.0.1)), left.1)))

  -- A fresh send.
  fresh_sends : (waker : W) (value : T) (open_now room : Bool) → phase_of waiters.sends name ≡ Some Fresh →
      asks_of waiters.sends name ≡ Some (Some value) → is_open ≡ open_now → has_room Old.own ≡ room →
      (answer : Sent T) (new : ChannelMachine T W) →
      FreshSends open_now room (Some value) Old name waker answer new →
      SendsAs (phase_of waiters.sends name) Old name waker answer new
  fresh_sends waker value open_now room fresh asks flag has answer new did =
      subst (λ (p : Option (Phase W)). SendsAs p Old name waker answer new) (sym fresh)
      (subst (λ (f : Bool). FreshSends f (has_room Old.own) (option_flatten
      (asks_of waiters.sends name)) Old name waker answer new) (sym flag)
      (subst (λ (r : Bool). FreshSends open_now r (option_flatten (asks_of waiters.sends name)) Old name waker answer new)
      (sym has)
      (subst (λ (o : Option (Option T)). FreshSends open_now room (option_flatten o) Old name waker answer new) (sym asks) did)))

  pub fresh_asks : IsSound Old → phase_of waiters.sends name ≡ Some Fresh → (asks : Option T) →
      asks_of waiters.sends name ≡ Some asks →
      is_some asks ≡ true
  fresh_asks sound fresh asks is = sym (ap (λ (o : Option (Option T)). is_some (option_flatten o)) is) ∙ sound.owned name
      ∙ ap owns_value fresh

  pub fresh_value : IsSound Old → phase_of waiters.sends name ≡ Some Fresh →
      (value : T) × (asks_of waiters.sends name ≡ Some (Some value))
  fresh_value sound fresh = some_value (asks_of waiters.sends name) (sound.owned name ∙ ap owns_value fresh)

  pub closed_sends : (waker : W) (value : T) → phase_of waiters.sends name ≡ Some Fresh →
      asks_of waiters.sends name ≡ Some (Some value) →
      is_open ≡ false → (new : ChannelWaiters T W) → new ≡ finished waiters name →
      SendsAs (phase_of waiters.sends name) Old name waker (Ready (Err (send_fault.Closed value))) (machine buffer new is_open)
  closed_sends waker value fresh asks flag new is =
      fresh_sends waker value false (has_room Old.own) fresh asks flag refl (Ready (Err (send_fault.Closed value)))
      (machine buffer new is_open)
      (refl, (refl, finishes_send waiters name fresh new is))

  pub room_sends : (waker : W) (value : T) → phase_of waiters.sends name ≡ Some Fresh →
      asks_of waiters.sends name ≡ Some (Some value) →
      is_open ≡ true → has_room Old.own ≡ true → (left : Bounded T) →
      Stores Old.own value (record { is_open = is_open; buffer = left }) →
      (mid new : ChannelWaiters T W) → mid ≡ finished waiters name → new ≡ told mid →
      SendsAs (phase_of waiters.sends name) Old name waker (Ready (Ok tt)) (machine left new is_open)
  room_sends waker value fresh asks flag has left stored mid new is now =
      fresh_sends waker value true true fresh asks flag has (Ready (Ok tt)) (machine left new is_open)
      (refl, record { is_open = is_open; buffer = left }, stored, (refl, (mid, finishes_send waiters name fresh mid is, tells mid new now)))

  pub full_sends : (waker : W) (value : T) → phase_of waiters.sends name ≡ Some Fresh →
      asks_of waiters.sends name ≡ Some (Some value) →
      is_open ≡ true → has_room Old.own ≡ false → (mid new : ChannelWaiters T W) → mid ≡ waits_on waiters name waker → new ≡ told mid →
      SendsAs (phase_of waiters.sends name) Old name waker Pending (machine buffer new is_open)
  full_sends waker value fresh asks flag has mid new is now =
      let joined = sends_now mid (waits_on waiters name waker) is in
      fresh_sends waker value true false fresh asks flag has Pending (machine buffer new is_open)
      (refl, (refl, (mid, ((ap may_be_named fresh, joined.0), joined.1), tells mid new now)))

  -- The receives stay in order where a send changes.
  pub ordered_beside : IsSound Old → (sends : Waiters (Option T) W) (mid : ChannelWaiters T W) →
      mid ≡ record (no_send_pair waiters name) { sends = sends } →
      IsOrdered mid.receives (receives_in mid.out)
  ordered_beside sound sends mid is = subst (λ (v : ChannelWaiters T W). IsOrdered v.receives (receives_in v.out)) (sym is)
      (subst (λ (ps : List (ℕ × W)). IsOrdered waiters.receives ps) (sym
      (receives-without_send name waiters.out)) sound.waiters.receives.ordered)

module _ {T W : Type 0} (buffer : Bounded T) (waiters : ChannelWaiters T W) (is_open : Bool) where
  pub ordered_notified : IsSound (machine buffer waiters is_open) → (mid : ChannelWaiters T W) → mid ≡ notify_receives Fresh waiters →
      IsOrdered mid.sends (sends_in mid.out)
  ordered_notified sound mid is = subst (λ (v : ChannelWaiters T W). IsOrdered v.sends (sends_in v.out)) (sym is)
      (both_sound-notify_receives is_send_phase is_receive_phase waiters Fresh refl refl sound.waiters).sends.ordered

  pub closes : is_open ≡ true → (mid new : ChannelWaiters T W) → mid ≡ notify_receives Fresh waiters → new ≡ notify_sends Fresh mid →
      Closes (machine buffer waiters is_open) NewlyClosed (machine buffer new false)
  closes flag mid new is now =
      subst (λ (f : Bool). ClosesAt f (machine buffer waiters is_open) NewlyClosed (machine buffer new false)) (sym flag)
      (refl, (refl, (mid, receives_now mid (notify_receives Fresh waiters) is, sends_now new (notify_sends Fresh mid) now)))
