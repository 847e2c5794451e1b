-- What each change of a channel's sends does to the values that were accepted, received and held.
use Rattle.std.specs.Prelude.{◌≡◌, ◌≢◌, ◌+◌, ℕ, ◌||◌, Bool, true, false}
use Rattle.std.specs.Prelude.{Option, Some, None, is_some, List, [], ◌∷◌, ◌++◌, length, take, refl}
use Rattle.std.proofs.Common.{sym, ◌∙◌, ap, subst, inl, inr, append_assoc, length-append, arith}
use Rattle.std.proofs.lemmas.Bool.{both_ways, cases_Bool, or_from, or_left, or_right, ltb-false, ne_eqb}
use Rattle.std.proofs.lemmas.List.{append-nil, length-map, take-append-le, take_all}
use Rattle.std.specs.Option.{option_flatten}
use Rattle.fi_parts.specs.declared.phase.Phase.{Phase}
use Rattle.fi_parts.specs.declared.phase.Phase.TheVariants.{Fresh, Registered, Told, Complete, Ended}
use Rattle.fi_parts.specs.Buffer.{Bounded, pushed, popped}
use Rattle.fi_parts.specs.Oldest.{complete_first, complete_oldest, asks_of_first}
use Rattle.fi_parts.specs.Order.{holds, Apart}
use Rattle.fi_parts.specs.Waiting.{Waiters, phase_of, asks_in, is_registered, insert_fresh, registered, stays, ended, without_future}
use Rattle.fi_parts.specs.Waiting.{exchange, clear_queue}
use Rattle.fi_parts.specs.Waiting.{with_phase}
use Rattle.fi_parts.proofs.FiniteMaps.{get-insert_same, get-insert_other, get-remove_same, get-remove_other}
use Rattle.fi_parts.proofs.Effects.{registered_as}
use Rattle.fi_parts.proofs.Oldest.{phase-with_asks, asks-with_asks, asks-with_asks_other}
use Rattle.fi_parts.proofs.PairsWithin.{if_true, if_false, none_some, some_same}
use Rattle.fi_parts.proofs.Queues.{holds-without_same}
use Rattle.fi_parts.proofs.Slots.{eqb_same, without_absent}
use Rattle.fi_parts.proofs.Waiting.{noticed_phase, becomes-made, becomes-with_phase, becomes-forgotten, phase-emptied, lives_as}
use Rattle.fi_parts.proofs.Waiting.{asks-with_phase, asks-with_phases, first_registered, live_if_registered}
use Rattle.fi_channels.specs.ChannelWords.{ChannelMachine, has_room, next_value, next_of, send_phase, value_of}
use Rattle.fi_channels.specs.ChannelWords.{owns_value}
use Rattle.fi_channels.specs.Waiter.{sends_in}
use Rattle.fi_channels.proofs.ChannelLaws.{Holds}
use Rattle.fi_run.specs.ChannelValues.{Accepted, values_in, one_from, waits_with, withdrawn_by, released_by, accepts_once}
use Rattle.fi_run.specs.ChannelValues.{waiting_in, Follows}
use Rattle.fi_run.specs.ChannelOrder.{waits-append, values-append, one_waits, withdrawn-append, withdrawn_none}
use Rattle.fi_run.specs.ChannelOrder.{released_none, released_not, released_other}
use Rattle.fi_run.specs.ChannelOrder.{released_values, released-append, value_at, waiting_same, waiting_but, waits_not}
use Rattle.fi_run.specs.ChannelOrder.{waits_in, waiting_end, waiting_without}
use Rattle.fi_run.specs.ChannelOrder.{ChangesOne, one_changed}

module _ {W : Type 0} where
  abbrev pub is_complete : Option (Phase W) → Bool
  is_complete (Some Complete) = true
  is_complete phase = false

  owner_waits : (phase : Option (Phase W)) → owns_value phase ≡ true → is_complete phase ≡ false
  owner_waits None is = absurd (both_ways false refl is)
  owner_waits (Some Fresh) is = refl
  owner_waits (Some (Registered waker)) is = refl
  owner_waits (Some Told) is = absurd (both_ways false refl is)
  owner_waits (Some Complete) is = absurd (both_ways false refl is)
  owner_waits (Some Ended) is = absurd (both_ways false refl is)

  nothing_waits : (phase : Option (Phase W)) → owns_value phase ≡ false → is_registered phase ≡ false
  nothing_waits None is = refl
  nothing_waits (Some Fresh) is = refl
  nothing_waits (Some (Registered waker)) is = absurd (both_ways true is refl)
  nothing_waits (Some Told) is = refl
  nothing_waits (Some Complete) is = refl
  nothing_waits (Some Ended) is = refl

  renewed_complete : (phase : Option (Phase W)) → is_complete (noticed_phase Fresh phase) ≡ is_complete phase
  renewed_complete None = refl
  renewed_complete (Some Fresh) = refl
  renewed_complete (Some (Registered waker)) = refl
  renewed_complete (Some Told) = refl
  renewed_complete (Some Complete) = refl
  renewed_complete (Some Ended) = refl

  complete_as : (phase : Option (Phase W)) → is_complete phase ≡ true → phase ≡ Some Complete
  complete_as None is = absurd (both_ways false refl is)
  complete_as (Some Fresh) is = absurd (both_ways false refl is)
  complete_as (Some (Registered waker)) is = absurd (both_ways false refl is)
  complete_as (Some Told) is = absurd (both_ways false refl is)
  complete_as (Some Complete) is = refl
  complete_as (Some Ended) is = absurd (both_ways false refl is)

or_none : (b : Bool) → (b || false) ≡ b
or_none true = refl
or_none false = refl

none_of : {T : Type 0} (asks : Option T) → is_some asks ≡ false → asks ≡ None
none_of None off = refl
none_of (Some value) off = absurd (both_ways true off refl)

module _ {T : Type 0} where
  values_of_one : (name : ℕ) (value : Option T) → values_in (one_from (Some name) value) ≡ values_in (one_from None value)
  values_of_one name None = refl
  values_of_one name (Some value) = refl

  -- the next value, and those behind it
  next_is : (buffer : Bounded T) (items : List T) (asks : Option T) (next : T × Bounded T) → buffer.items ≡ items →
      next_value buffer items asks ≡ Some next → items ++ values_in (one_from None asks) ≡ next.0 ∷ next.1.items
  next_is buffer [] None next is took = absurd (none_some next took)
  next_is buffer [] (Some value) next is took =
      subst (λ (n : T × Bounded T). value ∷ [] ≡ n.0 ∷ n.1.items) (some_same (value, buffer) next took)
      (ap (λ xs. value ∷ xs) (sym is))
  next_is buffer (value ∷ left) None next is took =
      subst (λ (n : T × Bounded T). value ∷ left ++ [] ≡ n.0 ∷ n.1.items) (some_same (value, popped buffer left) next took)
      (ap (λ xs. value ∷ xs) (append-nil left))
  next_is buffer (value ∷ left) (Some other) next is took =
      subst (λ (n : T × Bounded T). value ∷ left ++ other ∷ [] ≡ n.0 ∷ n.1.items)
      (some_same (value, pushed (popped buffer left) other buffer.reserved) next took) refl

module _ {T W : Type 0} (old : ChannelMachine T W) (was : Holds old) where
  abbrev sending : Waiters (Option T) W
  sending = old.waiting.sends

  -- who is not registered isn't queued
  unqueued : (name : ℕ) → is_registered (send_phase old name) ≡ false → holds name sending.queue ≡ false
  unqueued name off = was.0.waiters.sends.ordered.queued name ∙ off

  owned_by : (name : ℕ) → owns_value (send_phase old name) ≡ true → (value : T) × (value_at sending name ≡ Some value)
  owned_by name owns = some_of (value_at sending name) (was.0.owned name ∙ owns)
    where
      some_of : (asks : Option T) → is_some asks ≡ true → (value : T) × (asks ≡ Some value)
      some_of None off = absurd (both_ways false refl off)
      some_of (Some value) there = (value, refl)

  -- who is gone
  forgotten_changes : (name : ℕ) → ChangesOne sending (without_future sending name) name
  forgotten_changes name = record {
    phases = (becomes-forgotten sending name).others;
    values = λ q ne. ap (λ f. option_flatten (asks_in f)) (get-remove_other sending.live name q ne);
  }

  gone_value : (name : ℕ) → value_at (without_future sending name) name ≡ None
  gone_value name = ap (λ f. option_flatten (asks_in f)) (get-remove_same sending.live name)

  -- where the buffer has room nobody waits
  pub nobody_waits_to_send : has_room old.own ≡ true → sending.queue ≡ []
  nobody_waits_to_send room = each sending.queue refl
    where
      each : (queue : List ℕ) → sending.queue ≡ queue → sending.queue ≡ []
      each [] is = is
      each (n ∷ others) is = absurd (both_ways (has_room old.own)
          (was.1.sends n (first_registered sending (sends_in old.waiting.out) n others was.0.waiters.sends.ordered is)).1 room)

  module _ (before : List (Accepted T)) (offers : ℕ → Option T) (taken items : List T)
      (held : Follows before offers taken items sending) where
    unsettled : (name : ℕ) → is_complete (send_phase old name) ≡ false → waits_with name held.settled ≡ false
    unsettled name off = elim (cases_Bool (waits_with name held.settled)) [
      | inl at ↦ absurd (both_ways _ off (ap is_complete (held.complete name at)))
      | inr none ↦ none
    ]

    -- what is waited with in all
    pub waits_nowhere : (name : ℕ) → is_complete (send_phase old name) ≡ false → is_registered (send_phase old name) ≡ false →
        waits_with name before ≡ false
    waits_nowhere name off out = ap (waits_with name) held.accepted_is
        ∙ waits-append name held.settled (waiting_in sending sending.queue)
        ∙ or_from _ _ (unsettled name off) (waits_not sending name sending.queue (unqueued name out))

    -- A send was made.
    pub made_follows : (value : T) (name : ℕ) (offers_after : ℕ → Option T) → send_phase old name ≡ None →
        offers_after name ≡ Some value → ((q : ℕ) → q ≢ name → offers_after q ≡ offers q) →
        Follows before offers_after taken items (insert_fresh sending name (Some value))
    made_follows value name offers_after none now same =
        let new = insert_fresh sending name (Some value) in
        let values = λ (q : ℕ) (ne : q ≢ name). ap (λ f. option_flatten (asks_in f))
        (get-insert_other sending.live name _ q ne) in
        one_changed sending new name before before offers offers_after taken taken items items held.settled
        (record { phases = (becomes-made sending name (Some value)).others; values = values }) held
        (held.accepted_is ∙ ap (λ xs. held.settled ++ xs)
        (sym (waiting_but sending new name sending.queue (unqueued name (ap is_registered none)) values)))
        held.values (λ q ne. refl)
        (λ at. absurd (both_ways _ (unsettled name (ap is_complete none)) at))
        (λ is. absurd (both_ways _ (ap is_complete (becomes-made sending name (Some value)).here) (ap is_complete is)))
        (λ v owns. now ∙ sym (ap (λ f. option_flatten (asks_in f)) (get-insert_same sending.live name _)) ∙ owns)
        same

    -- One has another phase, and its place and value stay.
    phased : (name : ℕ) (phase : Phase W) (queue : List ℕ) → (lives : Phase W) → send_phase old name ≡ Some lives →
        ChangesOne sending (record { live = with_phase sending.live name phase; queue = queue }) name
    phased name phase queue lives is = record {
      phases = (becomes-with_phase sending name phase queue (lives_as sending name lives is)).others;
      values = λ q ne. ap option_flatten (asks-with_phase sending.live name phase q);
    }

    -- A registered send got another waker.
    pub stays_follows : (name : ℕ) (waker older : W) → send_phase old name ≡ Some (Registered older) →
        Follows (accepts_once name (Some name) (offers name) before) offers taken items (stays sending name waker)
    stays_follows name waker older is =
        let new = stays sending name waker in
        let here = (becomes-with_phase sending name (Registered waker) sending.queue
        (lives_as sending name (Registered older) is)).here in
        let same = λ (q : ℕ). ap option_flatten (asks-with_phase sending.live name (Registered waker) q) in
        let value = owned_by name (ap owns_value is) in
        let waits : waits_with name before ≡ true = ap (waits_with name) held.accepted_is
        ∙ waits-append name held.settled (waiting_in sending sending.queue)
        ∙ or_right _ _ (waits_in sending name sending.queue value.0 value.1
        (was.0.waiters.sends.ordered.queued name ∙ ap is_registered is)) in
        subst (λ (xs : List (Accepted T)). Follows xs offers taken items new)
        (sym (if_true (waits_with name before) before (before ++ one_from (Some name) (offers name)) waits))
        (one_changed sending new name before before offers offers taken taken items items held.settled
        (phased name (Registered waker) sending.queue (Registered older) is) held
        (held.accepted_is ∙ ap (λ xs. held.settled ++ xs) (sym (waiting_same sending new sending.queue same)))
        held.values (λ q ne. refl)
        (λ at. absurd (both_ways _ (unsettled name (ap is_complete is)) at))
        (λ at. absurd (both_ways _ (ap is_complete here) (ap is_complete at)))
        (λ v owns. held.offered name v (sym (same name) ∙ owns)) (λ q ne. refl))

    -- A fresh send is registered with its value.
    pub registered_follows : (name : ℕ) (waker : W) (value : T) → send_phase old name ≡ Some Fresh →
        value_of old name ≡ Some value →
        Follows (accepts_once name (Some name) (offers name) before) offers taken items (registered sending name waker)
    registered_follows name waker value is owns =
        let new = registered sending name waker in
        let here = (becomes-with_phase sending name (Registered waker) new.queue (lives_as sending name Fresh is)).here in
        let same = λ (q : ℕ). ap option_flatten (asks-with_phase sending.live name (Registered waker) q) in
        let nowhere = waits_nowhere name (ap is_complete is) (ap is_registered is) in
        let one : one_from (Some name) (offers name) ≡ one_from (Some name) (value_at sending name) =
        ap (one_from (Some name)) (held.offered name value owns ∙ sym owns) in
        subst (λ (xs : List (Accepted T)). Follows xs offers taken items new)
        (sym (if_false (waits_with name before) before (before ++ one_from (Some name) (offers name)) nowhere))
        (one_changed sending new name before (before ++ one_from (Some name)
        (offers name)) offers offers taken taken items items held.settled
        (phased name (Registered waker) new.queue Fresh is) held
        ((λ i. held.accepted_is i ++ one i)
        ∙ append_assoc held.settled (waiting_in sending sending.queue) (one_from (Some name) (value_at sending name))
        ∙ ap (λ xs. held.settled ++ xs) (sym (waiting_same sending new new.queue same
        ∙ waiting_end sending name sending.queue)))
        held.values (λ q ne. refl)
        (λ at. absurd (both_ways _ (unsettled name (ap is_complete is)) at))
        (λ at. absurd (both_ways _ (ap is_complete here) (ap is_complete at)))
        (λ v at. held.offered name v (sym (same name) ∙ at)) (λ q ne. refl))

    -- A fresh send ends without its value, which is not held.
    abbrev finished : ℕ → Waiters (Option T) W
    finished name = exchange (ended sending name) name None

    finished_changes : (name : ℕ) → send_phase old name ≡ Some Fresh → ChangesOne sending (finished name) name
    finished_changes name is = let live = (ended sending name).live in record {
      phases = λ q ne. phase-with_asks live name None q
          ∙ (becomes-with_phase sending name Ended sending.queue (lives_as sending name Fresh is)).others q ne;
      values = λ q ne. ap option_flatten (asks-with_asks_other live name None q ne ∙ asks-with_phase sending.live name Ended q);
    }

    pub finished_follows : (name : ℕ) → send_phase old name ≡ Some Fresh → Follows before offers taken items (finished name)
    finished_follows name is =
        let changes = finished_changes name is in
        let live = (ended sending name).live in
        let becomes = becomes-with_phase sending name Ended sending.queue (lives_as sending name Fresh is) in
        one_changed sending (finished name) name before before offers offers taken taken items items held.settled changes held
        (held.accepted_is ∙ ap (λ xs. held.settled ++ xs)
        (sym (waiting_but sending (finished name) name sending.queue (unqueued name (ap is_registered is)) changes.values)))
        held.values (λ q ne. refl)
        (λ at. absurd (both_ways _ (unsettled name (ap is_complete is)) at))
        (λ at. absurd (both_ways _ (ap is_complete (phase-with_asks live name None name ∙ becomes.here)) (ap is_complete at)))
        (λ v owns. absurd (none_some v (sym (ap option_flatten (asks-with_asks live name None
        (lives_as (ended sending name) name Ended becomes.here))) ∙ owns)))
        (λ q ne. refl)

    -- who isn't queued releases a settled value alone
    released_of : (name : ℕ) → is_registered (send_phase old name) ≡ false →
        released_by name before ≡ released_by name held.settled ++ waiting_in sending sending.queue
    released_of name off = ap (released_by name) held.accepted_is
        ∙ released-append name held.settled (waiting_in sending sending.queue)
        ∙ ap (λ xs. released_by name held.settled ++ xs)
        (released_none name (waiting_in sending sending.queue) (waits_not sending name sending.queue (unqueued name off)))

    -- A complete send ends.
    pub ended_follows : (name : ℕ) → send_phase old name ≡ Some Complete →
        Follows (released_by name (accepts_once name None (offers name) before)) offers taken items (ended sending name)
    ended_follows name is =
        let new = ended sending name in
        let waiting = waiting_in sending sending.queue in
        let here = (becomes-with_phase sending name Ended sending.queue (lives_as sending name Complete is)).here in
        let same = λ (q : ℕ). ap option_flatten (asks-with_phase sending.live name Ended q) in
        subst (λ (xs : List (Accepted T)). Follows (released_by name xs) offers taken items new) (sym (kept is))
        (one_changed sending new name before (released_by name before) offers offers taken taken items items
        (released_by name held.settled)
        (phased name Ended sending.queue Complete is) held
        (released_of name (ap is_registered is) ∙ ap (λ xs. released_by name held.settled ++ xs)
        (sym (waiting_same sending new sending.queue same)))
        (released_values name held.settled ∙ held.values) (λ q ne. released_other q name held.settled ne)
        (λ at. absurd (both_ways _ (released_not name held.settled) at))
        (λ at. absurd (both_ways _ (ap is_complete here) (ap is_complete at)))
        (λ v owns. held.offered name v (sym (same name) ∙ owns)) (λ q ne. refl))
      where
        kept : send_phase old name ≡ Some Complete → accepts_once name None (offers name) before ≡ before
        kept done = elim (cases_Bool (waits_with name before)) [
          | inl waits ↦ if_true (waits_with name before) before (before ++ one_from None (offers name)) waits
          | inr off ↦ if_false (waits_with name before) before (before ++ one_from None (offers name)) off
              ∙ elim (held.done name done) [
                | inl at ↦ absurd (both_ways _ off (ap (waits_with name) held.accepted_is
                    ∙ waits-append name held.settled (waiting_in sending sending.queue) ∙ or_left _ _ at))
                | inr at_first ↦ ap (λ o. before ++ one_from None o) (at_first ∙ none_of (value_at sending name)
                    (was.0.owned name ∙ ap owns_value done)) ∙ append-nil before
              ]
        ]

    -- A send that owned its value is gone with it.
    pub withdrawn_follows : (name : ℕ) (value : T) → value_of old name ≡ Some value →
        Follows (withdrawn_by name before) offers taken items (without_future sending name)
    withdrawn_follows name value owns =
        let new = without_future sending name in
        let off = unsettled name (owner_waits (send_phase old name) (sym (was.0.owned name) ∙ ap is_some owns)) in
        let changes = forgotten_changes name in
        one_changed sending new name before (withdrawn_by name before) offers offers taken taken items items held.settled changes held
        (ap (withdrawn_by name) held.accepted_is
        ∙ withdrawn-append name held.settled (waiting_in sending sending.queue)
        ∙ (λ i. withdrawn_none name held.settled off i ++ waiting_without sending name sending.queue i)
        ∙ ap (λ xs. held.settled ++ xs)
        (sym (waiting_but sending new name new.queue (holds-without_same name sending.queue) changes.values)))
        held.values (λ q ne. refl)
        (λ at. absurd (both_ways _ off at))
        (λ at. absurd (both_ways _ (ap is_complete (becomes-forgotten sending name).here) (ap is_complete at)))
        (λ v at. absurd (none_some v (sym (gone_value name) ∙ at))) (λ q ne. refl)

    -- A send that owned none is gone.
    pub left_follows : (name : ℕ) → value_of old name ≡ None →
        Follows (released_by name before) offers taken items (without_future sending name)
    left_follows name none =
        let new = without_future sending name in
        let out = nothing_waits (send_phase old name) (sym (was.0.owned name) ∙ ap is_some none) in
        let absent = unqueued name out in
        let changes = forgotten_changes name in
        one_changed sending new name before (released_by name before) offers offers taken taken items items
        (released_by name held.settled)
        changes held
        (released_of name out ∙ ap (λ xs. released_by name held.settled ++ xs)
        (sym (ap (waiting_in new) (without_absent name sending.queue absent)
        ∙ waiting_but sending new name sending.queue absent changes.values)))
        (released_values name held.settled ∙ held.values) (λ q ne. released_other q name held.settled ne)
        (λ at. absurd (both_ways _ (released_not name held.settled) at))
        (λ at. absurd (both_ways _ (ap is_complete (becomes-forgotten sending name).here) (ap is_complete at)))
        (λ v at. absurd (none_some v (sym (gone_value name) ∙ at))) (λ q ne. refl)

    -- The oldest value was received; the oldest send handed its own on.
    pub taken_follows : (next : T × Bounded T) → items ≡ old.own.buffer.items → next_of old ≡ Some next →
        Follows before offers (taken ++ next.0 ∷ []) next.1.items (complete_oldest None sending)
    taken_follows next is took = each sending.queue refl
      where
        parts : (queue : List ℕ) → sending.queue ≡ queue →
            items ++ values_in (one_from None (option_flatten (asks_of_first sending queue))) ≡ next.0 ∷ next.1.items
        parts queue at = ap (λ xs. xs ++ values_in (one_from None (option_flatten (asks_of_first sending queue)))) is
            ∙ next_is old.own.buffer old.own.buffer.items (option_flatten (asks_of_first sending queue)) next refl
            (ap (λ names. next_value old.own.buffer old.own.buffer.items (option_flatten (asks_of_first sending names)))
            (sym at) ∙ took)

        each : (queue : List ℕ) → sending.queue ≡ queue →
            Follows before offers (taken ++ next.0 ∷ []) next.1.items (complete_first None sending queue)
        each [] at = record {
          settled = held.settled;
          accepted_is = held.accepted_is;
          values = held.values ∙ ap (λ xs. taken ++ xs) (sym (append-nil items) ∙ parts [] at)
              ∙ sym (append_assoc taken (next.0 ∷ []) next.1.items);
          complete = held.complete;
          done = held.done;
          offered = held.offered;
        }
        each (n ∷ others) at =
            let waits = first_registered sending (sends_in old.waiting.out) n others was.0.waiters.sends.ordered at in
            let own = owned_by n (ap owns_value (registered_as (send_phase old n) waits).1) in
            let one = one_from (Some n) (value_at sending n) in
            let asked = exchange sending n None in
            let new = complete_first None sending (n ∷ others) in
            let becomes = becomes-with_phase asked n Complete others
            (live_if_registered asked n (ap is_registered (phase-with_asks sending.live n None n) ∙ waits)) in
            let once = (subst Apart at was.0.waiters.sends.ordered.once).0 in
            let values = λ (q : ℕ) (ne : q ≢ n). ap option_flatten (asks-with_phase asked.live n Complete q
            ∙ asks-with_asks_other sending.live n None q ne) in
            one_changed sending new n before before offers offers taken (taken ++ next.0 ∷ []) items next.1.items
            (held.settled ++ one)
            (record { phases = λ q ne. becomes.others q ne ∙ phase-with_asks sending.live n None q; values = values }) held
            (held.accepted_is ∙ ap (λ names. held.settled ++ waiting_in sending names) at
            ∙ ap (λ xs. held.settled ++ (one ++ xs)) (sym (waiting_but sending new n others once values))
            ∙ sym (append_assoc held.settled one (waiting_in new others)))
            (values-append held.settled one ∙ ap (λ xs. xs ++ values_in one) held.values ∙ append_assoc taken items
            (values_in one)
            ∙ ap (λ xs. taken ++ xs) (ap (λ xs. items ++ xs) (values_of_one n (value_at sending n)) ∙ parts (n ∷ others) at)
            ∙ sym (append_assoc taken (next.0 ∷ []) next.1.items))
            (λ q ne. waits-append q held.settled one ∙ ap (λ b. waits_with q held.settled || b)
            (one_waits q n (value_at sending n) (ne_eqb q n ne)) ∙ or_none (waits_with q held.settled))
            (λ there. becomes.here)
            (λ there. inl (waits-append n held.settled one
            ∙ or_right _ _ (ap (λ v. waits_with n (one_from (Some n) v)) own.1 ∙ or_left _ _ (eqb_same n))))
            (λ v there. absurd (none_some v (sym (ap option_flatten (asks-with_phase asked.live n Complete n
            ∙ asks-with_asks sending.live n None (live_if_registered sending n waits))) ∙ there)))
            (λ q ne. refl)

    -- The first close withdraws the values of those that wait.
    pub closed_follows : items ≡ old.own.buffer.items →
        Follows (take (length taken + old.own.buffer.capacity) before) offers taken items (clear_queue Fresh sending)
    closed_follows is = record {
      settled = held.settled;
      accepted_is = ap (take room) held.accepted_is ∙ cut sending.queue refl ∙ sym (append-nil held.settled);
      values = held.values;
      complete = λ q at. renewed q ∙ ap (noticed_phase Fresh) (held.complete q at);
      done = λ q at. elim (held.done q (complete_as (send_phase old q)
          (sym (ap is_complete (renewed q) ∙ renewed_complete (send_phase old q)) ∙ ap is_complete at))) [
            | inl waits ↦ inl waits
            | inr before ↦ inr (before ∙ sym (ap option_flatten (asks-with_phases Fresh sending.queue sending.live q)))
          ];
      offered = λ q v owns. held.offered q v (sym (ap option_flatten
          (asks-with_phases Fresh sending.queue sending.live q)) ∙ owns);
    }
      where
        room : ℕ
        room = length taken + old.own.buffer.capacity

        renewed : (q : ℕ) → phase_of (clear_queue Fresh sending) q ≡ noticed_phase Fresh (send_phase old q)
        renewed q = phase-emptied Fresh sending (sends_in old.waiting.out) q was.0.waiters.sends.ordered

        many : length held.settled ≡ length taken + length old.own.buffer.items
        many = sym (length-map held.settled (λ (a : Accepted T). a.value)) ∙ ap length held.values ∙ length-append taken items
            ∙ ap (λ xs. length taken + length xs) is

        cut : (queue : List ℕ) → sending.queue ≡ queue → take room
            (held.settled ++ waiting_in sending sending.queue) ≡ held.settled
        cut [] at =
            let fits = was.0.buffer in
            ap (λ names. take room (held.settled ++ waiting_in sending names)) at ∙ ap (take room) (append-nil held.settled)
            ∙ take_all room held.settled (omega (arith, many, fits.0, fits.1))
        cut (n ∷ others) at =
            let fits = was.0.buffer in
            let full = ltb-false (length old.own.buffer.items) old.own.buffer.capacity
            (was.1.sends n (first_registered sending (sends_in old.waiting.out) n others was.0.waiters.sends.ordered at)).1 in
            take-append-le room held.settled (waiting_in sending sending.queue) (omega (arith, many, full))
            ∙ take_all room held.settled (omega (arith, many, fits.0, fits.1))
