-- What each word on the futures of a store says of each name, and that it keeps their order.
use Rattle.std.proofs.Common.{◌≡◌, ◌≢◌, ℕ, Bool, true, false, eqb, ◌||◌, List, [], ◌∷◌, ◌++◌, Option, Some, None, is_some, drop}
use Rattle.std.proofs.Common.{append_assoc, refl, sym, ap, subst, ◌∙◌, inl, inr, arith}
use Rattle.std.proofs.lemmas.Bool.{eqb-true, eq-eqb, ne_eqb, or_parts, or_left, or_right, or_cases, both_ways, cases_eq, cases_Bool}
use Rattle.std.proofs.lemmas.Bool.{false_from_ne_true}
use Rattle.std.specs.Option.{IsSome}
use Rattle.std.proofs.lemmas.List.{append-nil}
use Rattle.std.specs.Ordering.{nat_cmp}
use Rattle.std.specs.FinMap as map
use Rattle.fi_parts.specs.declared.phase.Phase.{Phase}
use Rattle.fi_parts.specs.declared.phase.Phase.TheVariants.{Fresh, Registered}
use Rattle.fi_parts.specs.declared.phase.LiveFuture.{LiveFuture}
use Rattle.fi_parts.specs.declared.phase.Notice.{Notice}
use Rattle.fi_parts.specs.declared.phase.Notice.TheVariants.{Tell, Renew}
use Rattle.fi_parts.specs.Noticed.{phase_after}
use Rattle.fi_parts.specs.PlaceRules.{IsPlaceRule, registered_rule}
use Rattle.fi_parts.specs.Order.{holds, Apart, without}
use Rattle.fi_parts.specs.Pairs.{has, without_pair, PairsApart}
use Rattle.fi_parts.specs.Waiting.{Waiters, Waiting, phase_in, phase_of, asks_in, is_registered, may_be_named, rephased, with_phase}
use Rattle.fi_parts.specs.Waiting.{no_futures, insert_fresh, without_future, noticed, pair, IsOrdered, IsLive, named}
use Rattle.fi_parts.specs.Waiting.{with_phases, clear_queue, notify_all, IsOrderedBy}
use Rattle.fi_parts.proofs.Placed.{some_of}
use Rattle.fi_parts.proofs.FiniteMaps.{get-insert_same, get-insert_other, get-remove_same, get-remove_other}
use Rattle.fi_parts.proofs.Queues.{holds-push, Apart-push, holds-without_same, holds-without_other, Apart-without_one, has_pushed}
use Rattle.fi_parts.proofs.Queues.{has-without_same, has-drop, PairsApart-drop}
use Rattle.fi_parts.proofs.Pairs.{has-without, PairsApart-without, PairsApart-push}
use Rattle.fi_parts.proofs.Slots.{eqb_same}

module _ {W : Type 0} where
  pub registered_is : (p : Option (Phase W)) → is_registered p ≡ true → (waker : W) × (p ≡ Some (Registered waker))
  registered_is (Some (Registered w)) h = (w, refl)
  registered_is p h = absurd (both_ways false refl h)

  -- who may be named is not registered
  pub unregistered : (p : Option (Phase W)) → may_be_named p ≡ true → is_registered p ≡ false
  unregistered (Some (Registered w)) h = absurd (both_ways false refl h)
  unregistered p h = refl

-- each notice leaves one that may be named
pub notices : (W : Type 0) (notice : Notice) → may_be_named (Some (phase_after {W = W} notice)) ≡ true
notices W Tell = refl
notices W Renew = refl

module _ {D W : Type 0} where
  pub get-with_phase : (live : map.FinMap nat_cmp (LiveFuture D W)) (name : ℕ) (phase : Phase W) (f : LiveFuture D W) →
      map.get live name ≡ Some f → map.get (with_phase live name phase) name ≡ Some (record f { phase = phase })
  unfolding with_phase
  get-with_phase live name phase f is =
      ap (λ o. map.get (rephased live name phase o) name) is ∙ get-insert_same live name (record f { phase = phase })

  pub get-with_phase_other : (live : map.FinMap nat_cmp (LiveFuture D W)) (name : ℕ) (phase : Phase W) (q : ℕ) → q ≢ name →
      map.get (with_phase live name phase) q ≡ map.get live q
  unfolding with_phase
  get-with_phase_other live name phase q ne = each (map.get live name)
    where
      each : (o : Option (LiveFuture D W)) → map.get (rephased live name phase o) q ≡ map.get live q
      each None = refl
      each (Some f) = get-insert_other live name (record f { phase = phase }) q ne

  -- how a live name stands after a change
  pub phase-with_phase : (live : map.FinMap nat_cmp (LiveFuture D W)) (name : ℕ) (phase : Phase W) →
      IsSome (map.get live name) → phase_in (map.get (with_phase live name phase) name) ≡ Some phase
  phase-with_phase live name phase lives =
      let f = some_of (map.get live name) lives in ap phase_in (get-with_phase live name phase f.0 f.1)

  pub phase-with_phase_other : (live : map.FinMap nat_cmp (LiveFuture D W)) (name : ℕ) (phase : Phase W) (q : ℕ) →
      q ≢ name → phase_in (map.get (with_phase live name phase) q) ≡ phase_in (map.get live q)
  phase-with_phase_other live name phase q ne = ap phase_in (get-with_phase_other live name phase q ne)

  -- who passes such a test lives
  pub live_by : (test : Option (Phase W) → Bool) → test None ≡ false → (side : Waiters D W) (name : ℕ) →
      test (phase_of side name) ≡ true → IsLive side name
  live_by test none side name is = each (map.get side.live name) is
    where
      each : (o : Option (LiveFuture D W)) → test (phase_in o) ≡ true → IsSome o
      each None r = absurd (both_ways _ none r)
      each (Some f) r = refl

  -- who is registered lives
  pub live_if_registered : (side : Waiters D W) (name : ℕ) → is_registered (phase_of side name) ≡ true → IsLive side name
  live_if_registered side name is = live_by is_registered refl side name is

  -- who stands somehow is live
  pub lives_as : (side : Waiters D W) (name : ℕ) (phase : Phase W) → phase_of side name ≡ Some phase → IsLive side name
  lives_as side name phase is = live_by is_some refl side name (ap is_some is)

-- One name stands so now, and the others as before.
pub record Becomes {D W : Type 0} (old new : Waiters D W) (name : ℕ) (phase : Option (Phase W)) : Type 0 where
  pub here : phase_of new name ≡ phase
  pub others : (q : ℕ) → q ≢ name → phase_of new q ≡ phase_of old q

module _ {D W : Type 0} where
  pub becomes-made : (side : Waiters D W) (name : ℕ) (asks : D) → Becomes side (insert_fresh side name asks) name (Some Fresh)
  becomes-made side name asks = record {
    here = ap phase_in (get-insert_same side.live name _);
    others = λ q ne. ap phase_in (get-insert_other side.live name _ q ne);
  }

  pub becomes-with_phase : (side : Waiters D W) (name : ℕ) (phase : Phase W) (queue : List ℕ) → IsLive side name →
      Becomes side (record { live = with_phase side.live name phase; queue = queue }) name (Some phase)
  becomes-with_phase side name phase queue lives = record {
    here = phase-with_phase side.live name phase lives;
    others = λ q ne. phase-with_phase_other side.live name phase q ne;
  }

  pub becomes-forgotten : (side : Waiters D W) (name : ℕ) → Becomes side (without_future side name) name None
  becomes-forgotten side name = record {
    here = ap phase_in (get-remove_same side.live name);
    others = λ q ne. ap phase_in (get-remove_other side.live name q ne);
  }

-- This name has a place in the queue now just if it should, and the places of the others are as before.
pub record HasPlace (name : ℕ) (here : Bool) (old new : List ℕ) : Type 0 where
  pub is : holds name new ≡ here
  pub others : (q : ℕ) → q ≢ name → holds q new ≡ holds q old
  pub once : Apart new

-- the queue stays, or the name goes to its end, or leaves it
pub same_places : (name : ℕ) (here : Bool) (queue : List ℕ) → Apart queue → holds name queue ≡ here → HasPlace name here queue queue
same_places name here queue once is = record { is = is; others = λ q ne. refl; once = once }

pub last_place : (name : ℕ) (here : Bool) (queue : List ℕ) → Apart queue → here ≡ true → holds name queue ≡ false →
    HasPlace name here queue (queue ++ name ∷ [])
last_place name here queue once is off = record {
  is = holds-push name queue name ∙ ap (λ b. b || holds name queue) (eqb_same name) ∙ sym is;
  others = λ q ne. holds-push q queue name ∙ ap (λ b. b || holds q queue) (ne_eqb q name ne);
  once = Apart-push queue name once off;
}

pub no_place : (name : ℕ) (here : Bool) (queue : List ℕ) → Apart queue → here ≡ false → HasPlace name here queue (without name queue)
no_place name here queue once is = record {
  is = holds-without_same name queue ∙ sym is;
  others = λ q ne. holds-without_other q name queue ne;
  once = Apart-without_one name queue once;
}

-- the registered have a place, or none of them has
pub placed : {W : Type 0} (place : Option (Phase W) → Bool) (rule : IsPlaceRule place) (p : Option (Phase W)) →
    is_registered p ≡ true → place p ≡ rule.has_queue
placed place rule p is = let w = registered_is p is in ap place w.1 ∙ rule.registered w.0

-- What keeps a store in order, for any choice of the phases that have a place.
module _ {D W : Type 0} (place : Option (Phase W) → Bool) (rule : IsPlaceRule place) where
  -- who has a place lives
  pub live_if_placed : (side : Waiters D W) (name : ℕ) → place (phase_of side name) ≡ true → IsLive side name
  live_if_placed side name is = live_by place rule.none side name is

  -- One name has another phase now, and the others stand as before.
  ordered_by : (old new : Waiters D W) (out after : List (ℕ × W)) (name : ℕ) (phase : Option (Phase W)) → IsOrderedBy place old out →
      Becomes old new name phase → HasPlace name (place phase) old.queue new.queue →
      ((q : ℕ) → q ≢ name → has q after ≡ true → has q out ≡ true) → (has name after ≡ true → may_be_named phase ≡ true) →
      PairsApart after → IsOrderedBy place new after
  ordered_by old new out after name phase was now queue outs may apart = record {
    queued = λ q. grind (arith, cases_eq q name, queue.is, now.here, queue.others q, was.queued q, now.others q);
    once = queue.once;
    named = λ q at. grind (arith, cases_eq q name, at, may, outs q, was.named q, now.here, now.others q);
    named_once = apart;
  }

  -- The same where its pair is taken out, as by a poll or a cancel.
  pub ordered-becomes : (old new : Waiters D W) (out : List (ℕ × W)) (name : ℕ) (phase : Option (Phase W)) → IsOrderedBy place old out →
      Becomes old new name phase → HasPlace name (place phase) old.queue new.queue → IsOrderedBy place new (without_pair name out)
  ordered-becomes old new out name phase was now queue =
      ordered_by old new out (without_pair name out) name phase was now queue (λ q ne at. has-without name q out at)
      (λ at. absurd (both_ways _ (has-without_same name out) at)) (PairsApart-without name out was.named_once)

  pub ordered-empty : IsOrderedBy place (no_futures {D = D} {W = W}) []
  ordered-empty = record {
    queued = λ q. sym (ap (λ o. place (phase_in o)) (map.get-empty nat_cmp q) ∙ rule.none);
    once = tt;
    named = λ q at. absurd (both_ways false refl at);
    named_once = tt;
  }

  pub ordered-made : (side : Waiters D W) (out : List (ℕ × W)) (name : ℕ) (asks : D) → IsOrderedBy place side out →
      phase_of side name ≡ None → IsOrderedBy place (insert_fresh side name asks) out
  ordered-made side out name asks was free =
      ordered_by side (insert_fresh side name asks) out out name (Some Fresh) was (becomes-made side name asks)
      (same_places name _ side.queue was.once (was.queued name ∙ ap place free ∙ rule.none ∙ sym rule.fresh)) (λ q ne at. at)
      (λ at. refl) was.named_once

  -- who is registered has no pair
  pub no_pair : (side : Waiters D W) (out : List (ℕ × W)) (name : ℕ) → IsOrderedBy place side out →
      is_registered (phase_of side name) ≡ true → has name out ≡ false
  no_pair side out name was is =
      false_from_ne_true _ (λ at. both_ways _ (unregistered (phase_of side name) (was.named name at)) is)

  pub ordered-without_pair : (side : Waiters D W) (out : List (ℕ × W)) (name : ℕ) → IsOrderedBy place side out →
      IsOrderedBy place side (without_pair name out)
  ordered-without_pair side out name was = record {
    queued = was.queued;
    once = was.once;
    named = λ q at. was.named q (has-without name q out at);
    named_once = PairsApart-without name out was.named_once;
  }

  pub ordered-forgotten : (side : Waiters D W) (out : List (ℕ × W)) (name : ℕ) → IsOrderedBy place side out →
      IsOrderedBy place (without_future side name) (without_pair name out)
  ordered-forgotten side out name was =
      ordered-becomes side (without_future side name) out name None was (becomes-forgotten side name)
      (no_place name (place None) side.queue was.once rule.none)

  pub ordered-drop : (side : Waiters D W) (out : List (ℕ × W)) → IsOrderedBy place side out →
      IsOrderedBy place side (drop 1 out)
  ordered-drop side out was = record {
    queued = was.queued;
    once = was.once;
    named = λ q at. was.named q (has-drop q out at);
    named_once = PairsApart-drop out was.named_once;
  }

module _ {D W : Type 0} where
  -- the first of the queue is registered
  pub first_registered : (side : Waiters D W) (out : List (ℕ × W)) (name : ℕ) (others : List ℕ) → IsOrdered side out →
      side.queue ≡ name ∷ others → is_registered (phase_of side name) ≡ true
  first_registered side out name others was is =
      sym (was.queued name) ∙ ap (holds name) is ∙ or_left _ _ (eqb_same name)

  -- the pairs of other names are the same
  pub named-other : (live : map.FinMap nat_cmp (LiveFuture D W)) (n : ℕ) (phase : Phase W) (names : List ℕ) →
      holds n names ≡ false → named (with_phase live n phase) names ≡ named live names
  unfolding named
  named-other live n phase [] off = refl
  named-other live n phase (x ∷ xs) off =
      let parts = or_parts (eqb n x) (holds n xs) off in
      let same : phase_in (map.get (with_phase live n phase) x) ≡ phase_in (map.get live x) =
      phase-with_phase_other live n phase x (λ e. both_ways (eqb n x) parts.0 (eq-eqb n x (sym e))) in
      rw (same, named-other live n phase xs parts.1) refl

  -- to name the oldest and then the rest is to name all
  pub all_noticed-step : (phase : Phase W) (w : Waiting D W) (n : ℕ) (others : List ℕ) → IsOrdered w.side w.out →
      w.side.queue ≡ n ∷ others →
      notify_all phase (record { side = noticed phase w.side n others; out = w.out ++ pair w.side n }) ≡ notify_all
      phase w
  unfolding named with_phases
  all_noticed-step phase w n others was queue =
      let once : Apart (n ∷ others) = subst Apart queue was.once in
      let live : with_phases w.side.live w.side.queue phase
      ≡ with_phases (with_phase w.side.live n phase) others phase =
      ap (λ names. with_phases w.side.live names phase) queue in
      let pairs : named w.side.live w.side.queue ≡ pair w.side n ++ named w.side.live others =
      ap (named w.side.live) queue in
      let out : (w.out ++ pair w.side n) ++ named (with_phase w.side.live n phase) others ≡ w.out ++ named w.side.live
      w.side.queue =
      append_assoc w.out (pair w.side n) _
      ∙ ap (λ ps. w.out ++ (pair w.side n ++ ps)) (named-other w.side.live n phase others once.0)
      ∙ ap (λ ps. w.out ++ ps) (sym pairs) in
      λ i. record { side = record { live = sym live i; queue = [] }; out = out i }

  pub all_noticed-none : (phase : Phase W) (w : Waiting D W) → w.side.queue ≡ [] → notify_all phase w ≡ w
  unfolding named with_phases
  all_noticed-none phase w none =
      let live : with_phases w.side.live w.side.queue phase ≡ w.side.live =
      ap (λ names. with_phases w.side.live names phase) none in
      let out : w.out ++ named w.side.live w.side.queue ≡ w.out =
      ap (λ names. w.out ++ named w.side.live names) none ∙ append-nil w.out in
      λ i. record { side = record { live = live i; queue = sym none i }; out = out i }

  -- the oldest is named, and leaves the queue
  pub ordered-next : (phase : Phase W) (w : Waiting D W) (n : ℕ) (others : List ℕ) → may_be_named (Some phase) ≡ true →
      IsOrdered w.side w.out → w.side.queue ≡ n ∷ others →
      IsOrdered (noticed phase w.side n others) (w.out ++ pair w.side n)
  ordered-next phase w n others may was queue =
      let here = first_registered w.side w.out n others was queue in
      let waker = registered_is (phase_of w.side n) here in
      let once : Apart (n ∷ others) = subst Apart queue was.once in
      rw waker.1
      (ordered_by is_registered registered_rule w.side (noticed phase w.side n others) w.out (w.out ++ (n, waker.0) ∷ []) n (Some phase)
      was (becomes-with_phase w.side n phase others (live_if_registered w.side n here))
      (record {
        is = once.0 ∙ sym (unregistered (Some phase) may);
        others = λ q ne. sym (ap (holds q) queue ∙ ap (λ b. b || holds q others) (ne_eqb q n ne));
        once = once.1;
      })
      (λ q ne at. sym (has_pushed q w.out n waker.0 ∙ ap (λ b. b || has q w.out) (ne_eqb q n ne)) ∙ at) (λ at. may)
      (PairsApart-push w.out n waker.0 was.named_once (no_pair is_registered registered_rule w.side w.out n was here)))

  pub noticed-next : (phase : Phase W) (w mid new : Waiting D W) (n : ℕ) (others : List ℕ) →
      mid ≡ record w { side = record w.side { queue = others } } →
      new ≡ record {
        side = record mid.side { live = with_phase mid.side.live n phase };
        out = mid.out ++ pair mid.side n;
      } → new ≡ record { side = noticed phase w.side n others; out = w.out ++ pair w.side n }
  noticed-next phase w mid new n others left told =
      told
      ∙ ap
      (λ (m : Waiting D W).
      let v : Waiting D W = record {
        side = record m.side { live = with_phase m.side.live n phase };
        out = m.out ++ pair m.side n;
      } in v)
      left

-- how a name stands once each of the queue was named and stands so
abbrev pub noticed_phase : {W : Type 0} → Phase W → Option (Phase W) → Option (Phase W)
noticed_phase phase (Some (Registered waker)) = Some phase
noticed_phase phase before = before

module _ {W : Type 0} where
  pub noticed_phase_other : (phase : Phase W) (p : Option (Phase W)) → is_registered p ≡ false → noticed_phase phase p ≡ p
  noticed_phase_other phase (Some (Registered w)) h = absurd (both_ways true h refl)
  noticed_phase_other phase p h = refl

module _ {D W : Type 0} where
  -- the others of the queue are not this one, and those named stand so
  pub phase-with_phases : (phase : Phase W) (names : List ℕ) (live : map.FinMap nat_cmp (LiveFuture D W)) (q : ℕ) →
      holds q names ≡ false → phase_in (map.get (with_phases live names phase) q) ≡ phase_in (map.get live q)
  unfolding with_phases
  phase-with_phases phase [] live q off = refl
  phase-with_phases phase (n ∷ names) live q off =
      let parts = or_parts (eqb q n) (holds q names) off in
      phase-with_phases phase names (with_phase live n phase) q parts.1
      ∙ phase-with_phase_other live n phase q (λ e. both_ways _ parts.0 (eq-eqb q n e))

  pub phase-held : (phase : Phase W) (names : List ℕ) (live : map.FinMap nat_cmp (LiveFuture D W)) (q : ℕ) →
      ((n : ℕ) → holds n names ≡ true → IsSome (map.get live n)) → Apart names → holds q names ≡ true →
      phase_in (map.get (with_phases live names phase) q) ≡ Some phase
  unfolding with_phases
  phase-held phase [] live q lives once at = absurd (both_ways false refl at)
  phase-held phase (n ∷ names) live q lives once at =
      elim (cases_eq q n) [
        | inl same ↦ rw same
            (phase-with_phases phase names (with_phase live n phase) n once.0
            ∙ phase-with_phase live n phase (lives n (or_left _ _ (eqb_same n))))
        | inr ne ↦ phase-held phase names (with_phase live n phase) q
            (λ m there. lives_still live n m (lives m (or_right _ _ there))) once.1
            (elim (or_cases (eqb q n) (holds q names) at) [ inl e ↦ absurd (ne (eqb-true q n e)) | inr r ↦ r ])
      ]
    where
      lives_still : (l : map.FinMap nat_cmp (LiveFuture D W)) (n m : ℕ) → IsSome (map.get l m) →
          IsSome (map.get (with_phase l n phase) m)
      lives_still l n m h = elim (cases_eq m n) [
        | inl same ↦ rw same
            (lives_as (record { live = with_phase l n phase; queue = [] }) n phase
            (phase-with_phase l n phase (subst (λ (k : ℕ). IsSome (map.get l k)) same h)))
        | inr ne ↦ ap is_some (get-with_phase_other l n phase m ne) ∙ h
      ]

  pub phase-emptied : (phase : Phase W) (side : Waiters D W) (out : List (ℕ × W)) (q : ℕ) → IsOrdered side out →
      phase_of (clear_queue phase side) q ≡ noticed_phase phase (phase_of side q)
  phase-emptied phase side out q was = elim (cases_Bool (holds q side.queue)) [
    | inl at ↦
        let waker = registered_is (phase_of side q) (sym (was.queued q) ∙ at) in
        phase-held phase side.queue side.live q (λ n there. live_if_registered side n (sym (was.queued n) ∙ there))
        was.once at
        ∙ sym (ap (noticed_phase phase) waker.1)
    | inr off ↦ phase-with_phases phase side.queue side.live q off
        ∙ sym (noticed_phase_other phase (phase_of side q) (sym (was.queued q) ∙ off))
  ]

  -- what a name asks for stays the same, whatever its phase is
  pub asks-with_phase : (live : map.FinMap nat_cmp (LiveFuture D W)) (name : ℕ) (phase : Phase W) (q : ℕ) →
      asks_in (map.get (with_phase live name phase) q) ≡ asks_in (map.get live q)
  unfolding with_phase
  asks-with_phase live name phase q = each (map.get live name) refl
    where
      each : (o : Option (LiveFuture D W)) → map.get live name ≡ o →
          asks_in (map.get (rephased live name phase o) q) ≡ asks_in (map.get live q)
      each None is = refl
      each (Some f) is =
          let now : LiveFuture D W = record f { phase = phase } in
          grind (arith, cases_eq q name, is, get-insert_same live name now, get-insert_other live name now q)

  pub asks-with_phases : (phase : Phase W) (names : List ℕ) (live : map.FinMap nat_cmp (LiveFuture D W)) (q : ℕ) →
      asks_in (map.get (with_phases live names phase) q) ≡ asks_in (map.get live q)
  unfolding with_phases
  asks-with_phases phase [] live q = refl
  asks-with_phases phase (n ∷ names) live q =
      asks-with_phases phase names (with_phase live n phase) q ∙ asks-with_phase live n phase q
