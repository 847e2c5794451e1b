-- One side of two: its wait queue lent and changed, and its futures named one after another. All is said for either side.
use Rattle.std.proofs.Common.{◌≡◌, ◌≢◌, ℕ, true, false, List, [], ◌∷◌, ◌++◌, Option, Some, None, MatchOption, refl, sym, ap, ◌∙◌, inl, inr}
use Rattle.std.specs.FinMap as finmap
use Rattle.std.specs.FinSet as set
use Rattle.fi_parts.specs.WaitQueueModel.{WaitQueueModel}
use Rattle.fi_parts.specs.NamedPairs.{has_by, waker_by, without_by, waker_in_pair}
use Rattle.fi_parts.specs.Oldest.{pop_first, pop_oldest, complete_first, complete_oldest, pair_of_first, pair_of_oldest}
use Rattle.fi_parts.specs.Oldest.{asks_of_first, asks_of_oldest}
use Rattle.fi_parts.specs.Pairs.{OutboxModel, has, without_pair, waker_of}
use Rattle.fi_parts.specs.PlaceRules.{registered_rule}
use Rattle.fi_parts.specs.Tied.{out_of, IsTied}
use Rattle.fi_parts.specs.Waiting.{Waiters, asks_of, phase_of, is_registered, may_be_named, waker_in, with_phase, exchange, pair_of, pair}
use Rattle.fi_parts.specs.Waiting.{noticed, clear_queue, named_all, IsOrdered}
use Rattle.fi_parts.specs.declared.phase.Phase.{Phase}
use Rattle.fi_parts.specs.declared.phase.Phase.TheVariants.{Complete}
use Rattle.fi_channels.specs.SideView.{SideView, IsSide, two_sides_of, ticket_in, AreBothTied, pairs_of, change, change_naming, notify}
use Rattle.fi_channels.specs.TwoSidesModel.{TwoSidesModel}
use Rattle.fi_channels.specs.Waiter.{same_waiter}
use Rattle.fi_channels.specs.declared.channel.two_sides.WaitQueues.{WaitQueues}
use Rattle.fi_channels.specs.declared.channel.two_sides.Waiter.{Waiter}
use Rattle.fi_parts.proofs.FiniteMaps.{get-insert_same, get-insert_other, get-remove_same, get-remove_other}
use Rattle.fi_parts.proofs.WaitQueues.{registered_with}
use Rattle.fi_parts.proofs.Oldest.{phase-with_asks, emptied-step, emptied-none, marked-step, marked-none}
use Rattle.fi_parts.proofs.Tied.{tied_same, tied_made, tied_released, tied_after_name, out-without, has-out, waker-out, out-named}
use Rattle.fi_parts.proofs.Waiting.{first_registered, ordered-next, no_pair}
use Rattle.fi_channels.proofs.Sides.{waiter_test}

-- The wait queue of a side was lent, and is another one afterwards.
module _ {D E A W : Type 0} {s : SideView D E A W} (is : IsSide s) {wait_queues : WaitQueues D E W} {wait_queue : WaitQueueModel A W}
    (lent : wait_queue ≡ s.wait_queue wait_queues) where
  pub same_waiters : (box : OutboxModel (Waiter × W)) → s.waiters (two_sides_of wait_queues box) ≡ wait_queue.side
  same_waiters box = is.seen wait_queues box ∙ ap (λ (l : WaitQueueModel A W). l.side) (sym lent)

  pub its_ticket : (n t : ℕ) → finmap.get wait_queue.tickets n ≡ Some t → ticket_in wait_queues (s.waiter n) ≡ Some t
  its_ticket n t at = is.its_ticket wait_queues n ∙ ap (λ (l : WaitQueueModel A W). finmap.get l.tickets n) (sym lent) ∙ at

  new_at : (next : WaitQueueModel A W) (m : ℕ) → finmap.get next.tickets m ≡ finmap.get wait_queue.tickets m →
      ticket_in (s.with_queue wait_queues next) (s.waiter m) ≡ ticket_in wait_queues (s.waiter m)
  new_at next m same =
      is.new_ticket wait_queues next m ∙ same ∙ ap (λ (l : WaitQueueModel A W). finmap.get l.tickets m) lent
      ∙ sym (is.its_ticket wait_queues m)

  -- all but one have the tickets that they had
  others : (n : ℕ) (next : WaitQueueModel A W) → ((m : ℕ) → m ≢ n → finmap.get next.tickets m ≡ finmap.get wait_queue.tickets m) →
      (q : Waiter) → q ≢ s.waiter n → ticket_in (s.with_queue wait_queues next) q ≡ ticket_in wait_queues q
  others n next same q ne = elim (is.others wait_queues next q) [
    | inl its ↦ rw its.1 (new_at next its.0 (same its.0 (λ e. ne (its.1 ∙ ap s.waiter e))))
    | inr kept ↦ kept
  ]

  pub tied_still : (box : OutboxModel (Waiter × W)) {next : WaitQueueModel A W} {side : Waiters A W} →
      next ≡ record wait_queue { side = side } → AreBothTied wait_queues box → AreBothTied (s.with_queue wait_queues next) box
  tied_still box {next} {side} now was =
      tied_same (ticket_in wait_queues) (ticket_in (s.with_queue wait_queues next)) box.tickets box.pairs
      (λ q. elim (is.others wait_queues next q) [
        | inl its ↦ rw its.1 (new_at next its.0 (ap (λ (l : WaitQueueModel A W). finmap.get l.tickets its.0) now))
        | inr kept ↦ kept
      ]) was

  pub tied_inserted : (box : OutboxModel (Waiter × W)) (n t : ℕ) {next : WaitQueueModel A W} {side : Waiters A W} →
      finmap.get wait_queue.tickets n ≡ None → set.contains box.tickets t ≡ false →
      next ≡ record { side = side; tickets = finmap.insert wait_queue.tickets n t } → AreBothTied wait_queues box →
      IsTied (ticket_in (s.with_queue wait_queues next)) (set.insert box.tickets t) box.pairs
  tied_inserted box n t {next} {side} free unused now was =
      tied_made same_waiter waiter_test (ticket_in wait_queues) (ticket_in (s.with_queue wait_queues next)) (s.waiter n) t box.tickets
      box.pairs was
      (is.its_ticket wait_queues n ∙ ap (λ (l : WaitQueueModel A W). finmap.get l.tickets n) (sym lent) ∙ free) unused
      (is.new_ticket wait_queues next n ∙ ap (λ (l : WaitQueueModel A W). finmap.get l.tickets n) now
      ∙ get-insert_same wait_queue.tickets n t)
      (others n next (λ m ne. ap (λ (l : WaitQueueModel A W). finmap.get l.tickets m) now
      ∙ get-insert_other wait_queue.tickets n t m ne))

  pub tied_removed : (box after : OutboxModel (Waiter × W)) (n t : ℕ) {next : WaitQueueModel A W} {side : Waiters A W} →
      finmap.get wait_queue.tickets n ≡ Some t → next ≡ record { side = side; tickets = finmap.remove wait_queue.tickets n } →
      after.tickets ≡ set.remove box.tickets t → after.pairs ≡ without_pair t box.pairs → AreBothTied wait_queues box →
      AreBothTied (s.with_queue wait_queues next) after
  tied_removed box after n t {next} {side} at now tickets pairs was =
      tied_released same_waiter waiter_test (ticket_in wait_queues) (ticket_in (s.with_queue wait_queues next)) (s.waiter n) t box
      after was (its_ticket n t at)
      (is.new_ticket wait_queues next n ∙ ap (λ (l : WaitQueueModel A W). finmap.get l.tickets n) now
      ∙ get-remove_same wait_queue.tickets n)
      (others n next (λ m ne. ap (λ (l : WaitQueueModel A W). finmap.get l.tickets m) now
      ∙ get-remove_other wait_queue.tickets n m ne))
      tickets pairs

  pub changed : (box after : OutboxModel (Waiter × W)) {next : WaitQueueModel A W} (f : Waiters A W → Waiters A W) →
      next.side ≡ f wait_queue.side →
      let both = two_sides_of wait_queues box in
      two_sides_of (s.with_queue wait_queues next) after ≡ s.put both (f (s.waiters both)) (out_of after.pairs)
  changed box after {next} f now =
      is.seen_with wait_queues next box after
      ∙ ap (λ side. s.put (two_sides_of wait_queues box) side (out_of after.pairs)) (now ∙ ap f (sym (same_waiters box)))

  pub unchanged : (box : OutboxModel (Waiter × W)) {next : WaitQueueModel A W} → next ≡ wait_queue →
      two_sides_of (s.with_queue wait_queues next) box ≡ two_sides_of wait_queues box
  unchanged box {next} same =
      changed box box (λ side. side) (ap (λ (l : WaitQueueModel A W). l.side) same) ∙ is.put_back (two_sides_of wait_queues box)

  -- a live future was taken out of the outbox, or is named there
  module _ (box : OutboxModel (Waiter × W)) (was : AreBothTied wait_queues box) (n t : ℕ)
      (at : finmap.get wait_queue.tickets n ≡ Some t) where
    pub out_without : out_of (without_pair t box.pairs) ≡ without_by same_waiter (s.waiter n) (out_of box.pairs)
    out_without = out-without same_waiter waiter_test (ticket_in wait_queues) (s.waiter n) t box.tickets box.pairs was (its_ticket n t at)

    pub waker_out : waker_in_pair (waker_of t box.pairs) ≡ waker_by same_waiter (s.waiter n) (out_of box.pairs)
    waker_out = waker-out same_waiter waiter_test (ticket_in wait_queues) (s.waiter n) t box.tickets box.pairs was (its_ticket n t at)

    pub has_out : has_by same_waiter (s.waiter n) (out_of box.pairs) ≡ has t box.pairs
    has_out = has-out same_waiter waiter_test (ticket_in wait_queues) (s.waiter n) t box.tickets box.pairs was (its_ticket n t at)

    pub tied_named : (after : OutboxModel (Waiter × W)) (w : W) {next : WaitQueueModel A W} {side : Waiters A W} {q : Waiter} →
        next ≡ record wait_queue { side = side } → q ≡ s.waiter n → after.tickets ≡ box.tickets →
        after.pairs ≡ box.pairs ++ (t, (q, w)) ∷ [] → AreBothTied (s.with_queue wait_queues next) after
    tied_named after w {next} {side} {q} now name tickets pairs =
        tied_still after now
        (tied_after_name (ticket_in wait_queues) box was q t w after (ap (ticket_in wait_queues) name ∙ its_ticket n t at) tickets pairs)

    -- a registered one is named with the waker that it gave
    pub named : (after : OutboxModel (Waiter × W)) {next : WaitQueueModel A W} {r : Option W} {w : W} {q : Waiter} (phase : Phase W) →
        MatchOption (phase_of wait_queue.side n) ⊥ (λ before. r ≡ waker_in before) → r ≡ Some w →
        next ≡ record wait_queue { side = record wait_queue.side { live = with_phase wait_queue.side.live n phase } } → q ≡ s.waiter n →
        after.pairs ≡ box.pairs ++ (t, (q, w)) ∷ [] →
        two_sides_of (s.with_queue wait_queues next) after
        ≡ change_naming s (λ side. record side { live = with_phase side.live n phase }) (λ side. pair side n)
        (two_sides_of wait_queues box)
    named after {next} {r} {w} {q} phase gave some now name pairs =
        let both = two_sides_of wait_queues box in
        let f = λ (side : Waiters A W). let v : Waiters A W = record side { live = with_phase side.live n phase } in v in
        let its = registered_with (phase_of wait_queue.side n) r w gave some in
        let out : out_of after.pairs ≡ both.out ++ pairs_of s (pair (s.waiters both) n) =
        ap out_of pairs ∙ out-named box.pairs t q w ∙ ap (λ p. both.out ++ (p, w) ∷ []) name
        ∙ ap (λ p. both.out ++ pairs_of s (pair_of n p)) (sym its)
        ∙ ap (λ (side : Waiters A W). both.out ++ pairs_of s (pair side n)) (sym (same_waiters box)) in
        changed box after f (ap (λ (l : WaitQueueModel A W). l.side) now) ∙ ap (λ o. s.put both (f (s.waiters both)) o) out

-- The futures of a side are named, one after another.
module _ {D E A W : Type 0} {s : SideView D E A W} (is : IsSide s) (both : TwoSidesModel D E W) where
  -- one change after another, the last of which names
  then_change : {mid new : TwoSidesModel D E W} {side : Waiters A W} {out : List (Waiter × W)} (f : Waiters A W → Waiters A W) →
      mid ≡ s.put both side out → new ≡ change s f mid → new ≡ s.put both (f side) out
  then_change {side = side} {out = out} f was now =
      now ∙ ap (change s f) was
      ∙ (λ i. s.put (s.put both side out) (f (is.put_in both side out i)) (is.put_out both side out i))
      ∙ is.put_again both side (f side) out out

  then_name : {mid new : TwoSidesModel D E W} {side : Waiters A W} {out : List (Waiter × W)} (f : Waiters A W → Waiters A W)
      (named : Waiters A W → List (ℕ × W)) → mid ≡ s.put both side out → new ≡ change_naming s f named mid →
      new ≡ s.put both (f side) (out ++ pairs_of s (named side))
  then_name {side = side} {out = out} f named was now =
      now ∙ ap (change_naming s f named) was
      ∙ (λ i. s.put (s.put both side out) (f (is.put_in both side out i))
      (is.put_out both side out i ++ pairs_of s (named (is.put_in both side out i))))
      ∙ is.put_again both side (f side) out (out ++ pairs_of s (named side))

  abbrev noticed_with : Phase W → ℕ → TwoSidesModel D E W → TwoSidesModel D E W
  noticed_with phase n m =
      change_naming s (λ side. record side { live = with_phase side.live n phase }) (λ side. pair side n) m

  -- the oldest is named, and leaves the queue with this phase
  abbrev pub notify_one : Phase W → ℕ → List ℕ → TwoSidesModel D E W
  notify_one phase n others = change_naming s (λ side. noticed phase side n others) (λ side. pair side n) both

  module _ {mid : TwoSidesModel D E W} (n : ℕ) (others : List ℕ) (left : mid ≡ change s (λ side. record side { queue = others }) both) where
    pub next : (phase : Phase W) {new : TwoSidesModel D E W} → new ≡ noticed_with phase n mid → new ≡ notify_one phase n others
    next phase now =
        then_name (λ side. record side { live = with_phase side.live n phase }) (λ side. pair side n) left now

    module _ (was : IsOrdered (s.waiters both) (s.pairs_in both.out)) (queue : (s.waiters both).queue ≡ n ∷ others) where
      registered : is_registered (phase_of (s.waiters both) n) ≡ true
      registered = first_registered (s.waiters both) (s.pairs_in both.out) n others was queue

      free : has_by same_waiter (s.waiter n) both.out ≡ false
      free =
          is.has n both.out ∙ no_pair is_registered registered_rule (s.waiters both) (s.pairs_in both.out) n was registered

      -- The first of the queue is registered, and has no pair, whatever else of its side has changed.
      abbrev Stands : TwoSidesModel D E W → Type 0
      Stands m = (is_registered (phase_of (s.waiters m) n) ≡ true) × (has_by same_waiter (s.waiter n) m.out ≡ false)

      stands : {later : TwoSidesModel D E W} {side : Waiters A W} → later ≡ s.put both side both.out →
          is_registered (phase_of side n) ≡ true → Stands later
      stands {side = side} now waits = rw (now, is.put_in both side both.out, is.put_out both side both.out) (waits, free)

      pub first_stands : Stands mid
      first_stands = stands left registered

      -- the same once it asks for something else
      module _ (asks : A) {asked : TwoSidesModel D E W} (is_asked : asked ≡ change s (λ side. exchange side n asks) mid) where
        exchanged : asked ≡ s.put both (exchange (record (s.waiters both) { queue = others }) n asks) both.out
        exchanged = then_change (λ side. exchange side n asks) left is_asked

        pub asked_stands : Stands asked
        asked_stands = stands exchanged (ap is_registered (phase-with_asks (s.waiters both).live n asks n) ∙ registered)

    pub asks_first : (s.waiters both).queue ≡ n ∷ others → asks_of (s.waiters mid) n ≡ asks_of_oldest (s.waiters both)
    asks_first queue =
        ap (λ (m : TwoSidesModel D E W). asks_of (s.waiters m) n) left
        ∙ ap (λ (side : Waiters A W). asks_of side n) (is.put_in both _ both.out)
        ∙ ap (asks_of_first (s.waiters both)) (sym queue)

    -- the oldest is told
    pub told : (phase : Phase W) {new : TwoSidesModel D E W} → (s.waiters both).queue ≡ n ∷ others →
        new ≡ noticed_with phase n mid → new ≡ change_naming s (pop_oldest phase) pair_of_oldest both
    told phase queue now = next phase now ∙ ap (λ (names : List ℕ). s.put both (pop_first phase (s.waiters both) names)
        (both.out ++ pairs_of s (pair_of_first (s.waiters both) names))) (sym queue)

    -- the oldest is complete, and asks for this
    pub completed : (asks : A) {asked new : TwoSidesModel D E W} → (s.waiters both).queue ≡ n ∷ others →
        asked ≡ change s (λ side. exchange side n asks) mid → new ≡ noticed_with Complete n asked →
        new ≡ change_naming s (complete_oldest asks) pair_of_oldest both
    completed asks queue is_asked now =
        then_name (λ side. record side { live = with_phase side.live n Complete }) (λ side. pair side n)
        (then_change (λ side. exchange side n asks) left is_asked) now
        ∙ (λ i. s.put both (noticed Complete (exchange (s.waiters both) n asks) n others)
        (both.out ++ pairs_of s (pair_of n (phase-with_asks (s.waiters both).live n asks n i))))
        ∙ ap (λ (names : List ℕ). s.put both (complete_first asks (s.waiters both) names)
        (both.out ++ pairs_of s (pair_of_first (s.waiters both) names))) (sym queue)

  module _ (phase : Phase W) where
    pub notify-none : (s.waiters both).queue ≡ [] → notify s phase both ≡ both
    notify-none none =
        let side = emptied-none phase (s.waiters both) none in
        let out = marked-none (λ (p : ℕ × W). (s.waiter p.0, p.1)) phase (s.waiters both) both.out none in
        (λ i. s.put both (side i) (out i)) ∙ is.put_back both

    module _ (n : ℕ) (others : List ℕ) (was : IsOrdered (s.waiters both) (s.pairs_in both.out))
        (queue : (s.waiters both).queue ≡ n ∷ others) where
      abbrev side : Waiters A W
      side = noticed phase (s.waiters both) n others

      abbrev out : List (Waiter × W)
      out = both.out ++ pairs_of s (pair (s.waiters both) n)

      pub notify-step : notify s phase (notify_one phase n others) ≡ notify s phase both
      notify-step =
          let names = marked-step (λ (p : ℕ × W). (s.waiter p.0, p.1)) phase (s.waiters both) (s.pairs_in both.out) both.out n others was
          queue in
          let left = emptied-step phase (s.waiters both) (s.pairs_in both.out) n others was queue in
          then_name {side = side} {out = out} (clear_queue phase) named_all refl refl ∙ (λ i. s.put both (left i) (names i))

      pub ordered : may_be_named (Some phase) ≡ true →
          IsOrdered (s.waiters (notify_one phase n others)) (s.pairs_in (notify_one phase n others).out)
      ordered may =
          rw (is.put_in both side out, is.put_out both side out, is.added both.out (pair (s.waiters both) n))
          (ordered-next phase (record { side = s.waiters both; out = s.pairs_in both.out }) n others may was queue)
