-- The entries of a list, seen as a wait queue of futures with tickets.
use Rattle.std.proofs.Common.{◌≡◌, ℕ, Bool, true, false, Bor, List, [], ◌∷◌, ◌++◌, Option, Some, None, MatchOption, is_some, option_copied}
use Rattle.std.proofs.Common.{cond, map, reverse, refl, sym, ap, ◌∙◌}
use Rattle.std.proofs.lemmas.List.{reverse-append, reverse-reverse, append_assoc}
use Rattle.std.specs.Option.{IsSome, option_map}
use Rattle.std.specs.Ordering.{nat_cmp, eq_by_cmp}
use Rattle.std.specs.Cmp.{nat_cmp_total}
use Rattle.std.specs.FinMap as finmap
use Rattle.fi_parts.specs.declared.errors.Slot.{Slot}
use Rattle.fi_parts.specs.declared.phase.Phase.{Phase}
use Rattle.fi_parts.specs.declared.phase.Phase.TheVariants.{Fresh, Registered}
use Rattle.fi_parts.specs.declared.outbox.Ticket.{Ticket}
use Rattle.fi_parts.specs.declared.wait_queue.Ticketed.{Ticketed}
use Rattle.fi_parts.specs.ListModel.{ListModel, item_of, with_live, at_end}
use Rattle.fi_parts.specs.Order.{holds, without, youngest}
use Rattle.fi_parts.specs.Waiting.{phase_in, phase_of, asks_in, asks_of, waker_in, insert_fresh, registered, without_future, rephased}
use Rattle.fi_parts.specs.Waiting.{pair_of, with_phase, with_asks_in, with_asks}
use Rattle.fi_parts.specs.WaitQueueModel.{WaitQueueModel, mapped, future_of, ticket_of, wait_queue_of, empty_wait_queue}
use Rattle.fi_parts.proofs.FiniteMaps.{same_maps, insert_known, get-insert_same, get-insert_other, get-remove_same, get-remove_other}
use Rattle.fi_parts.proofs.Queues.{reverse_cons, reverse-without, holds-reverse}

-- a queue is its list's order reversed, also where it is cut
pub order-cut : (order : List ℕ) (k : ℕ) (front rest : List ℕ) → reverse order ≡ front ++ k ∷ rest
    → order ≡ reverse rest ++ k ∷ reverse front
order-cut order k front rest is =
    sym (reverse-reverse order) ∙ ap reverse is ∙ reverse-append front (k ∷ rest)
    ∙ ap (λ zs. zs ++ reverse front) (reverse_cons k rest) ∙ append_assoc (reverse rest) (k ∷ []) (reverse front)

-- the last of a list is the first of it reversed
pub next-reversed : (rest : List ℕ) (found : Option Slot)
    → MatchOption found (reverse rest ≡ []) (λ next. (others : List ℕ) × (reverse rest ≡ others ++ next.0 ∷ []))
    → MatchOption found (rest ≡ []) (λ next. (others : List ℕ) × (rest ≡ next.0 ∷ others))
next-reversed rest None none = sym (reverse-reverse rest) ∙ ap reverse none
next-reversed rest (Some next) last =
    (reverse last.0, sym (reverse-reverse rest) ∙ ap reverse last.1 ∙ reverse-append last.0 (next.0 ∷ []))

-- A map with a function of each value.
module _ {A B : Type 0} (f : A → B) where
  find-mapped : (q : ℕ) (es : List (ℕ × A)) →
      finmap.find nat_cmp q (map (λ e. (e.0, f e.1)) es) ≡ option_map f (finmap.find nat_cmp q es)
  find-mapped q [] = refl
  find-mapped q (e ∷ es) =
      elim (eq_by_cmp nat_cmp q e.0) as (λ b. cond b (Some (f e.1)) (finmap.find nat_cmp q (map (λ e'. (e'.0, f e'.1)) es)) ≡ option_map f
      (cond b (Some e.1) (finmap.find nat_cmp q es))) [ true ↦ refl | false ↦ find-mapped q es ]

  pub get-mapped : (live : finmap.FinMap nat_cmp A) (q : ℕ) →
      finmap.get (mapped f live) q ≡ option_map f (finmap.get live q)
  unfolding mapped
  get-mapped live q =
      finmap.get-from_entries nat_cmp_total (map (λ e. (e.0, f e.1)) (finmap.entries live)) q
      ∙ find-mapped q (finmap.entries live) ∙ ap (option_map f) (sym (finmap.get-entries live q))

  pub mapped-empty : mapped f finmap.empty ≡ finmap.empty
  mapped-empty =
      finmap.same_map nat_cmp_total finmap.nat_cmp-IsAntisymmetric _ _
      (λ q. get-mapped _ q ∙ ap (option_map f) (finmap.get-empty nat_cmp q) ∙ sym (finmap.get-empty nat_cmp q))

  pub mapped-insert : (live : finmap.FinMap nat_cmp A) (n : ℕ) (a : A) →
      mapped f (finmap.insert live n a) ≡ finmap.insert (mapped f live) n (f a)
  mapped-insert live n a =
      same_maps _ _ n (get-mapped _ n ∙ ap (option_map f) (get-insert_same live n a) ∙ sym (get-insert_same (mapped f live) n (f a)))
      (λ q ne. get-mapped _ q ∙ ap (option_map f) (get-insert_other live n a q ne) ∙ sym (get-mapped live q)
      ∙ sym (get-insert_other (mapped f live) n (f a) q ne))

  pub mapped-remove : (live : finmap.FinMap nat_cmp A) (n : ℕ) →
      mapped f (finmap.remove live n) ≡ finmap.remove (mapped f live) n
  mapped-remove live n =
      same_maps _ _ n (get-mapped _ n ∙ ap (option_map f) (get-remove_same live n) ∙ sym (get-remove_same (mapped f live) n))
      (λ q ne. get-mapped _ q ∙ ap (option_map f) (get-remove_other live n q ne) ∙ sym (get-mapped live q)
      ∙ sym (get-remove_other (mapped f live) n q ne))

  -- another value with the same image
  mapped-kept : (live : finmap.FinMap nat_cmp A) (n : ℕ) (a b : A) → finmap.get live n ≡ Some a → f b ≡ f a →
      mapped f (finmap.insert live n b) ≡ mapped f live
  mapped-kept live n a b is kept =
      mapped-insert live n b ∙ insert_known (mapped f live) n (f b) (get-mapped live n ∙ ap (option_map f) is ∙ ap Some (sym kept))

module _ {D W : Type 0} where
  abbrev pub phase_at : Option (Ticketed D W) → Option (Phase W)
  phase_at o = phase_in (option_map future_of o)

  abbrev pub asks_at : Option (Ticketed D W) → Option D
  asks_at o = asks_in (option_map future_of o)

  pub phase-seen : (live : finmap.FinMap nat_cmp (Ticketed D W)) (n : ℕ) →
      phase_in (finmap.get (mapped future_of live) n) ≡ phase_at (finmap.get live n)
  phase-seen live n = ap phase_in (get-mapped future_of live n)

  pub asks-seen : (live : finmap.FinMap nat_cmp (Ticketed D W)) (n : ℕ) →
      asks_in (finmap.get (mapped future_of live) n) ≡ asks_at (finmap.get live n)
  asks-seen live n = ap asks_in (get-mapped future_of live n)

  -- what is live to a caller is live in the list
  pub entry_lives : (live : finmap.FinMap nat_cmp (Ticketed D W)) (n : ℕ) → IsSome (finmap.get (mapped future_of live) n) →
      IsSome (finmap.get live n)
  entry_lives live n lives = step (finmap.get live n) (sym (ap is_some (get-mapped future_of live n)) ∙ lives)
    where
      step : (o : Option (Ticketed D W)) → IsSome (option_map future_of o) → IsSome o
      step None h = h
      step (Some e) h = refl

  abbrev fresh : Ticket → D → Ticketed D W
  fresh ticket asks = record { ticket = ticket; future = record { asks = asks; phase = Fresh } }

  -- the entry with another phase, or asking for something else
  abbrev at_phase : Ticketed D W → Phase W → Ticketed D W
  at_phase e phase = record e { future = record e.future { phase = phase } }

  abbrev at_asks : Ticketed D W → D → Ticketed D W
  at_asks e asks = record e { future = record e.future { asks = asks } }

  futures-with_phase : (live : finmap.FinMap nat_cmp (Ticketed D W)) (n : ℕ) (e : Ticketed D W) (phase : Phase W) →
      finmap.get live n ≡ Some e →
      mapped future_of (finmap.insert live n (at_phase e phase)) ≡ with_phase (mapped future_of live) n phase
  unfolding with_phase
  futures-with_phase live n e phase is =
      mapped-insert future_of live n (at_phase e phase)
      ∙ sym (ap (rephased (mapped future_of live) n phase) (get-mapped future_of live n ∙ ap (option_map future_of) is))

  futures-with_asks : (live : finmap.FinMap nat_cmp (Ticketed D W)) (n : ℕ) (e : Ticketed D W) (asks : D) →
      finmap.get live n ≡ Some e →
      mapped future_of (finmap.insert live n (at_asks e asks)) ≡ with_asks (mapped future_of live) n asks
  unfolding with_asks
  futures-with_asks live n e asks is =
      mapped-insert future_of live n (at_asks e asks)
      ∙ sym
      (ap (with_asks_in (mapped future_of live) n asks) (get-mapped future_of live n ∙ ap (option_map future_of) is))

  module _ (list : ListModel (Ticketed D W)) where
    abbrev seen : WaitQueueModel D W
    seen = wait_queue_of list

    pub free_name : (n : ℕ) → finmap.get list.live n ≡ None → phase_of seen.side n ≡ None
    free_name n free = phase-seen list.live n ∙ ap phase_at free

    pub free_ticket : (n : ℕ) → finmap.get list.live n ≡ None → finmap.get seen.tickets n ≡ None
    free_ticket n free = get-mapped ticket_of list.live n ∙ ap (option_map ticket_of) free

    pub its_ticket : (n : ℕ) (e : Ticketed D W) → finmap.get list.live n ≡ Some e →
        finmap.get seen.tickets n ≡ Some e.ticket.0
    its_ticket n e is = get-mapped ticket_of list.live n ∙ ap (option_map ticket_of) is

    pub its_phase : (n : ℕ) (e : Ticketed D W) → finmap.get list.live n ≡ Some e →
        phase_of seen.side n ≡ Some e.future.phase
    its_phase n e is = phase-seen list.live n ∙ ap phase_at is

    pub its_asks : (n : ℕ) (e : Ticketed D W) → finmap.get list.live n ≡ Some e → asks_of seen.side n ≡ Some e.future.asks
    its_asks n e is = asks-seen list.live n ∙ ap asks_at is

    pub its_future : (n : ℕ) (e : Ticketed D W) → finmap.get list.live n ≡ Some e →
        finmap.get seen.side.live n ≡ Some e.future
    its_future n e is = get-mapped future_of list.live n ∙ ap (option_map future_of) is

    pub seen-inserted : (n : ℕ) (ticket : Ticket) (asks : D) (after : ListModel (Ticketed D W)) →
        after ≡ with_live list (finmap.insert list.live n (fresh ticket asks)) →
        wait_queue_of after ≡ record { side = insert_fresh seen.side n asks; tickets = finmap.insert seen.tickets n ticket.0 }
    seen-inserted n ticket asks after is = rw is (λ i. record {
      side = record { live = mapped-insert future_of list.live n (fresh ticket asks) i; queue = reverse list.order };
      tickets = mapped-insert ticket_of list.live n (fresh ticket asks) i;
    })

    abbrev PhaseAt : ℕ → Phase W → ListModel (Ticketed D W) → Type 0
    PhaseAt n phase after =
        (e : Ticketed D W) × (finmap.get list.live n ≡ Some e) ×
        (after ≡ with_live list (finmap.insert list.live n (at_phase e phase)))

    pub seen-phase : (n : ℕ) (phase : Phase W) (after : ListModel (Ticketed D W)) → PhaseAt n phase after →
        wait_queue_of after ≡ record seen { side = record seen.side { live = with_phase seen.side.live n phase } }
    seen-phase n phase after is = rw is.2 (λ i. record {
      side = record { live = futures-with_phase list.live n is.0 phase is.1 i; queue = reverse list.order };
      tickets = mapped-kept ticket_of list.live n is.0 (at_phase is.0 phase) is.1 refl i;
    })

    pub seen-asks : (n : ℕ) (asks : D) (e : Ticketed D W) (after : ListModel (Ticketed D W)) → finmap.get list.live n ≡ Some e →
        after ≡ with_live list (finmap.insert list.live n (at_asks e asks)) →
        wait_queue_of after ≡ record seen { side = record seen.side { live = with_asks seen.side.live n asks } }
    seen-asks n asks e after is now = rw now (λ i. record {
      side = record { live = futures-with_asks list.live n e asks is i; queue = reverse list.order };
      tickets = mapped-kept ticket_of list.live n e (at_asks e asks) is refl i;
    })

    pub seen-registered : (n : ℕ) (waker : W) (mid after : ListModel (Ticketed D W)) → PhaseAt n (Registered waker) mid →
        after.live ≡ mid.live → after.order ≡ n ∷ mid.order → wait_queue_of
        after ≡ record seen { side = registered seen.side n waker }
    seen-registered n waker mid after is live order =
        let m : wait_queue_of mid
        ≡ record seen { side = record seen.side { live = with_phase seen.side.live n (Registered waker) } } =
        seen-phase n (Registered waker) mid is in
        let lives : mapped future_of after.live ≡ with_phase seen.side.live n (Registered waker) =
        ap (mapped future_of) live ∙ ap (λ (w : WaitQueueModel D W). w.side.live) m in
        let tickets : mapped ticket_of after.live ≡ seen.tickets =
        ap (mapped ticket_of) live ∙ ap (λ (w : WaitQueueModel D W). w.tickets) m in
        let queue : reverse after.order ≡ reverse list.order ++ n ∷ [] =
        ap reverse (order ∙ ap (λ (l : ListModel (Ticketed D W)). n ∷ l.order) is.2) ∙ reverse_cons n list.order in
        λ i. record { side = record { live = lives i; queue = queue i }; tickets = tickets i }

    -- put in front, and registered there
    pub seen-joined : (n : ℕ) (waker : W) (mid after : ListModel (Ticketed D W)) → mid.live ≡ list.live →
        mid.order ≡ n ∷ list.order →
        ((e : Ticketed D W) × (item_of mid (youngest mid.order) ≡ Some e)
        × (after ≡ at_end mid (youngest mid.order) (at_phase e (Registered waker)))) →
        wait_queue_of after ≡ record seen { side = registered seen.side n waker }
    seen-joined n waker mid after live order set =
        let e = set.0 in
        let at : finmap.get list.live n ≡ Some e =
        ap (λ l. finmap.get l n) (sym live) ∙ ap (λ o. item_of mid (youngest o)) (sym order) ∙ set.1 in
        let is : after ≡ with_live mid (finmap.insert mid.live n (at_phase e (Registered waker))) =
        set.2 ∙ ap (λ o. at_end mid (youngest o) (at_phase e (Registered waker))) order in
        seen-registered n waker (with_live list (finmap.insert list.live n (at_phase e (Registered waker)))) after
        (e, at, refl)
        (ap (λ (l : ListModel (Ticketed D W)). l.live) is
        ∙ ap (λ l. finmap.insert l n (at_phase e (Registered waker))) live)
        (ap (λ (l : ListModel (Ticketed D W)). l.order) is ∙ order)

    pub live-after : (n : ℕ) (phase : Phase W) (after : ListModel (Ticketed D W)) → PhaseAt n phase after →
        IsSome (finmap.get after.live n)
    live-after n phase after is =
        ap (λ (l : ListModel (Ticketed D W)). is_some (finmap.get l.live n)) is.2
        ∙ ap is_some (get-insert_same list.live n (at_phase is.0 phase))

    pub apart-after : (n : ℕ) (phase : Phase W) (after : ListModel (Ticketed D W)) → PhaseAt n phase after →
        holds n seen.side.queue ≡ false → holds n after.order ≡ false
    apart-after n phase after is apart =
        ap (λ (l : ListModel (Ticketed D W)). holds n l.order) is.2 ∙ sym (holds-reverse n list.order) ∙ apart

    pub seen-removed : (n : ℕ) (after : ListModel (Ticketed D W)) → after.live ≡ finmap.remove list.live n →
        after.order ≡ without n list.order →
        wait_queue_of after ≡ record { side = without_future seen.side n; tickets = finmap.remove seen.tickets n }
    seen-removed n after gone order =
        let lives : mapped future_of after.live ≡ finmap.remove seen.side.live n =
        ap (mapped future_of) gone ∙ mapped-remove future_of list.live n in
        let tickets : mapped ticket_of after.live ≡ finmap.remove seen.tickets n =
        ap (mapped ticket_of) gone ∙ mapped-remove ticket_of list.live n in
        let queue : reverse after.order ≡ without n (reverse list.order) =
        ap reverse order ∙ reverse-without n list.order in
        λ i. record { side = record { live = lives i; queue = queue i }; tickets = tickets i }

    -- the queue's first is the list's last
    pub oldest-first : (n : ℕ) (front : List ℕ) → list.order ≡ front ++ n ∷ [] → seen.side.queue ≡ n ∷ reverse front
    oldest-first n front is = ap reverse is ∙ reverse-append front (n ∷ [])

    -- only the queue has changed
    pub seen-queue : (after : ListModel (Ticketed D W)) (queue : List ℕ) → after.live ≡ list.live →
        reverse after.order ≡ queue →
        wait_queue_of after ≡ record seen { side = record seen.side { queue = queue } }
    seen-queue after queue live order =
        let lives : mapped future_of after.live ≡ mapped future_of list.live = ap (mapped future_of) live in
        let tickets : mapped ticket_of after.live ≡ seen.tickets = ap (mapped ticket_of) live in
        λ i. record { side = record { live = lives i; queue = order i }; tickets = tickets i }

pub wait_queue-empty : (D W : Type 0) →
    wait_queue_of (record { live = finmap.empty; order = []; visits = 0 }) ≡ empty_wait_queue {D = D} {W = W}
wait_queue-empty D W = λ i. record {
  side = record { live = mapped-empty (future_of {D = D} {W = W}) i; queue = [] };
  tickets = mapped-empty (ticket_of {D = D} {W = W}) i;
}

pub some_from_copied : {X : Type 0} (r : Option (Bor X)) → IsSome (option_copied r) → IsSome r
some_from_copied None h = h
some_from_copied (Some x) h = refl

module _ {W : Type 0} where
  -- who gave a waker was registered with it
  pub registered_with : (p : Option (Phase W)) (r : Option W) (w : W) →
      MatchOption p ⊥ (λ before. r ≡ waker_in before) → r ≡ Some w → p ≡ Some (Registered w)
  registered_with None r w h e = absurd h
  registered_with (Some (Registered v)) r w h e = let same : v ≡ w = cc in ap (λ z. Some (Registered z)) same
  registered_with p r w h e = absurd (cc)

  -- and who gave none has no pair to be named by
  pub pairless : (p : Option (Phase W)) (r : Option W) (n : ℕ) → MatchOption p ⊥ (λ before. r ≡ waker_in before) →
      r ≡ None → pair_of n p ≡ []
  pairless (Some (Registered v)) r n h e = absurd (cc)
  pairless p r n h e = refl

module _ {D W : Type 0} where
  -- the tickets stay, whoever left the queue
  pub left_tickets : (r : Option Slot) (old new : WaitQueueModel D W) →
      MatchOption r ((old.side.queue ≡ []) × (new ≡ old))
      (λ slot. (others : List ℕ) × (old.side.queue ≡ slot.0 ∷ others) ×
      (new ≡ record old { side = record old.side { queue = others } })) →
      new.tickets ≡ old.tickets
  left_tickets None old new left = ap (λ (l : WaitQueueModel D W). l.tickets) left.1
  left_tickets (Some slot) old new left = ap (λ (l : WaitQueueModel D W). l.tickets) left.2
