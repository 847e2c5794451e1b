-- One side of two: which wait queue, which futures and which pairs of the outbox are its.
use Rattle.std.specs.Prelude.{◌≡◌, ◌⊎◌, ℕ, Option, List, ◌++◌, map}
use Rattle.std.specs.FinMap as finmap
use Rattle.fi_parts.specs.WaitQueueModel.{WaitQueueModel}
use Rattle.fi_parts.specs.NamedPairs.{has_by}
use Rattle.fi_parts.specs.Pairs.{OutboxModel, has}
use Rattle.fi_parts.specs.Tied.{out_of, IsTied}
use Rattle.fi_parts.specs.Waiting.{Waiters, clear_queue, named_all}
use Rattle.fi_parts.specs.declared.phase.Phase.{Phase}
use Rattle.fi_channels.specs.TwoSidesModel.{TwoSidesModel}
use Rattle.fi_channels.specs.Waiter.{same_waiter, ticket_of_waiter, sends_in, receives_in}
use Rattle.fi_channels.specs.declared.channel.two_sides.WaitQueues.{WaitQueues}
use Rattle.fi_channels.specs.declared.channel.two_sides.Waiter.{Waiter}
use Rattle.fi_channels.specs.declared.channel.two_sides.Waiter.TheVariants.{Send, Receive}

module _ {D E W : Type 0} where
  abbrev pub two_sides_of : WaitQueues D E W → OutboxModel (Waiter × W) → TwoSidesModel D E W
  two_sides_of wait_queues box = record { sends = wait_queues.sends.side; receives = wait_queues.receives.side; out = out_of box.pairs }

  abbrev pub ticket_in : WaitQueues D E W → Waiter → Option ℕ
  ticket_in wait_queues = ticket_of_waiter wait_queues.sends.tickets wait_queues.receives.tickets

  -- The tickets of both wait queues and the pairs of the outbox go together.
  abbrev pub AreBothTied : WaitQueues D E W → OutboxModel (Waiter × W) → Type 0
  AreBothTied wait_queues box = IsTied (ticket_in wait_queues) box.tickets box.pairs

-- What belongs to a side whose futures ask for A, where the sends ask for D and the receives for E.
pub record SideView (D E A W : Type 0) : Type 0 where
  pub waiter : ℕ → Waiter
  pub wait_queue : WaitQueues D E W → WaitQueueModel A W
  -- both wait queues, this one in the place of the side's
  pub with_queue : WaitQueues D E W → WaitQueueModel A W → WaitQueues D E W
  pub waiters : TwoSidesModel D E W → Waiters A W
  -- both sides, with these futures on this one, and these pairs
  pub put : TwoSidesModel D E W → Waiters A W → List (Waiter × W) → TwoSidesModel D E W
  pub pairs_in : List (Waiter × W) → List (ℕ × W)

module _ {D E W : Type 0} where
  abbrev pub sends_side : SideView D E D W
  sends_side = record {
    waiter = Send;
    wait_queue = λ wait_queues. wait_queues.sends;
    with_queue = λ wait_queues wait_queue. record wait_queues { sends = wait_queue };
    waiters = λ both. both.sends;
    put = λ both side out. record both { sends = side; out = out };
    pairs_in = sends_in;
  }

  abbrev pub receives_side : SideView D E E W
  receives_side = record {
    waiter = Receive;
    wait_queue = λ wait_queues. wait_queues.receives;
    with_queue = λ wait_queues wait_queue. record wait_queues { receives = wait_queue };
    waiters = λ both. both.receives;
    put = λ both side out. record both { receives = side; out = out };
    pairs_in = receives_in;
  }

module _ {D E A W : Type 0} (s : SideView D E A W) where
  -- the pairs of these slots of the side
  abbrev pub pairs_of : List (ℕ × W) → List (Waiter × W)
  pairs_of pairs = map (λ p. (s.waiter p.0, p.1)) pairs

  -- the side's futures changed in this way
  abbrev pub change : (Waiters A W → Waiters A W) → TwoSidesModel D E W → TwoSidesModel D E W
  change f both = s.put both (f (s.waiters both)) both.out

  -- the same, and these of the side are named
  abbrev pub change_naming : (Waiters A W → Waiters A W) → (Waiters A W → List (ℕ × W)) →
      TwoSidesModel D E W → TwoSidesModel D E W
  change_naming f named both = s.put both (f (s.waiters both)) (both.out ++ pairs_of (named (s.waiters both)))

  -- all queued futures of the side leave the queue with this phase and are named, in order
  abbrev pub notify : Phase W → TwoSidesModel D E W → TwoSidesModel D E W
  notify phase both = change_naming (clear_queue phase) named_all both

  -- Wait queue, futures and pairs are those of one side, and the other side has the rest.
  pub record IsSide : Type 0 where
    pub seen : (wait_queues : WaitQueues D E W) (box : OutboxModel (Waiter × W)) →
        s.waiters (two_sides_of wait_queues box) ≡ (s.wait_queue wait_queues).side
    pub seen_with : (wait_queues : WaitQueues D E W) (wait_queue : WaitQueueModel A W) (box after : OutboxModel (Waiter × W)) →
        two_sides_of (s.with_queue wait_queues wait_queue) after ≡ s.put (two_sides_of wait_queues box) wait_queue.side (out_of after.pairs)
    pub its_ticket : (wait_queues : WaitQueues D E W) (slot : ℕ) →
        ticket_in wait_queues (s.waiter slot) ≡ finmap.get (s.wait_queue wait_queues).tickets slot
    pub new_ticket : (wait_queues : WaitQueues D E W) (wait_queue : WaitQueueModel A W) (slot : ℕ) →
        ticket_in (s.with_queue wait_queues wait_queue) (s.waiter slot) ≡ finmap.get wait_queue.tickets slot
    pub others : (wait_queues : WaitQueues D E W) (wait_queue : WaitQueueModel A W) (waiter : Waiter) →
        ((slot : ℕ) × (waiter ≡ s.waiter slot)) ⊎ (ticket_in (s.with_queue wait_queues wait_queue) waiter ≡ ticket_in wait_queues waiter)
    pub put_in : (both : TwoSidesModel D E W) (side : Waiters A W) (out : List (Waiter × W)) →
        s.waiters (s.put both side out) ≡ side
    pub put_out : (both : TwoSidesModel D E W) (side : Waiters A W) (out : List (Waiter × W)) →
        (s.put both side out).out ≡ out
    pub put_again : (both : TwoSidesModel D E W) (side next : Waiters A W) (out last : List (Waiter × W)) →
        s.put (s.put both side out) next last ≡ s.put both next last
    pub put_back : (both : TwoSidesModel D E W) → s.put both (s.waiters both) both.out ≡ both
    pub has : (slot : ℕ) (out : List (Waiter × W)) → has_by same_waiter (s.waiter slot) out ≡ has slot (s.pairs_in out)
    pub added : (out : List (Waiter × W)) (pairs : List (ℕ × W)) →
        s.pairs_in (out ++ pairs_of pairs) ≡ s.pairs_in out ++ pairs
