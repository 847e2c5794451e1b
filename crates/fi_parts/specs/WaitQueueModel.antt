-- A wait queue: futures, the queue of those that wait, and a ticket of each in an outbox that may serve other wait queues too.
use Rattle.std.specs.Prelude.{ℕ, map, reverse, refl}
use Rattle.std.specs.Coded.{Coded, code_by, coded×, coded_ℕ}
use Rattle.std.specs.Ordering.{nat_cmp}
use Rattle.std.specs.FinMap as finmap
use Rattle.fi_parts.specs.declared.phase.LiveFuture.{LiveFuture}
use Rattle.fi_parts.specs.declared.wait_queue.Ticketed.{Ticketed}
use Rattle.fi_parts.specs.Codes.{waiters_code}
use Rattle.fi_parts.specs.ListModel.{ListModel}
use Rattle.fi_parts.specs.Waiting.{Waiters, no_futures}

-- The futures and their queue, and the ticket of each.
pub record WaitQueueModel (D W : Type 0) : Type 0 where
  pub side : Waiters D W
  pub tickets : finmap.FinMap nat_cmp ℕ

module _ {A B : Type 0} where
  -- the map with this function of each value
  unfoldable pub mapped : (A → B) → finmap.FinMap nat_cmp A → finmap.FinMap nat_cmp B
  mapped f live = finmap.from_entries (map (λ e. (e.0, f e.1)) (finmap.entries live))

module _ {D W : Type 0} where
  abbrev pub wait_queue_code : Coded D → Coded W → Coded (WaitQueueModel D W)
  wait_queue_code d w =
      code_by (Waiters D W × finmap.FinMap nat_cmp ℕ) (coded× (waiters_code d w) (finmap.code coded_ℕ coded_ℕ))
      (λ l. (l.side, l.tickets)) (λ p. record { side = p.0; tickets = p.1 }) (λ _. refl)

  abbrev pub future_of : Ticketed D W → LiveFuture D W
  future_of entry = entry.future

  abbrev pub ticket_of : Ticketed D W → ℕ
  ticket_of entry = entry.ticket.0

  abbrev pub wait_queue_of : ListModel (Ticketed D W) → WaitQueueModel D W
  wait_queue_of list = record {
    side = record { live = mapped future_of list.live; queue = reverse list.order };
    tickets = mapped ticket_of list.live;
  }

  -- no future, and so no ticket
  abbrev pub empty_wait_queue : WaitQueueModel D W
  empty_wait_queue = record { side = no_futures; tickets = finmap.empty }
