use Rattle.std.proofs.Common.{◌≡◌, ℕ, Option, Some, None, IfSome, IfNone, OnSome, sym, ap}
use Rattle.fi_parts.specs.declared.wait_queue.Ticketed.{Ticketed}
use Rattle.fi_parts.specs.WaitQueueModel.{wait_queue_of}
use Rattle.fi_parts.specs.ListModel.{ListModel, item}
use Rattle.fi_parts.specs.Order.{without}
use Rattle.fi_parts.specs.Waiting.{phase_of, without_future}
use Rattle.std.specs.FinMap as map
use Rattle.fi_parts.proofs.WaitQueues.{its_ticket, its_future, free_name, seen-removed}
use Rattle.fi_parts.proofs.wait_queue.WaitQueue.remove.Goals as goal

module _ {D W : Type 0} (old : ListModel (Ticketed D W)) (name : ℕ) where
  left : (result : Option (Ticketed D W)) (new : ListModel (Ticketed D W)) → result ≡ item old name →
      OnSome result (new.live ≡ map.remove old.live name) → OnSome result (new.order ≡ without name old.order) →
      IfNone result (new ≡ old) →
      IfSome result (λ entry. map.get (wait_queue_of old).tickets name ≡ Some entry.ticket.0)
      × IfSome result (λ entry. map.get (wait_queue_of old).side.live name ≡ Some entry.future)
      × OnSome result (wait_queue_of new ≡ record {
        side = without_future (wait_queue_of old).side name;
        tickets = map.remove (wait_queue_of old).tickets name;
      })
      × IfNone result ((phase_of (wait_queue_of old).side name ≡ None) × (wait_queue_of new ≡ wait_queue_of old))
  left (Some entry) new is live order same =
      (its_ticket old name entry (sym is), its_future old name entry (sym is), seen-removed old name new live order, tt)
  left None new is live order same = (tt, tt, tt, (free_name old name (sym is), ap wait_queue_of same))

pub returns : goal.returns
returns g c =
    let did = c.remove_and_free.ensures in
    let all = left c.self.inside.list c.args.slot.0 c.remove_and_free.result c.remove_and_free.new.self did.value did.live did.order
    did.absent in
    rw (← c.self.view_is) (record { ticket = all.0; future = all.1; removed = all.2; absent = all.3 })
