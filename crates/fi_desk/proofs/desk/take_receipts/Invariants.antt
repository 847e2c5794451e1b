use Rattle.std.proofs.Common.{◌≡◌, ◌≤◌, ◌<◌, ◌+◌, length, drop}
use Rattle.std.specs.List.{AllWithin}
use Rattle.fi_desk.specs.Desk.{Matches, receipt_count}
use Rattle.fi_desk.proofs.desk.take_receipts.Given as goal

abbrev pub invariant-loop-left : goal.invariant-loop-left
invariant-loop-left g l = record {
  bounded : l.left ≤ length l.fn.history;
  total : l.book.total ≡ l.left;
  taken : receipt_count l.fn.seats + l.left ≡ receipt_count l.seats + length l.fn.history;
  matched : Matches l.fn.opening l.left (drop l.left l.fn.history) 0 l.fn.seats l.seats;
  seated : AllWithin (λ entry. entry.seat < length l.fn.seats) l.fn.history l.left (length l.fn.history);
}

abbrev pub decreases-loop-left : goal.decreases-loop-left
decreases-loop-left g l = l.left
