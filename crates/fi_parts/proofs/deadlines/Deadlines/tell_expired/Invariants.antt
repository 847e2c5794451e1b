use Rattle.std.proofs.Common.{ℕ}
use Rattle.std.specs.FinSet as set
use Rattle.fi_parts.specs.Waiting.{Waiting}
use Rattle.fi_parts.specs.Deadlines.{NoneHasPair, TellsExpired}
use Rattle.fi_parts.specs.Seats.{deadlines_of, AreSeated}
use Rattle.fi_parts.proofs.deadlines.Deadlines.tell_expired.Given as goal

abbrev pub invariant-loop-self : goal.invariant-loop-self
invariant-loop-self g l = record {
  seated : AreSeated l.self-inside.waits.side.live l.self-inside.heap;
  no_pair : NoneHasPair (deadlines_of l.self-inside.waits);
  all : (new : Waiting ℕ g.row.W.Denot) → TellsExpired l.now (deadlines_of l.self-inside.waits) new → TellsExpired l.now l.fn.self new;
}

abbrev pub decreases-loop-self : goal.decreases-loop-self
decreases-loop-self g l = set.len l.self-inside.heap.members
