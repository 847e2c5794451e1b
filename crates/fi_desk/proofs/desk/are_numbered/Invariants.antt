use Rattle.std.proofs.Common.{◌≡◌, ◌<◌, ℕ, slice_index_or}
use Rattle.fi_desk.specs.Desk.{SeatModel}
use Rattle.fi_desk.proofs.desk.are_numbered.Given as goal

abbrev pub invariant-loop-place : goal.invariant-loop-place
invariant-loop-place g l = (place : ℕ) (d : SeatModel g.row.P-Opening.Denot g.row.P-Call.Denot g.row.P-Answer.Denot) → place < l.place →
    (slice_index_or l.fn.seats place d).number ≡ place
