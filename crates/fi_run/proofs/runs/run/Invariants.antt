use Rattle.std.proofs.Common.{◌≡◌, ◌++◌}
use Rattle.std.specs.Vec.Iter.{into_iter_items}
use Rattle.fi_run.specs.Run.{Answers}
use Rattle.fi_run.proofs.runs.run.Given as goal

abbrev pub invariant-loop-call : goal.invariant-loop-call
invariant-loop-call g l = record {
  answered : Answers g.P.Primitive.step g.P.Primitive.history_invariant l.fn.primitive l.yielded l.fn.out.items l.out.items l.primitive;
  kept : g.P.Primitive.is_sound l.primitive × g.P.Primitive.owes_no_wake l.primitive;
  left : l.fn.calls.items ≡ l.yielded ++ into_iter_items l.call-iterator;
}
