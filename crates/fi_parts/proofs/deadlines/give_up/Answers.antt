use Rattle.std.proofs.Common.{ap, ◌∙◌}
use Rattle.std.specs.FinSet as set
use Rattle.fi_parts.specs.HeapModel.{HeapModel}
use Rattle.fi_parts.proofs.Picked.{contains-remove_other}
use Rattle.fi_parts.proofs.deadlines.give_up.Goals.{then-contains, else-contains}
use Rattle.fi_parts.proofs.deadlines.give_up.Goals as goal

pub returns-clause-elsewhere : goal.returns-clause-elsewhere
returns-clause-elsewhere c = λ other ne.
    ap (λ (h : HeapModel _). set.contains h.members other) c.free.ensures.freed ∙ elim c.if-contains.branch [
      | then-contains w ↦ ap (λ (h : HeapModel _). set.contains h.members other) w.heap-is ∙
          ap (λ m. set.contains m other) w.remove.ensures.members ∙ contains-remove_other c.args.heap.now.members c.args.seat.0 other ne
      | else-contains w ↦ ap (λ (h : HeapModel _). set.contains h.members other) w.heap-is
    ]
