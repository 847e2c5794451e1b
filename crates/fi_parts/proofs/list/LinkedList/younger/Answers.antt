use Rattle.std.proofs.Common.{sym, ◌∙◌}
use Rattle.fi_parts.proofs.Slots.{last_split, last_none}
use Rattle.fi_parts.proofs.list.LinkedList.younger.Goals as goal
use Rattle.fi_parts.proofs.list.LinkedList.younger.Goals.{in-Some, in-None}

pub returns-clause-next : goal.returns-clause-next
returns-clause-next g c front rest is =
    let before = sym (c.younger.ensures.next front rest (rw (← c.self.view_is) at is)) in
    elim c.match-younger.branch [
      | in-Some w ↦ rw w.result-is (last_split front w.in-Some.next (before ∙ w.in-Some.is))
      | in-None w ↦ rw w.result-is (last_none front (before ∙ w.in-None.is))
    ]
