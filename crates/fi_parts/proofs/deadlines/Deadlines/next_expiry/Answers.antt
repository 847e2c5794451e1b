use Rattle.fi_parts.proofs.FirstSeat.{none_entered, first_entered, first_expiry, least}
use Rattle.fi_parts.proofs.deadlines.Deadlines.next_expiry.Goals as goal

pub returns-in-Some : goal.returns-in-Some
returns-in-Some g c =
    rw (← c.self.view_is) (
      (
        c.in-Some.due.name,
        first_entered c.self.inside.waits c.self.inside.heap c.self.invariant _ _ c.in-Some.ensures,
        first_expiry c.self.inside.waits c.self.inside.heap c.self.invariant _ _ c.in-Some.ensures,
      ),
      least c.self.inside.waits c.self.inside.heap c.self.invariant _ _ c.in-Some.ensures,
    )

pub returns-in-None : goal.returns-in-None
returns-in-None g c = rw (← c.self.view_is) (none_entered c.self.inside.waits c.self.inside.heap c.self.invariant c.in-None.ensures)
