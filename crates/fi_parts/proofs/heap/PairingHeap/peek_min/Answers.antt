use Rattle.std.proofs.Common.{sym}
use Rattle.fi_parts.proofs.HeapViews.{least-of, members-empty}
use Rattle.fi_parts.proofs.heap.PairingHeap.peek_min.Goals as goal

pub returns-in-Some : goal.returns-in-Some
returns-in-Some g c =
    rw (← c.self.view_is) (least-of g.T.Ord.cmp g.met.T.Ord.total c.self.inside.nodes c.in-Some.root (sym c.in-Some.ensures)
    c.self.invariant)

pub returns-in-None : goal.returns-in-None
returns-in-None g c = rw (← c.self.view_is) (members-empty g.T.Ord.cmp c.self.inside.nodes (sym c.in-None.ensures) c.self.invariant)
