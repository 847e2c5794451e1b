use Rattle.std.proofs.Common.{◌≡◌, length, Some, true}
use Rattle.fi_scripts.specs.Outputs.{GoesOn, Collects}
use Rattle.fi_scripts.specs.Texts.{wakes_text}
use Rattle.fi_scripts.specs.declared.output.Output.{Output}
use Rattle.fi_scripts.proofs.engine.Session.write_wakes.Given as goal

-- What goes on from here with the wakers that are left goes on from the start with all of them.
abbrev pub invariant-loop-waker : goal.invariant-loop-waker
invariant-loop-waker g l =
    ((new : Output g.row.W.Denot)
    → GoesOn g.W.Write.contents l.output new (Some (wakes_text l.is_first
    (g.P.Primitive.outgoing.wakers l.self.primitive)))
    → GoesOn g.W.Write.contents l.fn.output new (Some (wakes_text true
    (g.P.Primitive.outgoing.wakers l.fn.self.primitive))))
    × (g.P.Primitive.outgoing.without_wakers l.self.primitive ≡ g.P.Primitive.outgoing.without_wakers l.fn.self.primitive)
    × (l.self.futures ≡ l.fn.self.futures)
    × Collects l.fn.output l.output

abbrev pub decreases-loop-waker : goal.decreases-loop-waker
decreases-loop-waker g l = length (g.P.Primitive.outgoing.wakers l.self.primitive)
