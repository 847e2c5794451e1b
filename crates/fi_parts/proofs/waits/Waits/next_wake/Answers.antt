use Rattle.std.proofs.Common.{◌≡◌, drop, ap, ◌∙◌}
use Rattle.std.specs.FinMap as map
use Rattle.fi_parts.specs.NamedPairs.{waker_in_pair}
use Rattle.fi_parts.specs.Tied.{out_of}
use Rattle.fi_parts.proofs.Stores.{oldest-out}
use Rattle.fi_parts.proofs.Tied.{out-drop, tied_after_pop}
use Rattle.fi_parts.proofs.waits.Waits.next_wake.Goals as goal

pub invariant_of-self : goal.invariant_of-self
invariant_of-self g c =
    tied_after_pop (map.get c.self.inside.wait_queue.tickets) c.self.inside.outbox c.self.invariant c.pop.new.self
    c.pop.ensures.tickets c.pop.ensures.pairs

pub returns : goal.returns
returns g c =
    let out : out_of c.pop.new.self.pairs ≡ drop 1 (out_of c.self.inside.outbox.pairs) =
    ap out_of c.pop.ensures.pairs ∙ out-drop c.self.inside.outbox.pairs in
    rw (← c.self.view_is) (record {
      value = c.waker_from.ensures ∙ ap waker_in_pair c.pop.ensures.value ∙ oldest-out c.self.inside.outbox.pairs;
      rest = λ i. record { side = c.self.inside.wait_queue.side; out = out i };
    })
