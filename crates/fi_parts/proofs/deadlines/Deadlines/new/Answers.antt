use Rattle.std.proofs.Common.{[]}
use Rattle.fi_parts.proofs.Seats.{seated-empty, unseated-empty}
use Rattle.fi_parts.proofs.deadlines.Deadlines.new.Goals as goal

pub invariant_of-result : goal.invariant_of-result
invariant_of-result g c = rw (c.new.ensures, c.new-2.ensures) (seated-empty _)

pub returns : goal.returns
returns g c = rw c.new.ensures (λ i. record { side = record { live = unseated-empty i; queue = [] }; out = [] })
