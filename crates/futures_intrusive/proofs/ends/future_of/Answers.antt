use Rattle.std.proofs.Common.{rules}
use Rattle.futures_intrusive.proofs.ends.future_of.Goals as goal

pub returns-clause-claimed : goal.returns-clause-claimed
returns-clause-claimed g c =
    let made = c.in_ok-claim.ensures.made in
    (made.0, made.1, made.2, search rules, made.4)
