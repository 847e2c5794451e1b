use Rattle.futures_intrusive.proofs.StateStreams.{ok_of}
use Rattle.futures_intrusive.proofs.state_ends.StateReceiver+T+R.receive.Goals as goal

pub returns-clause-asks : goal.returns-clause-asks
returns-clause-asks g c =
    ok_of c.future_of.result c.future_of.ensures.claimed (λ future claimed. (claimed.2.0, claimed.3, claimed.4.0))
