use Rattle.fi_sync.specs.Received.{PollsOneValue}
use Rattle.fi_sync.proofs.Answered.{waited_for}
use Rattle.fi_sync.proofs.one_value.OneValueChannel.receive_blocking.Goals as goal

pub returns : goal.returns
returns g c = record { waited = waited_for _ (PollsOneValue g.G.GivesValue.giving) c.in_ok-wait_for.field-0 c.in_ok-wait_for.ensures.given }
