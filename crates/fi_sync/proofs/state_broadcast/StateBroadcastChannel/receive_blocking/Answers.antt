use Rattle.std.proofs.Common.{rules, inl}
use Rattle.fi_sync.specs.Received.{PollsState}
use Rattle.fi_sync.proofs.Answered.{waited_for}
use Rattle.fi_sync.proofs.state_broadcast.StateBroadcastChannel.receive_blocking.Goals as goal

pub returns-in-Some : goal.returns-in-Some
returns-in-Some g c = record { waited = inl (c.in_ok-state.ensures.tried.0, search rules) }

pub returns : goal.returns
returns g c = record { waited = waited_for _ (PollsState g.T.Clone.is_clone g.T.Clone.is_infallible) c.in_ok-wait_for.field-0 c.in_ok-wait_for.ensures.given }
