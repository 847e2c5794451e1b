use Rattle.std.proofs.Common.{rules, inl}
use Rattle.fi_sync.specs.Received.{PollsReceive}
use Rattle.fi_sync.proofs.Answered.{waited_for}
use Rattle.fi_sync.proofs.channel.GenericChannel.receive_blocking.Goals as goal

pub returns-in-Err-Closed : goal.returns-in-Err-Closed
returns-in-Err-Closed g c =
    record { waited = inl (c.try_receive.ensures.tried.0, c.try_receive.ensures.tried.1, search rules) }

pub returns : goal.returns
returns g c = record { waited = waited_for _ PollsReceive c.in_ok-wait_for.field-0 c.in_ok-wait_for.ensures.given }
