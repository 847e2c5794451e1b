use Rattle.std.proofs.Common.{rules, ◌≡◌, Option, subst}
use Rattle.futures.specs.declared.task.waker.Waker.{Waker}
use Rattle.fi_channels.specs.StateBroadcast.{StateMachine}
use Rattle.futures_intrusive.specs.StateStreams.{AnswersAtOnce}
use Rattle.futures_intrusive.proofs.state_reader.StateReader.receive_at_once.Goals as goal

pub returns : goal.returns
returns g c =
    let own : c.self.inside.seen ≡ c.args.self.now.seen = search rules in
    subst (λ seen. (held : StateMachine g.row.T.Denot (Option Waker))
    × AnswersAtOnce g.T.Clone.is_clone g.T.Clone.is_infallible held seen c.call.result) own c.call.ensures.2
