use Rattle.std.proofs.Common.{rules, ◌≡◌, Option, Err, OnErr, subst, sym}
use Rattle.futures.specs.declared.task.waker.Waker.{Waker}
use Rattle.fi_channels.specs.StateBroadcast.{StateMachine, MayLackNewer, newer_than}
use Rattle.futures_intrusive.proofs.state_reader.StateReader.try_next.Goals as goal

pub returns-in_err-state-clause-lacks : goal.returns-in_err-state-clause-lacks
returns-in_err-state-clause-lacks g c =
    let same : c.from_residual.result ≡ Err c.in_err-state.field-0.0 = search rules in
    subst (λ answer. OnErr answer ((state : StateMachine g.row.T.Denot (Option Waker))
    × MayLackNewer g.T.Clone.is_infallible (newer_than state.own c.args.self.now.seen))) (sym same)
    (c.in_err-state.ensures.lacks.0, search rules)

pub returns-clause-read : goal.returns-clause-read
returns-clause-read g c = (c.in_ok-state.ensures.tried.0, (c.in_ok-state.state, search rules, search rules))
