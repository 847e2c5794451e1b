use Rattle.std.proofs.Common.{rules, Option, IfOk, OnErr}
use Rattle.futures.specs.declared.task.waker.Waker.{Waker}
use Rattle.fi_channels.specs.StateBroadcast.{StateMachine, MayLackNewer, TriesReceive, newer_than}
use Rattle.fi_sync.proofs.Answered.{at_some, ok_at_some}
use Rattle.fi_sync.proofs.state_broadcast.StateBroadcastChannel.try_receive.Goals as goal

pub returns-clause-lacks : goal.returns-clause-lacks
returns-clause-lacks g c =
    let state : StateMachine g.row.T.Denot (Option Waker) = c.call.ensures.0.now in
    let lacked : OnErr c.call.result (MayLackNewer g.T.Clone.is_infallible (newer_than state.own c.args.seen)) = search rules in
    at_some (λ (at : StateMachine g.row.T.Denot (Option Waker)). MayLackNewer g.T.Clone.is_infallible (newer_than at.own c.args.seen))
    state c.call.result lacked

pub returns-clause-tried : goal.returns-clause-tried
returns-clause-tried g c =
    let state : StateMachine g.row.T.Denot (Option Waker) = c.call.ensures.0.now in
    let tried : IfOk c.call.result (TriesReceive g.T.Clone.is_clone state c.args.seen) = search rules in
    ok_at_some (λ (at : StateMachine g.row.T.Denot (Option Waker)). TriesReceive g.T.Clone.is_clone at c.args.seen) state c.call.result tried
