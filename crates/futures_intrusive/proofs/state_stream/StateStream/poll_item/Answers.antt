use Rattle.std.proofs.Common.{rules, Some, Ok, Err, inl, inr, refl, subst}
use Rattle.futures.specs.declared.task.Poll.TheVariants.{Ready}
use Rattle.futures_intrusive.specs.StateStreams.{AsksNewer, Follower}
use Rattle.futures_intrusive.proofs.StateStreams.{polls_at_once, polls_later}
use Rattle.futures_intrusive.proofs.state_stream.StateStream.poll_item.Goals as goal

pub returns-in-Ready-Ok-clause-answered : goal.returns-in-Ready-Ok-clause-answered
returns-in-Ready-Ok-clause-answered g c =
    polls_at_once g.T.Clone.is_clone g.T.Clone.is_infallible c.args.cx.now.lacks_waker (Ready c.give.result) c.give.new.self
    c.args.self.now c.self.inside.reader c.receive_at_once.result (Ok c.in-Ready-Ok.state)
    (search rules) (search rules) (search rules) (search rules) c.receive_at_once.ensures (c.give.result, refl, c.give.ensures)

pub returns-in-Ready-Err-clause-answered : goal.returns-in-Ready-Err-clause-answered
returns-in-Ready-Err-clause-answered g c =
    let left : Follower = record { reader = c.self.inside.reader; receive = c.take.new.self; has_ended = c.self.inside.has_ended } in
    polls_at_once g.T.Clone.is_clone g.T.Clone.is_infallible c.args.cx.now.lacks_waker (Ready (Some (Err c.in-Ready-Err.fault))) left
    c.args.self.now c.self.inside.reader c.receive_at_once.result (Err c.in-Ready-Err.fault)
    (search rules) (search rules) (search rules) (search rules) c.receive_at_once.ensures (refl, search rules)

pub returns-in-Ok-clause-answered : goal.returns-in-Ok-clause-answered
returns-in-Ok-clause-answered g c =
    let asks : AsksNewer g.row.T.Denot c.self.inside.reader.seen c.in-Ok.receive =
    subst (λ seen. AsksNewer g.row.T.Denot seen c.in-Ok.receive) c.seen.ensures c.in-Ok.ensures.asks in
    polls_later g.T.Clone.is_clone g.T.Clone.is_infallible c.poll_receive-in-Ok.new.cx.lacks_waker c.poll_receive-in-Ok.result
    c.poll_receive-in-Ok.new.self c.args.self.now c.self.inside.reader c.receive_at_once.result
    (search rules) (search rules) (search rules) (search rules) c.receive_at_once.ensures
    (inr (c.in-Ok.receive, asks, c.poll_receive-in-Ok.ensures.answered))

pub returns-in-Err-clause-answered : goal.returns-in-Err-clause-answered
returns-in-Err-clause-answered g c =
    let left : Follower = record { reader = c.self.inside.reader; receive = c.take.new.self; has_ended = c.self.inside.has_ended } in
    polls_later g.T.Clone.is_clone g.T.Clone.is_infallible c.args.cx.now.lacks_waker (Ready (Some (Err c.in-Err.fault))) left
    c.args.self.now c.self.inside.reader c.receive_at_once.result
    (search rules) (search rules) (search rules) (search rules) c.receive_at_once.ensures (inl (search rules, search rules))
