use Rattle.std.proofs.Common.{rules, ◌≡◌, true, false, subst, is_none, Option, Some, Err}
use Rattle.futures.specs.declared.task.waker.Waker.{Waker}
use Rattle.fi_parts.specs.declared.errors.Fault.{Fault}
use Rattle.fi_sync.specs.Streams.{PollsStream}
use Rattle.fi_sync.specs.Waiting.{SharedFuture, IsUntimedAnswer}
use Rattle.fi_sync.proofs.Answered.{streamed_by, spent_by}
use Rattle.fi_sync.proofs.channel.stream.ChannelStream.poll_item.Goals as goal

pub returns-then-is_terminated-clause-stands : goal.returns-then-is_terminated-clause-stands
returns-then-is_terminated-clause-stands g c =
    let ended : c.args.self.now.has_ended ≡ true = search rules in
    let nameless : is_none c.args.self.now.name ≡ true = search rules in
    spent_by c.args.self.now.source c.args.self.now.name c.args.self.now.has_ended ended nameless

pub returns-clause-answered : goal.returns-clause-answered
returns-clause-answered g c =
    let own : c.self.inside.future ≡ c.args.self.now = search rules in
    let lives : c.args.self.now.has_ended ≡ false = search rules in
    streamed_by (PollsStream {T = g.row.T.Denot} {W = Option Waker}) c.args.self.now.name c.args.self.now.has_ended
    c.poll.new.cx.lacks_waker c.poll.result lives
    (subst (λ future. IsUntimedAnswer (PollsStream {T = g.row.T.Denot} {W = Option Waker}) (Some (Err Fault.NoMemory))
    (SharedFuture.name future) (SharedFuture.has_ended future) c.poll.new.cx.lacks_waker c.poll.result) own c.poll.ensures.answered)
