use Rattle.std.proofs.Common.{rules, ◌≡◌, ◌∙◌, sym, subst, Option, IfNone}
use Rattle.futures.specs.declared.task.waker.Waker.{Waker}
use Rattle.fi_sync.specs.Streams.{PollsStream}
use Rattle.fi_sync.specs.Waiting.{WouldWait}
use Rattle.futures_intrusive.specs.KindLaws.{slot_polls}
use Rattle.futures_intrusive.proofs.SharedStreams.{put_off_by}
use Rattle.futures_intrusive.proofs.counted_channel.CountedEndsChannelStatePollWakerPollSlotChannelStreaming.poll_slot.Goals as due

pub invariant_of-self : due.invariant_of-self
invariant_of-self g c =
    let kept = c.self.invariant in
    let stays = slot_polls c.self.inside.state c.poll_slot.new.self _ c.poll_slot.result c.args.slot.0 c.args.waker
    c.poll_slot.ensures.polled c.poll_slot.ensures.lacks in
    record {
      senders = kept.senders;
      receivers = kept.receivers;
      no_senders = λ none. stays.closed ∙ kept.no_senders none;
      no_receivers = λ none.
          let was = kept.no_receivers none in (stays.closed ∙ was.0, stays.cleared was.0 was.1);
      told = kept.told ∙ sym stays.closed;
    }

pub returns-clause-put_off : due.returns-clause-put_off
returns-clause-put_off g c =
    let own : c.self.inside.state ≡ c.args.self.now.state = search rules in
    put_off_by c.poll_slot.result c.args.self.now c.args.slot.0
    (subst (λ state. IfNone c.poll_slot.result (WouldWait (PollsStream {T = g.row.T.Denot} {W = Option Waker}) state
    c.args.slot.0)) own c.poll_slot.ensures.put_off)
