use Rattle.std.proofs.Common.{◌≡◌, is_some, sym, ap, ◌∙◌, rules}
use Rattle.fi_parts.specs.Places.{is_told}
use Rattle.fi_parts.specs.Waiting.{phase_in}
use Rattle.fi_channels.specs.ChannelWords.{displaced_receive}
use Rattle.fi_channels.specs.ChannelFields.{machine_of}
use Rattle.fi_channels.proofs.ChannelSteps.{ordered_removed, told_cancels, told_phase}
use Rattle.fi_channels.proofs.channel.fields.ChannelFields.leave_receive.Goals as goal

pub tell_oldest-requires-after_bounds : goal.tell_oldest-requires-after_bounds
tell_oldest-requires-after_bounds g c _ _ =
    ordered_removed _ _ _ _ c.requires c.remove.new.self c.in-Some.ensures.removed

pub returns-then-was_told : goal.returns-then-was_told
returns-then-was_told g c =
    let was = ap phase_in c.in-Some.ensures.future in
    let had : c.last_waker-waker.result ≡ displaced_receive (machine_of g.B.RingBuf.bounded c.args.self.now) c.args.slot.0 =
    search rules in
    rw (ap is_some was) (
      told_cancels _ _ _ _ (told_phase _ (ap is_told was ∙ sym c.is_told-was_told.ensures ∙ c.if-was_told.true))
          c.remove.new.self c.tell_oldest.new.self c.in-Some.ensures.removed c.tell_oldest.ensures,
      had,
    )
