use Rattle.fi_channels.proofs.ChannelSteps.{ordered_notified, closes}
use Rattle.fi_channels.proofs.channel.fields.ChannelFields.close.Goals as goal

pub notice_all-requires-2-after_bounds : goal.notice_all-requires-2-after_bounds
notice_all-requires-2-after_bounds g c _ _ = ordered_notified _ _ _ c.requires c.notice_all.new.self c.notice_all.ensures

pub returns : goal.returns
returns g c =
    closes _ _ _ c.if-not-self.false c.notice_all.new.self c.notice_all-2.new.self c.notice_all.ensures
    c.notice_all-2.ensures
