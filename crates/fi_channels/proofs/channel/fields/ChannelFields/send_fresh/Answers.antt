use Rattle.std.proofs.Common.{◌≡◌, ◌<◌, nat_lt, false, Some, length, sym, ap, ◌∙◌, arith}
use Rattle.std.proofs.lemmas.Bool.{ltb-true}
use Rattle.fi_parts.specs.Waiting.{registered}
use Rattle.fi_channels.specs.ChannelFields.{machine}
use Rattle.fi_parts.specs.NamedPairs.{without_by}
use Rattle.fi_channels.specs.declared.channel.two_sides.Waiter.TheVariants.{Send}
use Rattle.fi_channels.specs.TwoSidesModel.{TwoSidesModel}
use Rattle.fi_channels.specs.Waiter.{same_waiter}
use Rattle.fi_channels.proofs.ChannelSteps.{ended_lives, ended_asks, fresh_asks, fresh_value, unpaired_lives, stored}
use Rattle.fi_channels.proofs.ChannelSteps.{ended_then, exchanged_then, lives_exchanged, put_back}
use Rattle.fi_channels.proofs.ChannelSteps.{closed_sends, room_sends, full_sends, waits_then, ordered_beside}
use Rattle.fi_channels.proofs.channel.fields.ChannelFields.send_fresh.Goals as goal

pub exchange-requires-after_bounds : goal.exchange-requires-after_bounds
exchange-requires-after_bounds g c _ _ =
    ended_lives c.args.self.now.waiters c.args.slot.0 c.requires.fresh _ _ c.take_out-named.ensures.rest c.set_phase.ensures.rest

pub unwrap-value-requires : goal.unwrap-value-requires
unwrap-value-requires g c =
    fresh_asks _ _ _ _ c.requires.sound c.requires.fresh c.exchange.result
    (ended_asks c.args.self.now.waiters c.args.slot.0 _ _ c.take_out-named.ensures.rest c.set_phase.ensures.rest _
    c.exchange.ensures.asked)

pub returns-then-not-self-clause-polled : goal.returns-then-not-self-clause-polled
returns-then-not-self-clause-polled g c =
    closed_sends _ c.args.self.now.waiters _ _ c.args.waker c.unwrap-value.result c.requires.fresh
    (ended_asks c.args.self.now.waiters c.args.slot.0 _ _ c.take_out-named.ensures.rest c.set_phase.ensures.rest _
    c.exchange.ensures.asked ∙ ap Some c.unwrap-value.ensures) c.if-not-self.true c.exchange.new.self
    (ended_then c.args.self.now.waiters c.args.slot.0 _ _ _ c.take_out-named.ensures.rest c.set_phase.ensures.rest c.exchange.ensures.rest)

pub tell_oldest-requires-after_bounds : goal.tell_oldest-requires-after_bounds
tell_oldest-requires-after_bounds g c _ _ =
    ordered_beside _ c.args.self.now.waiters _ c.args.slot.0 c.requires.sound
    (registered c.args.self.now.waiters.sends c.args.slot.0 c.args.waker) c.register.new.self
    (waits_then c.args.self.now.waiters c.args.slot.0 c.args.waker _ _ c.take_out-named-then-not-can_push.ensures.rest c.register.ensures)

pub returns-then-not-can_push-clause-polled : goal.returns-then-not-can_push-clause-polled
returns-then-not-can_push-clause-polled g c =
    let owned =
    fresh_value (g.B.RingBuf.bounded c.args.self.now.buffer) c.args.self.now.waiters c.args.self.now.is_open c.args.slot.0
    c.requires.sound c.requires.fresh in
    let full : nat_lt (length (g.B.RingBuf.bounded c.args.self.now.buffer).items)
    (g.B.RingBuf.bounded c.args.self.now.buffer).capacity ≡ false =
    sym c.can_push.ensures.room ∙ c.if-not-can_push.true in
    full_sends (g.B.RingBuf.bounded c.args.self.now.buffer) c.args.self.now.waiters c.args.self.now.is_open c.args.slot.0
    c.args.waker owned.0 c.requires.fresh owned.1 c.if-not-self.false full c.register.new.self c.tell_oldest.new.self
    (waits_then c.args.self.now.waiters c.args.slot.0 c.args.waker _ _ c.take_out-named-then-not-can_push.ensures.rest c.register.ensures)
    c.tell_oldest.ensures

pub exchange-requires-in-Err-after_bounds : goal.exchange-requires-in-Err-after_bounds
exchange-requires-in-Err-after_bounds g c _ _ =
    lives_exchanged c.args.self.now.waiters c.args.slot.0 c.requires.fresh _ c.args.self.now.waiters.out c.exchange-2.ensures.rest

pub returns-in-Err-clause-polled : goal.returns-in-Err-clause-polled
returns-in-Err-clause-polled g c =
    let why = c.in-Err.ensures.err in
    let room : length (g.B.RingBuf.bounded c.args.self.now.buffer).items < (g.B.RingBuf.bounded c.args.self.now.buffer).capacity =
    ltb-true _ _ (sym c.can_push.ensures.room ∙ c.if-not-can_push.false) in
    let grows : (g.B.RingBuf.bounded c.args.self.now.buffer).reserved < (g.B.RingBuf.bounded c.args.self.now.buffer).capacity =
    omega (arith, why.2, room) in
    let back =
    put_back c.args.self.now.waiters c.args.slot.0
    c.into_parts-value.result.0 c.requires.fresh (c.exchange-2.ensures.asked ∙ ap Some (c.unwrap-value-2.ensures
    ∙ ap Some (sym (c.into_parts-value.ensures ∙ why.0)))) _ _ c.exchange-2.ensures.rest c.exchange-in-Err.ensures.rest in
    (c.from.ensures, c.requires.fresh, (c.if-not-self.false, why.2, grows), λ i. machine (why.1 i) (back i) c.args.self.now.is_open)

pub take_out-named-requires-2-after_bounds : goal.take_out-named-requires-2-after_bounds
take_out-named-requires-2-after_bounds g c _ _ =
    lives_exchanged c.args.self.now.waiters c.args.slot.0 c.requires.fresh _ c.args.self.now.waiters.out c.exchange-2.ensures.rest

pub set_phase-requires-2-after_bounds : goal.set_phase-requires-2-after_bounds
set_phase-requires-2-after_bounds g c _ _ =
    unpaired_lives c.exchange-2.new.self _ c.args.slot.0 _ c.take_out-named-2.ensures.rest
    (lives_exchanged c.args.self.now.waiters c.args.slot.0 c.requires.fresh _ c.args.self.now.waiters.out c.exchange-2.ensures.rest)

pub tell_oldest-requires-2-after_bounds : goal.tell_oldest-requires-2-after_bounds
tell_oldest-requires-2-after_bounds g c _ _ =
    ordered_beside _ c.args.self.now.waiters _ c.args.slot.0 c.requires.sound _ c.set_phase-2.new.self
    (exchanged_then c.args.self.now.waiters c.args.slot.0 c.requires.fresh _ _ _ c.exchange-2.ensures.rest
    c.take_out-named-2.ensures.rest c.set_phase-2.ensures.rest)

pub returns-clause-polled : goal.returns-clause-polled
returns-clause-polled g c =
    room_sends _ c.args.self.now.waiters _ _ c.args.waker c.unwrap-value-2.result c.requires.fresh
    (c.exchange-2.ensures.asked ∙ ap Some c.unwrap-value-2.ensures) c.if-not-self.false
    (sym c.can_push.ensures.room ∙ c.if-not-can_push.false) (g.B.RingBuf.bounded c.push.new.self)
    (stored (g.B.RingBuf.bounded c.args.self.now.buffer) (g.B.RingBuf.bounded c.push.new.self) c.args.self.now.is_open
    c.unwrap-value-2.result c.in_default.ensures.ok c.push.ensures.grows c.push.ensures.stays c.push.ensures.fits)
    c.set_phase-2.new.self c.tell_oldest-2.new.self
    (exchanged_then c.args.self.now.waiters c.args.slot.0 c.requires.fresh _ _ _ c.exchange-2.ensures.rest
    c.take_out-named-2.ensures.rest c.set_phase-2.ensures.rest) c.tell_oldest-2.ensures
