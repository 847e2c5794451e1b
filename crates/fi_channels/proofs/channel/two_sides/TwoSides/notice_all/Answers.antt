use Rattle.std.proofs.Common.{sym, ap, ◌∙◌}
use Rattle.fi_parts.specs.Noticed.{phase_after}
use Rattle.fi_channels.specs.SideView.{notify}
use Rattle.fi_parts.proofs.Waiting.{notices}
use Rattle.fi_channels.proofs.SideSteps.{next, first_stands, notify-step, notify-none, ordered}
use Rattle.fi_channels.proofs.channel.two_sides.TwoSides.notice_all.Goals as goal

pub notice-requires-clause-registered : goal.notice-requires-clause-registered
notice-requires-clause-registered g c _ _ =
    let one = c.in-Some.ensures in
    (first_stands g.met.S.OneSide.is_side c.loop-slot.self c.in-Some.slot.0 one.0 one.2 c.loop-slot.invariant.ordered one.1).0

pub notice-requires-clause-no_pair : goal.notice-requires-clause-no_pair
notice-requires-clause-no_pair g c _ _ =
    let one = c.in-Some.ensures in
    (first_stands g.met.S.OneSide.is_side c.loop-slot.self c.in-Some.slot.0 one.0 one.2 c.loop-slot.invariant.ordered one.1).1

pub returns : goal.returns
returns g c =
    let last = c.in_default.ensures in
    last.1 ∙ sym (notify-none g.met.S.OneSide.is_side c.loop-slot.self (phase_after c.args.notice) last.0) ∙
    c.loop-slot.invariant.all

pub loop-slot-preserved : goal.loop-slot-preserved
loop-slot-preserved g c =
    let phase = phase_after c.args.notice in
    let now = c.loop-slot.self in
    let one = c.in-Some.ensures in
    let was = c.loop-slot.invariant.ordered in
    let is = next g.met.S.OneSide.is_side now c.in-Some.slot.0 one.0 one.2 phase
    (rw (← c.phase.ensures) c.notice.ensures) in
    record {
      all = ap (notify g.S.OneSide.side phase) is ∙ notify-step g.met.S.OneSide.is_side now phase c.in-Some.slot.0 one.0 was
          one.1
          ∙ c.loop-slot.invariant.all;
      ordered = rw is (ordered g.met.S.OneSide.is_side now phase c.in-Some.slot.0 one.0 was one.1
          (notices _ c.args.notice));
    }
