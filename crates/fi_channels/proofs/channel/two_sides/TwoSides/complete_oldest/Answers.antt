use Rattle.std.proofs.Common.{sym, ◌∙◌}
use Rattle.fi_channels.proofs.SideSteps.{completed, asked_stands, asks_first}
use Rattle.fi_channels.proofs.channel.two_sides.TwoSides.complete_oldest.Goals as goal

pub notice-requires-clause-registered : goal.notice-requires-clause-registered
notice-requires-clause-registered g c _ _ =
    let one = c.in_ok-slot.ensures in
    (asked_stands g.met.S.OneSide.is_side c.args.self.now c.in_ok-slot.slot.0 one.0 one.2 c.requires one.1
    c.args.left c.exchange-asked.ensures.rest).0

pub notice-requires-clause-no_pair : goal.notice-requires-clause-no_pair
notice-requires-clause-no_pair g c _ _ =
    let one = c.in_ok-slot.ensures in
    (asked_stands g.met.S.OneSide.is_side c.args.self.now c.in_ok-slot.slot.0 one.0 one.2 c.requires one.1
    c.args.left c.exchange-asked.ensures.rest).1

pub returns-clause-asked : goal.returns-clause-asked
returns-clause-asked g c =
    let one = c.in_ok-slot.ensures in
    sym c.exchange-asked.ensures.asked
    ∙ asks_first g.met.S.OneSide.is_side c.args.self.now c.in_ok-slot.slot.0 one.0 one.2 one.1

pub returns-clause-rest : goal.returns-clause-rest
returns-clause-rest g c =
    let one = c.in_ok-slot.ensures in
    completed g.met.S.OneSide.is_side c.args.self.now c.in_ok-slot.slot.0 one.0 one.2 c.args.left one.1
    c.exchange-asked.ensures.rest c.notice.ensures
