use Rattle.fi_parts.specs.declared.phase.Phase.TheVariants.{Told}
use Rattle.fi_channels.proofs.SideSteps.{first_stands, told}
use Rattle.fi_channels.proofs.channel.two_sides.TwoSides.tell_oldest.Goals as goal

pub notice-requires-clause-registered : goal.notice-requires-clause-registered
notice-requires-clause-registered g c _ _ =
    let one = c.in-Some.ensures in
    (first_stands g.met.S.OneSide.is_side c.args.self.now c.in-Some.slot.0 one.0 one.2 c.requires one.1).0

pub notice-requires-clause-no_pair : goal.notice-requires-clause-no_pair
notice-requires-clause-no_pair g c _ _ =
    let one = c.in-Some.ensures in
    (first_stands g.met.S.OneSide.is_side c.args.self.now c.in-Some.slot.0 one.0 one.2 c.requires one.1).1

pub returns-in-Some : goal.returns-in-Some
returns-in-Some g c =
    let one = c.in-Some.ensures in
    told g.met.S.OneSide.is_side c.args.self.now c.in-Some.slot.0 one.0 one.2 Told one.1 c.notice.ensures
