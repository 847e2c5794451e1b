use Rattle.std.proofs.Common.{rules as lemmas}
use Rattle.fi_parts.proofs.Machines.{line_preserves, all_stay}
use Rattle.fi_channels.specs.Oneshot.{can_receive}
use Rattle.fi_channels.specs.OneshotLaws.{rules, receives_are_fit, tried}
use Rattle.fi_channels.proofs.oneshot.OneValueState.try_receive.Goals as goal

pub invariant_of-self : goal.invariant_of-self
invariant_of-self g c =
    line_preserves rules _ _ (tried _ _ g.G.GivesValue.giving c.give.result (search lemmas)) c.self.invariant

pub returns-clause-all_stay : goal.returns-clause-all_stay
returns-clause-all_stay g c =
    rw (← c.self.view_is) (all_stay rules can_receive receives_are_fit _ _ c.self.invariant.0
    (tried _ _ g.G.GivesValue.giving c.give.result (search lemmas)))
