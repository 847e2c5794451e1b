use Rattle.std.proofs.Common.{rules as lemmas, Ok}
use Rattle.fi_parts.proofs.Machines.{all_stay}
use Rattle.fi_channels.specs.Oneshot.{can_receive}
use Rattle.fi_channels.specs.OneshotLaws.{receives_are_fit}
use Rattle.fi_channels.specs.StateLaws.{rules, sent, sends_preserve}
use Rattle.fi_channels.proofs.state.StateBroadcastState.replace.Goals as goal

pub invariant_of-self : goal.invariant_of-self
invariant_of-self g c = sends_preserve _ _ c.args.value (Ok tt) (search lemmas) c.self.invariant

pub returns-clause-all_stay : goal.returns-clause-all_stay
returns-clause-all_stay g c =
    rw (← c.self.view_is) (all_stay rules can_receive receives_are_fit _ _ c.self.invariant.0.waiters
    (sent _ _ c.args.value (Ok tt) (search lemmas)))
