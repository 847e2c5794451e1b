use Rattle.std.proofs.Common.{refl}
use Rattle.fi_parts.proofs.waits.Waits.exchange.Goals as goal

pub exchange-requires : goal.exchange-requires
exchange-requires g c = rw (← c.self.view_is) at c.requires

pub invariant_of-self : goal.invariant_of-self
invariant_of-self g c = rw c.exchange.ensures.rest c.self.invariant

pub returns : goal.returns
returns g c = rw (← c.self.view_is) (record { asked = c.exchange.ensures.asked; rest = rw c.exchange.ensures.rest refl })
