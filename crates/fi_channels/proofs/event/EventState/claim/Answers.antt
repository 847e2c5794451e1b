use Rattle.std.proofs.Common.{rules as lemmas, IfOk}
use Rattle.fi_parts.proofs.Effects.{waits_are_fit}
use Rattle.fi_parts.proofs.Machines.{line_preserves, claiming_stays}
use Rattle.fi_channels.specs.Event.{EventMachine, can_be_polled, Makes}
use Rattle.fi_channels.specs.EventLaws.{rules, makes_pollable}
use Rattle.fi_channels.proofs.Results.{claims, of_made}
use Rattle.fi_channels.proofs.event.EventState.claim.Goals as goal

pub invariant_of-self : goal.invariant_of-self
invariant_of-self g c =
    line_preserves rules _ _ (claims rules _ _ c.match-insert.result (λ slot. slot.0) tt (search lemmas) (search lemmas)).1 c.self.invariant

pub returns-clause-all_stay : goal.returns-clause-all_stay
returns-clause-all_stay g c =
    rw (← c.self.view_is) (claiming_stays rules can_be_polled waits_are_fit _ _ c.self.invariant.0
    c.match-insert.result (λ slot. slot.0) c.self.inside.is_set tt (search lemmas) (search lemmas))

pub returns-clause-pollable : goal.returns-clause-pollable
returns-clause-pollable g c =
    let old : EventMachine g.row.W.Denot = record { own = c.self.inside.is_set; waiting = c.self.inside.waits } in
    let made : IfOk c.match-insert.result (λ slot. Makes old slot.0 (record old { waiting = c.insert.new.self })) = search lemmas in
    of_made c.match-insert.result _ _ made (λ slot did. makes_pollable _ _ slot.0 did)
