use Rattle.std.proofs.Common.{◌≡◌, rules as lemmas}
use Rattle.fi_parts.proofs.Effects.{waits_are_fit}
use Rattle.fi_parts.proofs.Machines.{line_preserves, inserts, unchanged, claiming_stays}
use Rattle.fi_parts.proofs.Results.{either, of_made}
use Rattle.fi_locks.specs.Timer.{TimerMachine, Makes, can_be_polled}
use Rattle.fi_locks.specs.TimerLaws.{rules, makes_pollable}
use Rattle.fi_locks.proofs.timer.TimerState.claim.Goals as goal
use Rattle.fi_locks.proofs.timer.TimerState.claim.Goals.{in-Ok, in-Err}

pub invariant_of-self : goal.invariant_of-self
invariant_of-self g c =
    let old : TimerMachine g.row.W.Denot = record { own = c.self.inside.floor; waiting = c.self.inside.deadlines } in
    let new : TimerMachine g.row.W.Denot = record { own = c.self.inside.floor; waiting = c.insert.new.self } in
    either c.match-insert.result (λ slot. Makes old c.args.expiry slot.0 new) (new ≡ old) _ (search lemmas) (search lemmas)
    (λ slot did. line_preserves rules old new (inserts rules slot.0 c.args.expiry old new did) c.self.invariant)
    (λ same. line_preserves rules old new (unchanged rules old new same) c.self.invariant)

pub returns-clause-all_stay : goal.returns-clause-all_stay
returns-clause-all_stay g c =
    rw (← c.self.view_is) (claiming_stays rules can_be_polled waits_are_fit _ _ c.self.invariant.0 c.match-insert.result
    (λ slot. slot.0) c.self.inside.floor c.args.expiry (search lemmas) (search lemmas))

pub returns-clause-pollable : goal.returns-clause-pollable
returns-clause-pollable g c =
    let old : TimerMachine g.row.W.Denot = record { own = c.self.inside.floor; waiting = c.self.inside.deadlines } in
    let new : TimerMachine g.row.W.Denot = record { own = c.self.inside.floor; waiting = c.insert.new.self } in
    of_made c.match-insert.result (λ slot. Makes old c.args.expiry slot.0 new) _ (search lemmas)
    (λ slot did. makes_pollable old new c.args.expiry slot.0 did)
