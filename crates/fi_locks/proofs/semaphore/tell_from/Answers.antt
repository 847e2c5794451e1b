use Rattle.std.proofs.Common.{◌≡◌, ◌<◌, ◌≤◌, ℕ, ap, ◌∙◌}
use Rattle.fi_parts.specs.Waiting.{Waiting, told_one}
use Rattle.fi_locks.specs.Semaphore.{need_of}
use Rattle.fi_locks.proofs.TellingRounds.{walk_stops, walk_on, walk_queued, walk_ordered, walk_smaller}
use Rattle.fi_locks.proofs.semaphore.tell_from.Goals as goal

pub tell-requires-clause-ordered : goal.tell-requires-clause-ordered
tell-requires-clause-ordered g c =
    rw c.younger-next.ensures.same (walk_ordered _ _ _ c.requires.ordered _ _ _ c.loop-next.invariant)

pub tell-requires-clause-queued : goal.tell-requires-clause-queued
tell-requires-clause-queued g c =
    rw c.younger-next.ensures.same (walk_queued _ _ _ _ _ _ c.in-Some.slot c.in-Some.is c.loop-next.invariant)

pub returns-then-available-need-clause-stopped : goal.returns-then-available-need-clause-stopped
returns-then-available-need-clause-stopped g c =
    let over : c.loop-next.available < need_of c.loop-next.waits.side c.in-Some.slot.0 =
    rw (← c.need-need.ensures) c.if-available-need.true in
    walk_stops _ _ _ _ _ _ c.in-Some.slot c.loop-next.invariant over

pub loop-next-smaller : goal.loop-next-smaller
loop-next-smaller g c =
    let keeps = c.args.permits.is_fair in
    let fits : need_of c.loop-next.waits.side c.in-Some.slot.0 ≤ c.loop-next.available =
    rw (← c.need-need.ensures) c.if-available-need.false in
    let told : c.tell.new.self ≡ told_one keeps c.loop-next.waits c.in-Some.slot.0 =
    c.tell.ensures ∙ ap (λ (v : Waiting ℕ g.row.W.Denot). told_one keeps v c.in-Some.slot.0) c.younger-next.ensures.same in
    rw told (walk_smaller _ _ _ c.requires.ordered _ _ _ c.in-Some.slot c.younger-next.result c.in-Some.is c.loop-next.invariant fits
    c.younger-next.ensures.next)

pub loop-next-preserved : goal.loop-next-preserved
loop-next-preserved g c =
    let keeps = c.args.permits.is_fair in
    let fits : need_of c.loop-next.waits.side c.in-Some.slot.0 ≤ c.loop-next.available =
    rw (← c.need-need.ensures) c.if-available-need.false in
    let told : c.tell.new.self ≡ told_one keeps c.loop-next.waits c.in-Some.slot.0 =
    c.tell.ensures ∙ ap (λ (v : Waiting ℕ g.row.W.Denot). told_one keeps v c.in-Some.slot.0) c.younger-next.ensures.same in
    rw (told, c.need-need.ensures) (walk_on _ _ _ c.requires.ordered _ _ _ c.in-Some.slot c.younger-next.result c.in-Some.is
    c.loop-next.invariant fits c.younger-next.ensures.next)
