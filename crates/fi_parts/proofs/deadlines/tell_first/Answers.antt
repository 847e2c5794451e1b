use Rattle.std.proofs.Common.{◌≤◌, refl, sym, subst}
use Rattle.fi_parts.specs.declared.phase.Phase.TheVariants.{Told}
use Rattle.fi_parts.specs.Deadlines.{NoneHasPair}
use Rattle.fi_parts.specs.Seats.{deadlines_of}
use Rattle.fi_parts.proofs.Seats.{kept-told, seen-told, fewer_seats}
use Rattle.fi_parts.proofs.FirstSeat.{none_entered, none_due, none_come, first_entered, its_future, is_least}
use Rattle.fi_parts.proofs.Telling.{no_pair-told}
use Rattle.fi_parts.proofs.deadlines.tell_first.Goals as goal

pub returns-in-None-clause-told : goal.returns-in-None-clause-told
returns-in-None-clause-told g c = (
  refl,
  none_due c.args.waits.now c.args.heap.now c.requires.seated c.args.now
      (none_entered c.args.waits.now c.args.heap.now c.requires.seated c.in-None.ensures),
)

pub returns-then-due-now-clause-told : goal.returns-then-due-now-clause-told
returns-then-due-now-clause-told g c =
    (refl, none_come c.args.waits.now c.args.heap.now c.requires.seated _ _ c.in-Some.ensures c.args.now c.if-due-now.true)

pub notice-requires-clause-no_pair : goal.notice-requires-clause-no_pair
notice-requires-clause-no_pair g c = λ _.
    c.requires.no_pair _ (first_entered c.args.waits.now c.args.heap.now c.requires.seated _ _ c.in-Some.ensures)

pub returns-clause-seated : goal.returns-clause-seated
returns-clause-seated g c =
    let f = its_future c.args.waits.now c.args.heap.now c.requires.seated _ _ c.in-Some.ensures in
    rw c.notice.ensures (kept-told c.args.waits.now.side.live c.args.heap.now c.remove.new.self _ _ Told f.0 c.requires.seated f.1 f.2
    refl c.remove.ensures.live c.remove.ensures.members)

pub returns-clause-no_pair : goal.returns-clause-no_pair
returns-clause-no_pair g c =
    subst NoneHasPair (sym (seen-told c.args.waits.now c.in-Some.found.1.name c.notice.new.self c.notice.ensures))
    (no_pair-told (deadlines_of c.args.waits.now) _ (first_entered c.args.waits.now c.args.heap.now c.requires.seated _ _
    c.in-Some.ensures) c.requires.no_pair)

pub returns-clause-fewer : goal.returns-clause-fewer
returns-clause-fewer g c = λ told. rw c.remove.ensures.members
    (fewer_seats c.args.heap.now.members c.in-Some.found.0.0 c.in-Some.ensures.member)

pub returns-clause-told : goal.returns-clause-told
returns-clause-told g c =
    let come : c.in-Some.found.1.expiry ≤ c.args.now = c.if-due-now.false in (
      c.in-Some.found.1.name,
      is_least c.args.waits.now c.args.heap.now c.requires.seated _ _ c.in-Some.ensures c.args.now come,
      seen-told c.args.waits.now c.in-Some.found.1.name c.notice.new.self c.notice.ensures,
    )
