use Rattle.std.proofs.Common.{◌≡◌, ℕ, false, ap, sym, ◌∙◌}
use Rattle.fi_parts.specs.declared.phase.Phase.TheVariants.{Ended}
use Rattle.fi_parts.specs.Order.{holds, without}
use Rattle.fi_parts.specs.Pairs.{without_pair}
use Rattle.fi_parts.specs.Waiting.{Waiting, with_phase, without_place}
use Rattle.fi_parts.proofs.Slots.{without_absent}
use Rattle.fi_locks.proofs.mutex.grant.Goals as goal
use Rattle.fi_locks.proofs.mutex.grant.Goals.{then-has_place, else-has_place}

module _ {D W : Type 0} (old : Waiting D W) (name : ℕ) where
  -- its pair was taken out
  abbrev unpaired : Waiting D W
  unpaired = record old { out = without_pair name old.out }

  -- it left the queue, too
  abbrev unplaced : Waiting D W
  unplaced = record unpaired { side = record old.side { queue = without name old.side.queue } }

  left : (taken now : Waiting D W) → taken ≡ unpaired →
      now ≡ record taken { side = record taken.side { queue = without name taken.side.queue } } → now ≡ unplaced
  left taken now is did =
      did ∙ ap
      (λ (w : Waiting D W).
      let v : Waiting D W = record w { side = record w.side { queue = without name w.side.queue } } in v) is

  -- who had no place there
  stayed : (now : Waiting D W) → holds name old.side.queue ≡ false → now ≡ unpaired → now ≡ unplaced
  stayed now off is =
      let queue : without name old.side.queue ≡ old.side.queue = without_absent name old.side.queue off in
      is ∙ (λ i. record unpaired { side = record old.side { queue = sym queue i } })

  ended : (mid new : Waiting D W) → mid ≡ unplaced →
      new ≡ record mid { side = record mid.side { live = with_phase mid.side.live name Ended } } →
      new ≡ record { side = without_place Ended old.side name; out = without_pair name old.out }
  ended mid new is did =
      did ∙ ap
      (λ (w : Waiting D W).
      let v : Waiting D W = record w { side = record w.side { live = with_phase w.side.live name Ended } } in v) is

pub returns-clause-ended : goal.returns-clause-ended
returns-clause-ended g c =
    let old = c.args.locks.now in
    let taken = c.take_out-named.new.self in
    let name = c.args.slot.0 in
    let mid : c.if-has_place.locks ≡ unplaced old name =
    elim c.if-has_place.branch [
      | then-has_place w ↦ left old name taken c.if-has_place.locks c.take_out-named.ensures.rest
          (w.locks-is ∙ w.leave.ensures)
      | else-has_place w ↦ stayed old name c.if-has_place.locks (c.requires.place ∙ w.if-has_place.false)
          (w.locks-is ∙ c.take_out-named.ensures.rest)
    ] in
    let new = c.set_phase-before.new.self in
    (c.requires.live, ended old name c.if-has_place.locks new mid c.set_phase-before.ensures.rest)
