use Rattle.std.proofs.Common.{◌≡◌, ◌≢◌, ℕ, ◌∷◌, ◌++◌, MatchOption, sym, subst}
use Rattle.std.proofs.lemmas.Bool.{not-false}
use Rattle.fi_locks.specs.Semaphore.{at_own}
use Rattle.fi_locks.proofs.SemaphoreMarks.{unmark_kept, unmark_passed}
use Rattle.fi_locks.proofs.semaphore.pass_over.Goals as goal

pub returns-in_default-clause-marked : goal.returns-in_default-clause-marked
returns-in_default-clause-marked g c =
    unmark_kept (at_own c.args.permits c.args.waits.now) c.args.slot.0 c.args.marks.now.promised c.args.marks.now.untold
    c.requires.sound (not-false _ c.if-not-permits.false) c.requires.marked
    (subst (λ o. MatchOption o (Unit {0}) (λ slot. slot.0 ≢ c.args.slot.0)) (sym c.in_default.is) tt)

pub returns-then-first-slot-clause-marked : goal.returns-then-first-slot-clause-marked
returns-then-first-slot-clause-marked g c =
    unmark_passed (at_own c.args.permits c.args.waits.now) c.args.slot.0 c.args.marks.now.promised c.args.marks.now.untold
    c.requires.sound (not-false _ c.if-not-permits.false) c.requires.marked c.in-Some.first c.younger-marks.result c.in-Some.is
    c.if-first-slot.true
    (λ front rest is. c.younger-marks.ensures.next front rest
    (subst (λ (n : ℕ). c.args.waits.now.side.queue ≡ front ++ n ∷ rest) c.if-first-slot.true is))

pub returns-else-first-slot-clause-marked : goal.returns-else-first-slot-clause-marked
returns-else-first-slot-clause-marked g c =
    unmark_kept (at_own c.args.permits c.args.waits.now) c.args.slot.0 c.args.marks.now.promised c.args.marks.now.untold
    c.requires.sound (not-false _ c.if-not-permits.false) c.requires.marked
    (subst (λ o. MatchOption o (Unit {0}) (λ slot. slot.0 ≢ c.args.slot.0)) (sym c.in-Some.is) c.if-first-slot.false)
