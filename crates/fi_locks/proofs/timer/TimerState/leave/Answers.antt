use Rattle.std.proofs.Common.{◌≡◌, ℕ, Bool, true, false, Option, is_some, refl, rules as lemmas}
use Rattle.fi_parts.specs.Machine.{phase_at}
use Rattle.fi_parts.specs.Pairs.{without_pair}
use Rattle.fi_parts.specs.Polled.{LeavesWhere}
use Rattle.fi_parts.specs.Stays.{OthersStay}
use Rattle.fi_parts.specs.Waiting.{Waiting, displaced, phase_of, without_future}
use Rattle.fi_parts.proofs.Effects.{waits_are_fit}
use Rattle.fi_parts.proofs.Machines.{line_preserves, unchanged, removes, others_stay, same_stays}
use Rattle.fi_locks.specs.Timer.{TimerMachine, Cancels, IsSound, OwesNoWake, can_be_polled}
use Rattle.fi_locks.specs.TimerLaws.{rules}
use Rattle.fi_locks.proofs.timer.TimerState.leave.Goals as goal

-- What holds after a cancel, also where nobody lives under this name.
record AfterLeave {W : Type 0} (old : TimerMachine W) (name : ℕ) (new : TimerMachine W) : Type 0 where
  invariant : IsSound new × OwesNoWake new
  others : OthersStay can_be_polled name old new

module _ {W : Type 0} (floor : ℕ) (deadlines : Waiting ℕ W) (name : ℕ) (left : Option W) (after : Waiting ℕ W) where
  abbrev old : TimerMachine W
  old = record { own = floor; waiting = deadlines }

  abbrev new : TimerMachine W
  new = record { own = floor; waiting = after }

  cancelled : is_some (phase_at old name) ≡ true →
      after ≡ record { side = without_future deadlines.side name; out = without_pair name deadlines.out } → Cancels old name new
  cancelled lives is = search lemmas

  after_leave : (lives : Bool) → is_some (phase_of deadlines.side name) ≡ lives → IsSound old × OwesNoWake old →
      LeavesWhere lives (after ≡ record { side = without_future deadlines.side name; out = without_pair name deadlines.out })
      (displaced deadlines.side deadlines.out name) deadlines left after → AfterLeave old name new
  after_leave true lives held did =
      let line = removes rules name old new (cancelled lives did.0) in
      record {
        invariant = line_preserves rules old new line held;
        others = others_stay rules can_be_polled waits_are_fit old new held.0 name line;
      }
  after_leave false lives held did =
      let same : new ≡ old = search lemmas in
      record {
        invariant = line_preserves rules old new (unchanged rules old new same) held;
        others = same_stays can_be_polled name old new same;
      }

pub invariant_of-self : goal.invariant_of-self
invariant_of-self g c = (after_leave _ _ c.args.slot.0 _ _ _ refl c.self.invariant c.remove.ensures).invariant

pub returns-clause-others : goal.returns-clause-others
returns-clause-others g c =
    rw (← c.self.view_is) (after_leave _ _ c.args.slot.0 _ _ _ refl c.self.invariant c.remove.ensures).others
