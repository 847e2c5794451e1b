use Rattle.std.proofs.Common.{◌≡◌, ℕ, true, Some, is_some, unwrap_or, ap, sym, ◌∙◌, subst, rules as lemmas}
use Rattle.std.proofs.lemmas.Bool.{and_parts}
use Rattle.std.specs.FinMap as map
use Rattle.fi_parts.specs.declared.phase.LiveFuture.{LiveFuture}
use Rattle.fi_parts.specs.Effects.{TakesEffect}
use Rattle.fi_parts.specs.Effects.WaiterEffect.{Removes}
use Rattle.fi_parts.specs.Machine.{phase_at, displaced_at}
use Rattle.fi_parts.specs.Pairs.{without_pair}
use Rattle.fi_parts.specs.Places.{is_told}
use Rattle.fi_parts.specs.Waiting.{Waiting, phase_in, asks_in, without_future}
use Rattle.fi_parts.proofs.Effects.{waits_are_fit}
use Rattle.fi_parts.proofs.Machines.{others_stay}
use Rattle.fi_locks.specs.Semaphore.{SemaphoreMachine, at_own, can_be_polled, cancel_tells, need_of, Cancels}
use Rattle.fi_locks.specs.SemaphoreMarks.{TellsIf}
use Rattle.fi_locks.specs.SemaphoreLaws.{cancelled, cancel_holds}
use Rattle.fi_locks.specs.SemaphoreSoundLaws.{rules, after, sound_removed}
use Rattle.fi_locks.proofs.SemaphoreMarks.{marks_removed, told_need_free}
use Rattle.fi_locks.proofs.SemaphoreSteps.{steps_telling}
use Rattle.fi_locks.proofs.semaphore.SemaphoreState.leave.Given.{Over}
use Rattle.fi_locks.proofs.semaphore.SemaphoreState.leave.Goals as goal

-- This future left, of waiters that were passed on as they were.
record Left {W : Type 0} (old : SemaphoreMachine W) (name : ℕ) (future : LiveFuture ℕ W) (mid : Waiting ℕ W) : Type 0 where
  told : is_told (phase_at old name) ≡ is_told (Some future.phase)
  need : need_of old.waiting.side name ≡ future.asks
  tells : cancel_tells old.own.is_fair (phase_at old name) ≡ cancel_tells old.own.is_fair (Some future.phase)
  taken : TakesEffect (Removes name) old.waiting mid

has_left : {W : Type 0} (old : SemaphoreMachine W) (name : ℕ) (future : LiveFuture ℕ W) (passed mid : Waiting ℕ W) →
    passed ≡ old.waiting → map.get passed.side.live name ≡ Some future →
    mid ≡ record { side = without_future passed.side name; out = without_pair name passed.out } → Left old name future mid
has_left {W} old name future passed mid same was removed =
    let stood : map.get old.waiting.side.live name ≡ Some future = ap (λ w. map.get w.side.live name) (sym same) ∙ was in
    record {
      told = ap (λ o. is_told (phase_in o)) stood;
      need = ap (λ o. unwrap_or (asks_in o) 0) stood;
      tells = ap (λ o. cancel_tells old.own.is_fair (phase_in o)) stood;
      taken = (
        ap is_some stood,
        removed ∙ ap (λ (v : Waiting ℕ W). let w : Waiting ℕ W =
            record { side = without_future v.side name; out = without_pair name v.out } in w) same,
      );
    }

pub unpromise-requires : goal.unpromise-requires
unpromise-requires g c is =
    let inside = c.self.inside in
    let old = at_own inside.permits inside.waits in
    let left = has_left old c.args.slot.0 _ _ _ c.pass_over.ensures.same c.in-Some.ensures.future c.in-Some.ensures.removed in
    let parts = and_parts inside.permits.is_fair c.is_told.result is in
    rw (← left.need, c.pass_over.ensures.promised) (told_need_free old c.args.slot.0 inside.marks.promised inside.marks.untold
    inside.waits c.self.invariant.0.0 parts.0 (left.told ∙ sym c.is_told.ensures ∙ parts.1) c.self.invariant.1)

pub tell_if-requires-clause-sound : goal.tell_if-requires-clause-sound
tell_if-requires-clause-sound g c =
    let old = at_own c.self.inside.permits c.self.inside.waits in
    let mid = c.remove_future.new.self in
    let left = has_left old c.args.slot.0 _ _ _ c.pass_over.ensures.same c.in-Some.ensures.future c.in-Some.ensures.removed in
    sound_removed old mid c.args.slot.0 c.self.invariant.0.0 left.taken
    (after (Removes c.args.slot.0) old mid c.self.invariant.0.0 tt left.taken)

pub tell_if-requires-clause-marked : goal.tell_if-requires-clause-marked
tell_if-requires-clause-marked g c =
    let old = at_own c.self.inside.permits c.self.inside.waits in
    let mid = c.remove_future.new.self in
    let left = has_left old c.args.slot.0 _ _ _ c.pass_over.ensures.same c.in-Some.ensures.future c.in-Some.ensures.removed in
    rw (c.unpromise.ensures, c.pass_over.ensures.promised, c.is_told.ensures, ← left.told, ← left.need)
    (marks_removed old c.args.slot.0 _ c.pass_over.new.marks.untold mid c.self.invariant.0.0 c.pass_over.ensures.marked left.taken)

abbrev old : (g : Over) (c : goal.After-tell_if g) → SemaphoreMachine g.row.W.Denot
old g c = at_own c.self.inside.permits c.self.inside.waits

abbrev new : (g : Over) (c : goal.After-tell_if g) → SemaphoreMachine g.row.W.Denot
new g c = at_own c.self.inside.permits c.tell_if.new.waits

did : (g : Over) (c : goal.After-tell_if g) → Cancels (old g c) c.args.slot.0 (new g c)
did g c =
    let mid = c.remove_future.new.self in
    let left = has_left (old g c) c.args.slot.0 _ _ _ c.pass_over.ensures.same c.in-Some.ensures.future c.in-Some.ensures.removed in
    steps_telling _ (old g c) (old g c).own (Removes c.args.slot.0) mid (new g c) left.taken
    (subst (λ b. TellsIf b (at_own (old g c).own mid) (new g c)) (c.tells_on_cancel-tells.ensures ∙ sym left.tells)
    c.tell_if.ensures.told)

pub invariant_of-self-2 : goal.invariant_of-self-2
invariant_of-self-2 g c = (cancel_holds (old g c) (new g c) c.args.slot.0 c.self.invariant.0 (did g c), c.tell_if.ensures.marked)

pub returns-clause-left : goal.returns-clause-left
returns-clause-left g c =
    let had : c.last_waker-waker.result ≡ displaced_at (old g c) c.args.slot.0 = search lemmas in
    let lives : is_some (phase_at (old g c) c.args.slot.0) ≡ true = search lemmas in
    rw (← c.self.view_is, lives) (did g c, had)

pub returns-clause-others : goal.returns-clause-others
returns-clause-others g c =
    rw (← c.self.view_is) (others_stay (rules (old g c).own.is_fair) can_be_polled waits_are_fit (old g c) (new g c)
    c.self.invariant.0.0.waiters c.args.slot.0 (cancelled (old g c) (new g c) c.args.slot.0 (did g c)))
