-- How the calls on a semaphore's fields make up the lines of its table.
use Rattle.std.proofs.Common.{◌≡◌, ℕ, ◌≤◌, ◌<◌, Bool, true, false, Option, Some, refl, sym, ap, subst, ◌∙◌, arith}
use Rattle.std.proofs.lemmas.Bool.{le-leb, lt-leb, false_from_ne_true}
use Rattle.futures.specs.declared.task.Poll.TheVariants.{Ready, Pending}
use Rattle.fi_parts.specs.declared.errors.Slot.{Slot}
use Rattle.fi_parts.specs.declared.phase.Phase.TheVariants.{Told}
use Rattle.fi_parts.specs.Effects.{WaiterEffect, TakesEffect}
use Rattle.fi_parts.specs.Effects.WaiterEffect.{Registers, EndsPlaced}
use Rattle.fi_parts.specs.Machine.{phase_at, StepsTo}
use Rattle.fi_parts.specs.Order.{holds}
use Rattle.fi_parts.specs.Places.{is_told}
use Rattle.fi_parts.specs.Waiting.{Waiters, Waiting, is_queued}
use Rattle.fi_locks.specs.Semaphore.{Permits, SemaphoreMachine, at_own, granted, need_of}
use Rattle.fi_locks.specs.Semaphore.{is_granted, StepsTelling, PollsAs, PollsNeeding, Polls, IsSound}
use Rattle.fi_locks.specs.SemaphoreMarks.{MarksIf, TellsIf}
use Rattle.fi_locks.specs.SemaphoreLaws.{unqueued}
use Rattle.fi_locks.proofs.SemaphoreMarks.{marks_fair, marks_unfair, told_need_free}

module _ {W : Type 0} where
  -- a step, and then a telling round or none
  pub steps_telling : (tells : Bool) (old : SemaphoreMachine W) (permits : Permits) (effect : WaiterEffect ℕ W) (mid : Waiting ℕ W)
      (new : SemaphoreMachine W) → TakesEffect effect old.waiting mid → TellsIf tells (at_own permits mid) new →
      StepsTelling tells old permits effect new
  steps_telling true old permits effect mid new taken did = (mid, taken, did)
  steps_telling false old permits effect mid new taken same =
      subst (λ m. StepsTo old permits effect m) (sym same) (refl, taken)

  -- nothing is marked in an unfair semaphore
  pub marks_any : (is_fair : Bool) (free free_now promised : ℕ) (untold untold_now : Option Slot) (old new : Waiters ℕ W) →
      is_fair ≡ false →
      MarksIf is_fair free promised untold old → MarksIf is_fair free_now promised untold_now new
  marks_any is_fair free free_now promised untold untold_now old new unfair was =
      subst (λ b. MarksIf b free_now promised untold_now new) (sym unfair) (marks_unfair is_fair free promised untold old unfair was)

  module _ (old : SemaphoreMachine W) (name promised : ℕ) (untold : Option Slot) (sound : IsSound old)
      (was : MarksIf old.own.is_fair old.own.free promised untold old.waiting.side) (stood : phase_at old name ≡ Some Told) where
    -- a told future whose need isn't free is one of an unfair semaphore
    pub told_unfair : old.own.free < need_of old.waiting.side name → old.own.is_fair ≡ false
    told_unfair over = false_from_ne_true _ (λ fair.
        let marks = marks_fair old.own.is_fair old.own.free promised untold old.waiting.side fair was in
        let small : need_of old.waiting.side name ≤ promised =
        told_need_free old name promised untold old.waiting sound fair (ap is_told stood) was in
        too_much marks.fits small)
      where
        too_much : promised ≤ old.own.free → need_of old.waiting.side name ≤ promised → ⊥
        too_much fits small = omega (arith, fits, small, over)

    pub told_apart : old.own.is_fair ≡ false → holds name old.waiting.side.queue ≡ false
    told_apart unfair = unqueued old name sound (ap (is_queued old.own.is_fair) stood ∙ unfair)

  module _ (old : SemaphoreMachine W) (name : ℕ) (waker : W) (new : SemaphoreMachine W) (stood : phase_at old name ≡ Some Told) where
    pub told_pends : old.own.free < need_of old.waiting.side name → old.own.is_fair ≡ false →
        StepsTo old old.own (Registers name waker) new → Polls old name waker Pending new
    told_pends over unfair steps =
        let need = need_of old.waiting.side name in
        subst (λ p. PollsAs p (is_granted p old need) need old name waker Pending new) (sym stood)
        (subst (λ b. PollsAs (Some Told) b need old name waker Pending new) (sym (lt-leb need old.own.free over)) (unfair, refl, steps))

    pub told_ends : (need : ℕ) → need ≡ need_of old.waiting.side name → need ≤ old.own.free →
        StepsTelling old.own.is_fair old (granted old.own need) (EndsPlaced name) new → Polls old name waker (Ready need) new
    told_ends need is fits steps =
        subst (λ n. PollsNeeding n old name waker (Ready need) new) is
        (subst (λ p. PollsAs p (is_granted p old need) need old name waker (Ready need) new) (sym stood)
        (subst (λ b. PollsAs (Some Told) b need old name waker (Ready need) new) (sym (le-leb need old.own.free fits)) (refl, steps)))
