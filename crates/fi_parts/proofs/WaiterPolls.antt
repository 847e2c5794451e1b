-- What a poll does to a future, and what it leaves as it was.
use Rattle.std.proofs.Common.{◌≡◌, ℕ, Bool, true, false, Some, refl, sym, ap, ◌∙◌, subst}
use Rattle.std.specs.Option.{IsSome}
use Rattle.std.specs.FinMap as map
use Rattle.futures.specs.declared.task.Poll.TheVariants.{Pending}
use Rattle.fi_parts.specs.declared.phase.Phase.{Phase}
use Rattle.fi_parts.specs.declared.phase.Phase.TheVariants.{Fresh, Registered, Ended}
use Rattle.fi_parts.specs.declared.phase.PollStep.{PollStep}
use Rattle.fi_parts.specs.declared.phase.PollStep.TheVariants.{Stays, Joins, Ends as EndsWith}
use Rattle.fi_parts.specs.PlaceRules.{registered_rule}
use Rattle.fi_parts.specs.Waiting.{Waiters, Waiting, with_phase, phase_of, is_registered, registered, stays, IsLive, IsOrdered}
use Rattle.fi_parts.specs.WaiterPolls.{phase_after_poll, has_to_wait, poll_step, OnWaits, waiters_after_poll, PollsWaiter}
use Rattle.fi_parts.proofs.Pairs.{without_no_pair}
use Rattle.fi_parts.proofs.Waiting.{no_pair, lives_as, phase-with_phase}

module _ {W : Type 0} where
  -- whoever need not wait ends
  pub never_waits : (ends : Bool) (phase : Phase W) (waker : W) (P : Type 0) → has_to_wait ends (Some phase) ≡ false →
      OnWaits (poll_step ends phase waker) P
  never_waits false Fresh waker P is_not = cc
  never_waits ends (Registered w) waker P is_not = cc
  never_waits ends phase waker P is_not = tt

  pub may_wait_on : (step : PollStep W) (P : Type 0) → P → OnWaits step P
  may_wait_on (Stays w) P p = p
  may_wait_on Joins P p = p
  may_wait_on (EndsWith w) P p = tt

module _ {D W : Type 0} where
  -- one that joins the queue was not registered, and is now
  pub record HasJoined (ends : Bool) (before : Phase W) (side : Waiters D W) (name : ℕ) (waker : W) : Type 0 where
    pub unregistered : is_registered (Some before) ≡ false
    pub phase : phase_after_poll ends before waker ≡ Registered waker
    pub polled : waiters_after_poll ends before side name waker ≡ registered side name waker

  pub joined : (ends : Bool) (before : Phase W) (side : Waiters D W) (name : ℕ) (waker : W) →
      Joins ≡ poll_step ends before waker → HasJoined ends before side name waker
  joined false Fresh side name waker is = record { unregistered = refl; phase = refl; polled = refl }
  joined true Fresh side name waker is = cc
  joined ends before side name waker is = cc

  -- any other keeps its place in the queue, or has none
  pub kept_place : (ends : Bool) (before : Phase W) (side : Waiters D W) (name : ℕ) (waker : W) →
      ¬ (Joins ≡ poll_step ends before waker) →
      waiters_after_poll ends before side name waker ≡ record side { live = with_phase side.live name (phase_after_poll ends before waker) }
  kept_place false Fresh side name waker other = absurd (other refl)
  kept_place true Fresh side name waker other = refl
  kept_place ends before side name waker other = refl

  rephased_lives : (side : Waiters D W) (name : ℕ) (phase : Phase W) → IsLive side name →
      IsSome (map.get (with_phase side.live name phase) name)
  rephased_lives side name phase lives =
      lives_as (record side { live = with_phase side.live name phase }) name phase (phase-with_phase side.live name phase lives)

  -- the future that was polled lives on
  pub polled_lives : (ends : Bool) (before : Phase W) (side : Waiters D W) (name : ℕ) (waker : W) → IsLive side name →
      IsLive (waiters_after_poll ends before side name waker) name
  polled_lives false Fresh side name waker lives = rephased_lives side name (Registered waker) lives
  polled_lives ends (Registered w) side name waker lives = rephased_lives side name (Registered waker) lives
  polled_lives ends before side name waker lives = rephased_lives side name Ended lives

  -- One that stays registered has no pair, so none need be taken out.
  pub stayed : (ends : Bool) (before : Phase W) (w : W) (old : Waiting D W) (name : ℕ) (waker : W) (new : Waiting D W) →
      IsOrdered old.side old.out → phase_of old.side name ≡ Some before → Stays w ≡ poll_step ends before waker →
      new ≡ record old { side = waiters_after_poll ends before old.side name waker } →
      PollsWaiter (phase_of old.side name) ends old name waker Pending new
  stayed ends (Registered v) w old name waker new ordered phase step is =
      let registered : is_registered (phase_of old.side name) ≡ true = ap is_registered phase in
      let off = no_pair is_registered registered_rule old.side old.out name ordered registered in
      subst (λ p. PollsWaiter p ends old name waker Pending new) (sym phase) (
        refl,
        (registered, is ∙ (λ i. record { side = stays old.side name waker; out = sym (without_no_pair name old.out off) i })),
      )
  stayed true Fresh w old name waker new ordered phase step is = cc
  stayed ends before w old name waker new ordered phase step is = cc
