use Rattle.std.proofs.Common.{◌≡◌, ℕ, Bool, true, false, Option, Some, None, MatchOption, refl, sym, subst, rules}
use Rattle.futures.specs.declared.task.Poll.{Poll}
use Rattle.fi_sync.specs.Waiting.{is_over, Befalls, IsPolled, IsSettled, IsTakenOutIf, PollsAs}
use Rattle.fi_sync.specs.declared.claim.Fate.{Fate}
use Rattle.fi_sync.specs.declared.claim.Fate.TheVariants.{GoesOn, Ended}
use Rattle.fi_sync.proofs.wakes.poll_or_end.Goals as goal

module _ {S W A B L : Type 0} (polls : S → ℕ → Option W → Poll A → S → Type 0) (cancels : S → ℕ → L → S → Type 0)
    (is_last : A → Bool) (name : ℕ) (takes_out : Bool) (old mid : S) where
  abbrev Did : Option (Poll A × B) → Type 0
  Did polled = MatchOption polled (mid ≡ old) (λ polled. IsPolled (PollsAs takes_out polls cancels is_last) name polled.0 old mid)

module _ {S W A B L : Type 0} (K : Type 0) (polls : S → ℕ → Option W → Poll A → S → Type 0) (cancels : S → ℕ → L → S → Type 0)
    (is_last : A → Bool) (name : ℕ) where
  settles : (takes_out over : Bool) (polled : Option (Poll A × B)) (fate : Fate K L) (old mid new : S) →
      Did polls cancels is_last name takes_out old mid polled → is_over is_last polled ≡ over → Befalls {K = K} cancels over name fate mid new →
      IsSettled {K = K} polls cancels is_last name polled fate old new
  settles takes_out over None fate old mid new did is befell = (
    mid,
    did,
    subst (λ over. Befalls {K = K} cancels over name fate mid new) (sym is) befell,
  )
  settles false over (Some polled) fate old mid new did is befell = (
    mid,
    did,
    subst (λ over. Befalls {K = K} cancels over name fate mid new) (sym is) befell,
  )
  settles true true (Some polled) (Ended left) old mid new did is befell = (
    did.1.0,
    (did.0, did.1.1, did.2),
    subst (λ over. Befalls {K = K} cancels over name (Ended left) did.1.0 new) (sym is)
        (subst (λ over. IsTakenOutIf cancels over name did.1.0 mid) is did.1.2 left new befell),
  )
  settles true true (Some polled) (GoesOn claim) old mid new did is befell = absurd befell
  settles true false (Some polled) (GoesOn claim) old mid new did is befell = (
    did.1.0,
    (did.0, did.1.1, did.2),
    subst (λ over. Befalls {K = K} cancels over name (GoesOn claim) did.1.0 new) (sym is) (
      befell.0,
      subst (λ state. new ≡ state) (subst (λ over. IsTakenOutIf cancels over name did.1.0 mid) is did.1.2) befell.1,
    ),
  )
  settles true false (Some polled) (Ended left) old mid new did is befell = absurd befell

pub returns-then-has_ended-clause-settled : goal.returns-then-has_ended-clause-settled
returns-then-has_ended-clause-settled g c =
    let polled = c.poll_or_register-polled in
    let over : is_over g.S.Output.PollOutput.is_last polled.result ≡ true = search rules in
    let own : c.slot.result.0 ≡ c.args.claim = search rules in
    settles g.row.K.Denot g.S.PollSlot.polls g.S.PollSlot.cancels g.S.Output.PollOutput.is_last c.args.claim g.S.PollSlot.takes_out true
    polled.result (Ended c.cancel-left.result) c.args.state.now polled.new.state c.cancel-left.new.state
    (subst (λ name. Did g.S.PollSlot.polls g.S.PollSlot.cancels g.S.Output.PollOutput.is_last name
    g.S.PollSlot.takes_out c.args.state.now polled.new.state polled.result) own polled.ensures.polled)
    over c.cancel-left.ensures

pub returns-clause-settled : goal.returns-clause-settled
returns-clause-settled g c =
    let polled = c.poll_or_register-polled in
    let over : is_over g.S.Output.PollOutput.is_last polled.result ≡ false = search rules in
    let own : c.slot.result.0 ≡ c.args.claim = search rules in
    settles g.row.K.Denot g.S.PollSlot.polls g.S.PollSlot.cancels g.S.Output.PollOutput.is_last c.args.claim g.S.PollSlot.takes_out false
    polled.result (GoesOn c.args.claim) c.args.state.now polled.new.state polled.new.state
    (subst (λ name. Did g.S.PollSlot.polls g.S.PollSlot.cancels g.S.Output.PollOutput.is_last name
    g.S.PollSlot.takes_out c.args.state.now polled.new.state polled.result) own polled.ensures.polled)
    over (refl, refl)
