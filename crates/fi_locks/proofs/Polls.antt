-- What holds after a poll of any of the machines here.
use Rattle.std.proofs.Common.{◌≡◌, ℕ, true, is_some, Result, Ok, Err, IfOk, OnErr}
use Rattle.futures.specs.declared.task.Poll.{Poll}
use Rattle.futures.specs.Poll.{OnPending}
use Rattle.fi_parts.specs.Machine.{Machine, phase_at, HasSoundWaitersBy}
use Rattle.fi_parts.specs.MachineTable.{WaiterRules, PollLine, poll_change}
use Rattle.fi_parts.specs.Polled.{can_be_polled}
use Rattle.fi_parts.specs.Stays.{OthersStay}
use Rattle.fi_parts.proofs.Effects.{AreFit}
use Rattle.fi_parts.proofs.Machines.{polling_stays, pending_stays, same_stays}

module _ {S D W A : Type 0} (old : Machine S D W) (name : ℕ) where
  pub record AfterPoll (answer : Poll A) (new : Machine S D W) : Type 0 where
    pub live : is_some (phase_at new name) ≡ true
    pub pending : OnPending answer (can_be_polled (phase_at new name) ≡ true)
    pub others : OthersStay can_be_polled name old new

  -- The same of a poll that may be refused, which changes nothing then.
  pub record AfterPollOr {Rest Error : Type 0} (result : Result (Poll A × Rest) Error) (new : Machine S D W) : Type 0 where
    pub live : IfOk result (λ polled. is_some (phase_at new name) ≡ true)
    pub pending : IfOk result (λ polled. OnPending polled.0 (can_be_polled (phase_at new name) ≡ true))
    pub others : OthersStay can_be_polled name old new

  module _ (rules : WaiterRules S D W) (can : AreFit rules.phases can_be_polled) (waker : W) where
    abbrev LineOf : Poll A → Machine S D W → Type 0
    LineOf answer new = PollLine rules name (poll_change name waker answer) old new

    pub after_poll : HasSoundWaitersBy rules.place rules.phases old → (answer : Poll A) (new : Machine S D W) → LineOf answer new →
        AfterPoll answer new
    after_poll sound answer new poll = record {
      live = poll.lives;
      pending = pending_stays rules can_be_polled can old new sound name waker answer poll.line;
      others = polling_stays rules can_be_polled can old new sound name waker answer poll.line;
    }

    pub after_poll_or : {Rest Error : Type 0} → HasSoundWaitersBy rules.place rules.phases old →
        (polls : Poll A → Machine S D W → Type 0) → ((answer : Poll A) (new : Machine S D W) → polls answer new → LineOf answer new) →
        (result : Result (Poll A × Rest) Error) (new : Machine S D W) → IfOk result (λ polled. polls polled.0 new) →
        OnErr result (new ≡ old) → AfterPollOr result new
    after_poll_or sound polls line (Ok polled) new did same =
        let after = after_poll sound polled.0 new (line polled.0 new did) in
        record { live = after.live; pending = after.pending; others = after.others }
    after_poll_or sound polls line (Err why) new did same =
        record { live = tt; pending = tt; others = same_stays can_be_polled name old new same }
