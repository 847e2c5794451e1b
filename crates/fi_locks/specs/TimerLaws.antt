-- Each call on a timer is a line of its table, so it keeps a timer sound that owes no wake.
use Rattle.std.specs.Prelude.{◌≡◌, ◌<◌, ◌&&◌, ℕ, Bool, true, false, nat_le, min, max, Option, Some, None, unwrap_or, refl}
use Rattle.std.proofs.Common.{ap, sym, ◌∙◌, arith}
use Rattle.std.proofs.lemmas.Bool.{leb-false}
use Rattle.futures.specs.declared.task.Poll.{Poll}
use Rattle.fi_parts.specs.declared.phase.Phase.{Phase}
use Rattle.fi_parts.specs.declared.phase.Phase.TheVariants.{Fresh, Registered, Told}
use Rattle.fi_parts.specs.declared.phase.Notice.TheVariants.{Tell}
use Rattle.fi_parts.specs.Deadlines.{expiry_of, is_due}
use Rattle.fi_parts.specs.WakerHistory.WakerChange.{NoEffect}
use Rattle.fi_parts.specs.Effects.WaiterEffect.{NotifiesListed}
use Rattle.fi_parts.specs.Machine.{phase_at}
use Rattle.fi_parts.specs.MachineTable.{WaiterRules, TableLine, PollLine, poll_change}
use Rattle.fi_parts.specs.Places.{never_queued}
use Rattle.fi_parts.specs.PlaceRules.{never_rule}
use Rattle.fi_parts.specs.Waiting.{asks_of, is_registered}
use Rattle.fi_parts.proofs.Effects.{waits_known}
use Rattle.fi_parts.proofs.Machines.{initial_holds, line, ends, registers_apart, stays, added}
use Rattle.fi_locks.specs.Timer.{TimerMachine, opened, is_wait_phase, lacks, can_be_polled}
use Rattle.fi_locks.specs.Timer.{PollsAs, Polls, Makes, Checks, IsSound, OwesNoWake}

-- whose expiry is later than a moment lacks what it waits for at a floor that is not later than the moment
late_lacks : (floor now : ℕ) (asks : Option ℕ) → nat_le (unwrap_or asks 0) now ≡ false → lacks (min floor now) asks
late_lacks floor now (Some expiry) late = let later : now < expiry = leb-false expiry now late in omega arith
late_lacks floor now None late = let later : now < 0 = leb-false 0 now late in absurd (omega arith)

-- a lower floor
lower_lacks : (floor now : ℕ) (asks : Option ℕ) → lacks floor asks → lacks (min floor now) asks
lower_lacks floor now (Some expiry) lack = omega arith
lower_lacks floor now None lack = lack

-- a higher floor, which is not later than a moment that the expiry is later than
higher_lacks : (floor now : ℕ) (asks : Option ℕ) → nat_le (unwrap_or asks 0) now ≡ false → lacks floor asks → lacks (max floor now) asks
higher_lacks floor now (Some expiry) late lack = let later : now < expiry = leb-false expiry now late in omega arith
higher_lacks floor now None late lack = lack

module _ {W : Type 0} where
  -- no phase has a place in a queue
  abbrev pub rules : WaiterRules ℕ ℕ W
  rules = record { phases = is_wait_phase; known = waits_known; place = never_queued; places = never_rule; lacks = lacks }

  pub opened_holds : IsSound (opened {W = W}) × OwesNoWake (opened {W = W})
  opened_holds = initial_holds rules 0

  module _ (old : TimerMachine W) (name now : ℕ) (waker : W) (answer : Poll (Unit {0})) (new : TimerMachine W) where
    polls_as : (phase : Option (Phase W)) (come : Bool) → nat_le (expiry_of old.waiting.side name) now ≡ come →
        PollsAs phase come old name now waker answer new → PollLine rules name (poll_change name waker answer) old new
    polls_as (Some Fresh) true is did = ends rules old.own name waker old new did tt (λ asks lack. lack)
    polls_as (Some Fresh) false is did =
        registers_apart rules (min old.own now) name waker old new did tt (late_lacks old.own now (asks_of old.waiting.side name) is)
        (λ asks lack. lower_lacks old.own now asks lack)
    polls_as (Some (Registered before)) come is did = stays rules old.own name waker old new did (λ asks lack. lack)
    polls_as (Some Told) come is did = ends rules old.own name waker old new did tt (λ asks lack. lack)
    polls_as phase come is did = absurd did

    pub polled : Polls old name now waker answer new → PollLine rules name (poll_change name waker answer) old new
    polled did = polls_as (phase_at old name) (nat_le (expiry_of old.waiting.side name) now) refl did

  module _ (old new : TimerMachine W) where
    -- who waits and is not due has a later expiry
    pub not_come : (now name : ℕ) → is_registered (phase_at old name) ≡ true → is_due now old.waiting.side name ≡ false →
        nat_le (expiry_of old.waiting.side name) now ≡ false
    not_come now name waits none = ap (λ b. b && nat_le (expiry_of old.waiting.side name) now) (sym waits) ∙ none

    pub was_checked : (now : ℕ) → Checks old now new → TableLine rules NoEffect old new
    was_checked now did = line rules (max old.own now) (NotifiesListed Tell did.0) old new did.2 refl
        (λ name waits apart lack. higher_lacks old.own now (asks_of old.waiting.side name)
        (not_come now name waits (sym (did.1.exactly name) ∙ apart)) lack)

    pub makes_pollable : (expiry name : ℕ) → Makes old expiry name new → can_be_polled (phase_at new name) ≡ true
    makes_pollable expiry name did = ap can_be_polled (added rules old.own name expiry old new did)
