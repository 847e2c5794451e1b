-- A machine with data of its own, and sends and receives that wait over one outbox.
use Rattle.std.specs.Prelude.{◌≡◌, Bool, Option}
use Rattle.fi_parts.specs.declared.phase.Phase.{Phase}
use Rattle.fi_parts.specs.Machine.{AllowsBasics}
use Rattle.fi_channels.specs.TwoSidedEffects.{TwoSidedEffect, TakesTwoSided}
use Rattle.fi_channels.specs.TwoSidesModel.{TwoSidesModel, no_waiters, AreBothSound}

pub record TwoSidedMachine (S D E W : Type 0) : Type 0 where
  pub own : S
  pub waiting : TwoSidesModel D E W

-- The phases of its sends, and of its receives.
pub record TwoSidedRules (W : Type 0) : Type 0 where
  pub sending : Option (Phase W) → Bool
  pub known_send : AllowsBasics sending
  pub receiving : Option (Phase W) → Bool
  pub known_receive : AllowsBasics receiving

module _ {S D E W : Type 0} where
  -- nobody waits
  abbrev pub initial_two_sided : S → TwoSidedMachine S D E W
  initial_two_sided own = record { own = own; waiting = no_waiters }

  -- Afterwards the machine has these data of its own, and its sends and receives took this effect.
  abbrev pub TwoSidedStep : TwoSidedMachine S D E W → S → TwoSidedEffect D E W → TwoSidedMachine S D E W → Type 0
  TwoSidedStep old own effect new = (new.own ≡ own) × TakesTwoSided effect old.waiting new.waiting

  -- On each side the queue holds exactly the registered ones, none twice; each pair is of a live one that is not registered, none
  -- has two; only this side's phases occur.
  abbrev pub HasSoundSides : TwoSidedRules W → TwoSidedMachine S D E W → Type 0
  HasSoundSides rules machine = AreBothSound rules.sending rules.receiving machine.waiting
