-- What the laws of a channel ask of each line of its table.
use Rattle.std.specs.Prelude.{◌≡◌, Bool, Option, true}
use Rattle.fi_parts.specs.declared.phase.Phase.{Phase}
use Rattle.fi_channels.specs.TwoSidedEffects.{TwoSidedEffect, TakesTwoSided, waiting_sends, waiting_receives}
use Rattle.fi_channels.specs.TwoSidesModel.{TwoSidesModel}
use Rattle.fi_parts.specs.WakerHistory.{WakerChange, gives}
use Rattle.fi_parts.specs.MachineTable.{keeps_asks, AllowsEffect, waker_change}
use Rattle.fi_parts.specs.PlaceRules.{registered_rule}
use Rattle.fi_parts.specs.WakerHistory.WakerChange.{NoEffect}
use Rattle.fi_channels.specs.TwoSidedMachine.{TwoSidedMachine, TwoSidedRules, TwoSidedStep}
use Rattle.fi_channels.specs.TwoSidedEffects.TwoSidedEffect.{OnSends, OnReceives, PopsFirst, Then}

module _ {D E W : Type 0} where
  -- what an effect is to the wakers of sends, and of receives; of two, the second only names futures
  abbrev pub on_sends : TwoSidedEffect D E W → WakerChange W
  on_sends (OnSends effect) = waker_change effect
  on_sends (OnReceives effect) = NoEffect
  on_sends (PopsFirst waker) = gives waker
  on_sends (Then one other) = on_sends one

  abbrev pub on_receives : TwoSidedEffect D E W → WakerChange W
  on_receives (OnSends effect) = NoEffect
  on_receives (OnReceives effect) = waker_change effect
  on_receives (PopsFirst waker) = gives waker
  on_receives (Then one other) = on_receives one

  -- This effect leaves only phases that its side knows.
  abbrev pub AllowsTwoSided : (sending receiving : Option (Phase W) → Bool) → TwoSidesModel D E W → TwoSidedEffect D E W → Type 0
  AllowsTwoSided sending receiving old (OnSends effect) = AllowsEffect registered_rule sending (waiting_sends old) effect
  AllowsTwoSided sending receiving old (OnReceives effect) = AllowsEffect registered_rule receiving (waiting_receives old) effect
  AllowsTwoSided sending receiving old (PopsFirst waker) = Unit {0}
  AllowsTwoSided sending receiving old (Then one other) = AllowsTwoSided sending receiving old one
      × ((mid : TwoSidesModel D E W) → TakesTwoSided one old mid → AllowsTwoSided sending receiving mid other)
      × (on_sends other ≡ NoEffect) × (on_receives other ≡ NoEffect)

-- Whoever receives is of the kind that it was.
abbrev pub KeepsKinds : {D E W : Type 0} → TwoSidedEffect D E W → Type 0
KeepsKinds (OnSends effect) = Unit {0}
KeepsKinds (OnReceives effect) = keeps_asks effect ≡ true
KeepsKinds (PopsFirst waker) = Unit {0}
KeepsKinds (Then one other) = KeepsKinds one × KeepsKinds other

-- One line of such a machine's table: its own data afterwards, the effect, and what this is to the wakers of each side.
pub record TwoSidedLine {S D E W : Type 0} (rules : TwoSidedRules W) (send_wakers receive_wakers : WakerChange W)
    (old new : TwoSidedMachine S D E W) : Type 0 where
  pub own : S
  pub effect : TwoSidedEffect D E W
  pub steps : TwoSidedStep old own effect new
  pub kinds : KeepsKinds effect
  pub allows : AllowsTwoSided rules.sending rules.receiving old.waiting effect
  pub on_sends_is : on_sends effect ≡ send_wakers
  pub on_receives_is : on_receives effect ≡ receive_wakers
