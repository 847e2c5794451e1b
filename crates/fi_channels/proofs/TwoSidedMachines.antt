-- What each line of a two-sided machine's table keeps.
use Rattle.std.specs.Prelude.{◌≡◌, ℕ, List, ◌∷◌, refl}
use Rattle.std.proofs.Common.{subst, sym}
use Rattle.fi_channels.specs.TwoSidedEffects.{TwoSidedEffect, waiting_sends, waiting_receives}
use Rattle.fi_channels.specs.TwoSidedTable.{AllowsTwoSided, KeepsKinds, on_sends, on_receives, TwoSidedLine}
use Rattle.fi_channels.specs.TwoSidedMachine.{TwoSidedMachine, TwoSidedRules, TwoSidedStep, HasSoundSides, initial_two_sided}
use Rattle.fi_parts.specs.WakerHistory.{WakerChange, KeepsWakers}
use Rattle.fi_parts.specs.Waiting.{Waiting, asks_of}
use Rattle.fi_channels.proofs.BothSound.{both_sound-new}
use Rattle.fi_channels.proofs.TwoSidedEffects.{SideStep, two_sided_step, kinds_stay}
use Rattle.fi_parts.proofs.Effects.{SparedBy}
use Rattle.fi_parts.proofs.WakerHistories.{carried_keeps_wakers}

module _ {S D E W : Type 0} (rules : TwoSidedRules W) where
  pub two_sided_initial : (own : S) → HasSoundSides rules (initial_two_sided {D = D} {E = E} own)
  two_sided_initial own = both_sound-new rules.sending rules.receiving rules.known_send.gone rules.known_receive.gone

  -- the line of a table
  pub two_sided_line : (own : S) (effect : TwoSidedEffect D E W) (old new : TwoSidedMachine S D E W) → TwoSidedStep old own effect new →
      KeepsKinds effect → AllowsTwoSided rules.sending rules.receiving old.waiting effect →
      TwoSidedLine rules (on_sends effect) (on_receives effect) old new
  two_sided_line own effect old new steps kinds allows = record {
    own = own;
    effect = effect;
    steps = steps;
    kinds = kinds;
    allows = allows;
    on_sends_is = refl;
    on_receives_is = refl;
  }

  module _ {send_wakers receive_wakers : WakerChange W} (old new : TwoSidedMachine S D E W)
      (line : TwoSidedLine rules send_wakers receive_wakers old new) (was : HasSoundSides rules old) where
    -- what becomes of either side
    pub line_steps : SideStep rules.known_send send_wakers (waiting_sends old.waiting) (waiting_sends new.waiting)
        × SideStep rules.known_receive receive_wakers (waiting_receives old.waiting) (waiting_receives new.waiting)
    line_steps =
        rw (← line.on_sends_is, ← line.on_receives_is)
        (two_sided_step rules.known_send rules.known_receive line.effect old.waiting new.waiting line.allows was line.steps.1)

    pub two_sided_line_sound : HasSoundSides rules new
    two_sided_line_sound = record { sends = line_steps.0.sound; receives = line_steps.1.sound }

    pub line_kinds_stay : (q : ℕ) → SparedBy receive_wakers q → asks_of new.waiting.receives q ≡ asks_of old.waiting.receives q
    line_kinds_stay q spared =
        kinds_stay rules.sending rules.receiving line.effect old.waiting new.waiting line.kinds line.allows line.steps.1 q
        (subst (λ (e : WakerChange W). SparedBy e q) (sym line.on_receives_is) spared)

  -- A line keeps the wakers of the pending sends, and of the pending receives.
  module _ {X : Type 0} (entry_on_sends entry_on_receives : X → WakerChange W) (history : List X) (entry : X)
      (old new : TwoSidedMachine S D E W) (line : TwoSidedLine rules (entry_on_sends entry) (entry_on_receives entry) old new)
      (was : HasSoundSides rules old) where
    pub line_keeps_send_wakers : (first : Waiting D W) → KeepsWakers entry_on_sends first history (waiting_sends old.waiting) →
        KeepsWakers entry_on_sends first (entry ∷ history) (waiting_sends new.waiting)
    line_keeps_send_wakers first kept =
        carried_keeps_wakers entry_on_sends first history entry (waiting_sends old.waiting) (waiting_sends new.waiting)
        (line_steps old new line was).0.carries_on kept

    pub line_keeps_receive_wakers : (first : Waiting E W) → KeepsWakers entry_on_receives first history (waiting_receives old.waiting) →
        KeepsWakers entry_on_receives first (entry ∷ history) (waiting_receives new.waiting)
    line_keeps_receive_wakers first kept =
        carried_keeps_wakers entry_on_receives first history entry (waiting_receives old.waiting) (waiting_receives new.waiting)
        (line_steps old new line was).1.carries_on kept
