-- What the laws of all machines ask of each line of a machine's table.
use Rattle.std.specs.Prelude.{◌≡◌, ⊤, ℕ, Bool, true, false, not, ◌&&◌, Option, Some, is_some, Result, Ok, Err}
use Rattle.futures.specs.declared.task.Poll.{Poll}
use Rattle.futures.specs.declared.task.Poll.TheVariants.{Ready, Pending}
use Rattle.fi_parts.specs.declared.errors.Fault.{Fault}
use Rattle.fi_parts.specs.declared.phase.Phase.{Phase}
use Rattle.fi_parts.specs.Noticed.{phase_after}
use Rattle.fi_parts.specs.Order.{holds}
use Rattle.fi_parts.specs.PlaceRules.{IsPlaceRule, IsUntold, registered_rule}
use Rattle.fi_parts.specs.Waiting.{Waiters, Waiting, phase_of, asks_of, is_registered}
use Rattle.fi_parts.specs.WakerHistory.{WakerChange, gives}
use Rattle.fi_parts.specs.WakerHistory.WakerChange.{Pends, Leaves, NoEffect}
use Rattle.fi_parts.specs.Effects.{WaiterEffect, TakesEffect}
use Rattle.fi_parts.specs.Effects.WaiterEffect.{Inserts, Registers, RegistersApart, KeepsWaiting, Ends, EndsPlaced}
use Rattle.fi_parts.specs.Effects.WaiterEffect.{Renews, Asks, Removes, NotifiesOldest, NotifiesAll, NotifiesListed}
use Rattle.fi_parts.specs.Effects.WaiterEffect.{NotifiesFront, CompletesOldest, PopsOldest, AndThen}
use Rattle.fi_parts.specs.declared.phase.Phase.TheVariants.{Registered, Told, Complete}
use Rattle.fi_parts.specs.Machine.{Machine, phase_at, StepsTo, AllowsBasics}

module _ {D W : Type 0} where
  -- what an effect is to the wakers; of two, the second only names futures
  abbrev pub waker_change : WaiterEffect D W → WakerChange W
  waker_change (Inserts name asks) = Leaves name
  waker_change (Registers name waker) = Pends name waker
  waker_change (RegistersApart name waker) = Pends name waker
  waker_change (KeepsWaiting name waker) = Pends name waker
  waker_change (Ends name) = Leaves name
  waker_change (EndsPlaced name) = Leaves name
  waker_change (Renews name) = Leaves name
  waker_change (Removes name) = Leaves name
  waker_change (PopsOldest waker) = gives waker
  waker_change (AndThen one other) = waker_change one
  waker_change effect = NoEffect

-- that test succeeds, and this holds
abbrev pub Given : Bool → Type 0 → Type 0
Given true X = X
Given false X = ⊥

-- The registered have places in the queue, and nobody else has.
abbrev pub queues_registered : {W : Type 0} {place : Option (Phase W) → Bool} → IsPlaceRule place → Bool
queues_registered {place = place} rule = rule.has_queue && not (place (Some Told))

module _ {W : Type 0} {place : Option (Phase W) → Bool} (rule : IsPlaceRule place) (known : Option (Phase W) → Bool) where
  -- This effect leaves only phases that are known, and the queue holds exactly those who have a place in it: who registers or ends
  -- has none yet, and who is notified leaves the queue unless its new phase has a place.
  abbrev pub AllowsEffect : {D : Type 0} → Waiting D W → WaiterEffect D W → Type 0
  AllowsEffect old (Registers name waker) = Given (place (Some (Registered waker))) (IsUntold (place (Some Told)) (phase_of old.side name))
  AllowsEffect old (RegistersApart name waker) =
      Given (not (place (Some (Registered waker)))) (IsUntold (place (Some Told)) (phase_of old.side name))
  AllowsEffect old (Ends name) = IsUntold (place (Some Told)) (phase_of old.side name)
  AllowsEffect old (Renews name) = IsUntold (place (Some Told)) (phase_of old.side name)
  AllowsEffect old (NotifiesOldest notice) = (known (Some (phase_after notice)) && not (place (Some (phase_after notice)))) ≡ true
  AllowsEffect old (NotifiesAll notice) = (known (Some (phase_after notice)) && queues_registered rule) ≡ true
  AllowsEffect old (NotifiesListed notice names) =
      (known (Some (phase_after notice)) && (not rule.has_queue && not (place (Some (phase_after notice))))) ≡ true
  AllowsEffect old (NotifiesFront keeps front) = (known (Some Told) ≡ true) × (place (Some Told) ≡ keeps)
  AllowsEffect old (CompletesOldest name asks) = known (Some Complete) ≡ true
  AllowsEffect {D} old (AndThen one other) = AllowsEffect old one
      × ((mid : Waiting D W) → TakesEffect one old mid → AllowsEffect mid other) × (waker_change other ≡ NoEffect)
  AllowsEffect old effect = ⊤

-- who lacked what it asks for lacks it still
abbrev pub StillLacks : {S D : Type 0} → (S → Option D → Type 0) → S → S → Type 0
StillLacks {S} {D} lacks before after = (asks : Option D) → lacks before asks → lacks after asks

module _ {S D W : Type 0} (lacks : S → Option D → Type 0) where
  -- Whoever is registered after this effect lacks what it asks for: after a notice to listed ones, those not listed; after two
  -- effects, if all do.
  abbrev pub LacksAfter : S → S → Waiters D W → WaiterEffect D W → Type 0
  LacksAfter before after side (Registers name waker) = lacks after (asks_of side name) × StillLacks lacks before after
  LacksAfter before after side (RegistersApart name waker) = lacks after (asks_of side name) × StillLacks lacks before after
  LacksAfter before after side (Asks name asks) =
      (is_registered (phase_of side name) ≡ true → lacks after (Some asks)) × StillLacks lacks before after
  LacksAfter before after side (NotifiesAll notice) = ⊤
  LacksAfter before after side (NotifiesListed notice names) = (name : ℕ) → is_registered (phase_of side name) ≡ true →
      holds name names ≡ false → lacks before (asks_of side name) → lacks after (asks_of side name)
  LacksAfter before after side (AndThen one other) = (asks : Option D) → lacks after asks
  LacksAfter before after side effect = StillLacks lacks before after

-- What the futures of a machine are like: the phases that they have, which of these have a place in the queue, and what a
-- future lacks while it waits.
pub record WaiterRules (S D W : Type 0) : Type 1 where
  pub phases : Option (Phase W) → Bool
  pub known : AllowsBasics phases
  pub place : Option (Phase W) → Bool
  pub places : IsPlaceRule place
  pub lacks : S → Option D → Type 0

-- The rules of a machine whose queue holds the registered futures.
abbrev pub queue_rules : {S D W : Type 0} (phases : Option (Phase W) → Bool) → AllowsBasics phases → (S → Option D → Type 0) →
    WaiterRules S D W
queue_rules phases known lacks =
    record { phases = phases; known = known; place = is_registered; places = registered_rule; lacks = lacks }

-- One line of a machine's table: its own data afterwards, the effect, and why nobody is passed over.
pub record TableLine {S D W : Type 0} (rules : WaiterRules S D W) (on_wakers : WakerChange W) (old new : Machine S D W) : Type 0 where
  pub own : S
  pub effect : WaiterEffect D W
  pub steps : StepsTo old own effect new
  pub allows : AllowsEffect rules.places rules.phases old.waiting effect
  pub lack : LacksAfter rules.lacks old.own own old.waiting.side effect
  pub effect_is : waker_change effect ≡ on_wakers

-- what a poll with this answer is to the wakers
abbrev pub poll_change : {A W : Type 0} → ℕ → W → Poll A → WakerChange W
poll_change name waker Pending = Pends name waker
poll_change name waker (Ready x) = Leaves name

-- the same of a poll that may be refused: a refusal leaves the wakers as they are
abbrev pub answered_change : {A W : Type 0} → ℕ → W → Poll (Result A Fault) → WakerChange W
answered_change name waker Pending = Pends name waker
answered_change name waker (Ready (Ok x)) = Leaves name
answered_change name waker (Ready (Err fault)) = NoEffect

-- The line of a poll of this name: its future lives afterwards, and what each one asks for stays.
pub record PollLine {S D W : Type 0} (rules : WaiterRules S D W) (name : ℕ) (on_wakers : WakerChange W)
    (old new : Machine S D W) : Type 0 where
  pub line : TableLine rules on_wakers old new
  pub lives : is_some (phase_at new name) ≡ true
  pub asks : (q : ℕ) → asks_of new.waiting.side q ≡ asks_of old.waiting.side q

-- by such an effect alone, nobody asks for something else
abbrev pub keeps_asks : {D W : Type 0} → WaiterEffect D W → Bool
keeps_asks (Asks name asks) = false
keeps_asks (CompletesOldest name asks) = false
keeps_asks (AndThen one other) = false
keeps_asks effect = true
