-- An effect on one of two sides is that effect on this side with its own pairs, and leaves the other side with its pairs as they are.
use Rattle.std.specs.Prelude.{◌≡◌, ℕ, Bool, true, Option, Some, None, List, [], ◌∷◌, ◌++◌, drop, refl}
use Rattle.std.proofs.Common.{sym, ◌∙◌, ap, subst, inl}
use Rattle.std.proofs.lemmas.List.{append-nil}
use Rattle.fi_parts.specs.declared.phase.Phase.{Phase}
use Rattle.fi_channels.specs.declared.channel.two_sides.Waiter.{Waiter}
use Rattle.fi_channels.specs.declared.channel.two_sides.Waiter.TheVariants.{Send, Receive}
use Rattle.fi_parts.specs.Effects.{WaiterEffect, PairsChange, LeadsTo, TakesEffect, pairs_after, completes_first}
use Rattle.fi_parts.specs.Effects.PairsChange.{Keep, TakeOut, Append}
use Rattle.fi_parts.specs.Effects.WaiterEffect.{NoChange, NotifiesOldest, NotifiesAll, NotifiesFront, CompletesOldest, PopsOldest, AndThen}
use Rattle.fi_parts.specs.Machine.{AllowsBasics}
use Rattle.fi_parts.specs.MachineTable.{AllowsEffect, waker_change}
use Rattle.fi_parts.specs.NamedPairs.{first_waker}
use Rattle.fi_parts.specs.Oldest.{pair_of_first, pair_of_oldest, complete_first, complete_oldest}
use Rattle.fi_parts.specs.PlaceRules.{registered_rule}
use Rattle.fi_channels.specs.TwoSidedEffects.{marked, pairs_on, TakesOn, TwoSidedEffect, waiting_sends, waiting_receives, TakesTwoSided}
use Rattle.fi_channels.specs.TwoSidedTable.{on_sends, on_receives, AllowsTwoSided, KeepsKinds}
use Rattle.fi_channels.specs.TwoSidedEffects.TwoSidedEffect.{OnSends, OnReceives, PopsFirst, Then}
use Rattle.fi_channels.specs.TwoSidesModel.{TwoSidesModel, AreBothSound}
use Rattle.fi_channels.specs.Waiter.{same_waiter, sends_in, receives_in}
use Rattle.fi_parts.specs.Waiting.{Waiters, Waiting, AreSound, phase_of, asks_of}
use Rattle.fi_parts.specs.WakerHistory.{WakerChange, gives}
use Rattle.fi_parts.specs.WakerHistory.WakerChange.{NoEffect}
use Rattle.fi_parts.proofs.Effects.{effect_after, effect_sound, AreFit, SparedBy, IsFitIfPending, stays_fit, still_pending, given_away}
use Rattle.fi_parts.proofs.Effects.{pending_is_fit}
use Rattle.fi_parts.proofs.Machines.{asks_stay}
use Rattle.fi_channels.proofs.Sides.{sends-without, sends-without_receive, receives-without, receives-without_send}
use Rattle.fi_channels.proofs.Sides.{sends-and_receives, receives-and_sends}
use Rattle.fi_channels.specs.SideLaws.{sends-and_sends, receives-and_receives}
use Rattle.fi_parts.proofs.Waiting.{first_registered, live_if_registered}
use Rattle.fi_parts.proofs.WakerHistories.{CarriesOn, carries, and_then}

module _ {D W : Type 0} where
  same_waiting : (new old : Waiters D W) (after out : List (ℕ × W)) → new ≡ old → after ≡ out →
      ◌≡◌ {A = Waiting D W} (record { side = new; out = after }) (record { side = old; out = out })
  same_waiting new old after out sides pairs = λ i. record { side = sides i; out = pairs i }

  -- What an effect leads to has what follows from it.
  leads : (P Q : Waiters D W → PairsChange W → Type 0) → ((new : Waiters D W) (change : PairsChange W) → P new change → Q new change) →
      (effect : WaiterEffect D W) (side : Waiters D W) → LeadsTo effect side P → LeadsTo effect side Q
  leads P Q follows NoChange side did = follows _ _ did
  leads P Q follows (NotifiesOldest notice) side did = follows _ _ did
  leads P Q follows (NotifiesAll notice) side did = follows _ _ did
  leads P Q follows (NotifiesFront keeps front) side did = (did.0, did.1, follows _ _ did.2)
  leads P Q follows (CompletesOldest name asks) side did = (did.0, did.1, did.2, follows _ _ did.3)
  leads P Q follows (PopsOldest waker) side did = absurd did
  leads P Q follows (AndThen one other) side did = absurd did
  leads P Q follows effect side did = (did.0, follows _ _ did.1)

  -- It leads to one side, and to one change of the pairs.
  led_to : (P : Waiters D W → PairsChange W → Type 0) (effect : WaiterEffect D W) (side : Waiters D W) → LeadsTo effect side P →
      (new : Waiters D W) × (change : PairsChange W) × P new change
  led_to P NoChange side did = (_, _, did)
  led_to P (NotifiesOldest notice) side did = (_, _, did)
  led_to P (NotifiesAll notice) side did = (_, _, did)
  led_to P (NotifiesFront keeps front) side did = (_, _, did.2)
  led_to P (CompletesOldest name asks) side did = (_, _, did.3)
  led_to P (PopsOldest waker) side did = absurd did
  led_to P (AndThen one other) side did = absurd did
  led_to P effect side did = (_, _, did.1)

module _ {D W N : Type 0} (mark : ℕ → N) (same : N → N → Bool) (view : List (N × W) → List (ℕ × W)) where
  abbrev seen : Waiters D W → List (N × W) → Waiting D W
  seen side out = record { side = side; out = view out }

  -- this side and these pairs are what an effect on this outbox led to
  abbrev AreNow : Waiters D W → List (N × W) → List (N × W) → Waiters D W → PairsChange W → Type 0
  AreNow new after out side change = (new ≡ side) × (after ≡ pairs_on mark same change out)

  -- Where the changes of a side change its own pairs alike, an effect on the side is that effect on its own pairs.
  pub effect_seen : ((change : PairsChange W) (out : List (N × W)) → view (pairs_on mark same change out) ≡ pairs_after change (view out)) →
      (effect : WaiterEffect D W) (old : Waiters D W) (out : List (N × W)) (new : Waiters D W) (after : List (N × W)) →
      TakesOn mark same effect old out new after → TakesEffect effect (seen old out) (seen new after)
  effect_seen changes (PopsOldest waker) old out new after did = absurd did
  effect_seen changes (AndThen one other) old out new after did = (
    seen did.0 did.1,
    effect_seen changes one old out did.0 did.1 did.2,
    effect_seen changes other did.0 did.1 new after did.3,
  )
  effect_seen changes effect old out new after did =
      leads (AreNow new after out) (λ side change. seen new after ≡ record { side = side; out = pairs_after change (view out) })
      (λ side change now. same_waiting new side _ _ now.0 (ap view now.1 ∙ changes change out)) effect old did

  -- Where they change no pairs of the other side, it leaves these.
  pub effect_unseen : ((change : PairsChange W) (out : List (N × W)) → view (pairs_on mark same change out) ≡ view out) →
      (effect : WaiterEffect D W) (old : Waiters D W) (out : List (N × W)) (new : Waiters D W) (after : List (N × W)) →
      TakesOn mark same effect old out new after → view after ≡ view out
  effect_unseen keeps (AndThen one other) old out new after did =
      effect_unseen keeps other did.0 did.1 new after did.3 ∙ effect_unseen keeps one old out did.0 did.1 did.2
  effect_unseen keeps effect old out new after did =
      let now = led_to (AreNow new after out) effect old did in ap view now.2.1 ∙ keeps now.1 out

module _ {D W N : Type 0} (mark : ℕ → N) (same : N → N → Bool) where
  -- what the store's words for the completing of the oldest are
  pub oldest_completes : (allowed : Option (Phase W) → Bool) (asks : D) (old : Waiters D W) (pairs : List (ℕ × W)) (out : List (N × W)) →
      AreSound allowed old pairs → TakesOn mark same (completes_first asks old.queue) old out (complete_oldest asks old)
      (out ++ marked mark (pair_of_oldest old))
  oldest_completes allowed asks old pairs out was = each old.queue refl
    where
      each : (names : List ℕ) → old.queue ≡ names → TakesOn mark same (completes_first asks names) old out (complete_first asks old names)
          (out ++ marked mark (pair_of_first old names))
      each [] queue = (refl, append-nil out)
      each (name ∷ others) queue =
          (others, queue, live_if_registered old name (first_registered old pairs name others was.ordered queue), (refl, refl))

module _ {W : Type 0} where
  sends_seen : (change : PairsChange W) (out : List (Waiter × W)) →
      sends_in (pairs_on Send same_waiter change out) ≡ pairs_after change (sends_in out)
  sends_seen Keep out = refl
  sends_seen (TakeOut name) out = sends-without name out
  sends_seen (Append pairs) out = sends-and_sends out pairs

  receives_seen : (change : PairsChange W) (out : List (Waiter × W)) →
      receives_in (pairs_on Receive same_waiter change out) ≡ pairs_after change (receives_in out)
  receives_seen Keep out = refl
  receives_seen (TakeOut name) out = receives-without name out
  receives_seen (Append pairs) out = receives-and_receives out pairs

  sends_unseen : (change : PairsChange W) (out : List (Waiter × W)) →
      sends_in (pairs_on Receive same_waiter change out) ≡ sends_in out
  sends_unseen Keep out = refl
  sends_unseen (TakeOut name) out = sends-without_receive name out
  sends_unseen (Append pairs) out = sends-and_receives out pairs

  receives_unseen : (change : PairsChange W) (out : List (Waiter × W)) →
      receives_in (pairs_on Send same_waiter change out) ≡ receives_in out
  receives_unseen Keep out = refl
  receives_unseen (TakeOut name) out = receives-without_send name out
  receives_unseen (Append pairs) out = receives-and_sends out pairs

module _ {D E W : Type 0} where
  -- An effect on the sends is that effect on the sends with their pairs, and the receives with theirs stay; and the reverse.
  pub sends_take : (effect : WaiterEffect D W) (old new : TwoSidesModel D E W) → TakesTwoSided (OnSends effect) old new →
      TakesEffect effect (waiting_sends old) (waiting_sends new)
  sends_take effect old new did = effect_seen Send same_waiter sends_in sends_seen effect old.sends old.out new.sends new.out did.0

  pub receives_stay : (effect : WaiterEffect D W) (old new : TwoSidesModel D E W) → TakesTwoSided (OnSends effect) old new →
      waiting_receives new ≡ waiting_receives old
  receives_stay effect old new did = same_waiting new.receives old.receives _ _ did.1
      (effect_unseen Send same_waiter receives_in receives_unseen effect old.sends old.out new.sends new.out did.0)

  pub receives_take : (effect : WaiterEffect E W) (old new : TwoSidesModel D E W) → TakesTwoSided (OnReceives effect) old new →
      TakesEffect effect (waiting_receives old) (waiting_receives new)
  receives_take effect old new did =
      effect_seen Receive same_waiter receives_in receives_seen effect old.receives old.out new.receives new.out did.0

  pub sends_stay : (effect : WaiterEffect E W) (old new : TwoSidesModel D E W) → TakesTwoSided (OnReceives effect) old new →
      waiting_sends new ≡ waiting_sends old
  sends_stay effect old new did = same_waiting new.sends old.sends _ _ did.1
      (effect_unseen Receive same_waiter sends_in sends_unseen effect old.receives old.out new.receives new.out did.0)

-- One side after a call: it is sound, the wakers of its pending polls are there or were handed out, and whoever was fit is so still.
pub record SideStep {D W : Type 0} {known : Option (Phase W) → Bool} (knows : AllowsBasics known) (on_wakers : WakerChange W)
    (old new : Waiting D W) : Type 0 where
  pub sound : AreSound known new.side new.out
  pub carries_on : CarriesOn on_wakers old new
  pub fits : (fit : Option (Phase W) → Bool) → AreFit known fit → (q : ℕ) → SparedBy on_wakers q → fit (phase_of old.side q) ≡ true →
      fit (phase_of new.side q) ≡ true
  pub pends : (fit : Option (Phase W) → Bool) (can : AreFit known fit) →
      IsFitIfPending registered_rule known knows fit can on_wakers new

module _ {D W : Type 0} {known : Option (Phase W) → Bool} (knows : AllowsBasics known) where
  step_taken : (effect : WaiterEffect D W) (old new : Waiting D W) → AllowsEffect registered_rule known old effect →
      AreSound known old.side old.out → TakesEffect effect old new → SideStep knows (waker_change effect) old new
  step_taken effect old new is was took =
      let after = effect_after registered_rule known knows effect old new is was took in
      record {
        sound = effect_sound registered_rule known knows effect old new is was took;
        carries_on = carries registered_rule known knows effect old new is was took after;
        fits = λ fit can. stays_fit registered_rule known knows fit can effect old new is was took after;
        pends = λ fit can. pending_is_fit registered_rule known knows fit can effect old new is was took after;
      }

  -- Nothing changed here; a waker of the other side may have been handed out.
  step_beside : (waker : Option W) (old new : Waiting D W) → AreSound known old.side old.out → new ≡ old →
      SideStep knows (gives waker) old new
  step_beside waker old new was same = rw same (record {
    sound = was;
    carries_on = still waker;
    fits = λ fit can q spared has. has;
    pends = λ fit can. given_away registered_rule known knows fit can waker old;
  })
    where
      still : (given : Option W) → CarriesOn (gives given) old old
      still None = λ q v has. has
      still (Some w) = λ q v has. inl has

  step_then : {on_wakers other : WakerChange W} (old mid new : Waiting D W) → SideStep knows on_wakers old mid →
      SideStep knows other mid new → other ≡ NoEffect → SideStep knows on_wakers old new
  step_then {on_wakers} {other} old mid new one two quiet =
      let rest = subst (λ (e : WakerChange W). SideStep knows e mid new) quiet two in
      record {
        sound = rest.sound;
        carries_on = and_then on_wakers old mid new one.carries_on rest.carries_on;
        fits = λ fit can q spared has. rest.fits fit can q tt (one.fits fit can q spared has);
        pends = λ fit can. still_pending registered_rule known knows fit can on_wakers mid new (one.pends fit can)
            (λ q. rest.fits fit can q tt);
      }

  -- one waker of either side is handed out
  sends_popped : (side : Waiters D W) (out : List (Waiter × W)) → AreSound known side (sends_in out) →
      SideStep knows (gives (first_waker out)) (record { side = side; out = sends_in out })
      (record { side = side; out = sends_in (drop 1 out) })
  sends_popped side [] was = step_beside None _ _ was refl
  sends_popped side ((Send n, w) ∷ ps) was = step_taken (PopsOldest (Some w)) _ _ tt was (refl, refl)
  sends_popped side ((Receive n, w) ∷ ps) was = step_beside (Some w) _ _ was refl

  receives_popped : (side : Waiters D W) (out : List (Waiter × W)) → AreSound known side (receives_in out) →
      SideStep knows (gives (first_waker out)) (record { side = side; out = receives_in out })
      (record { side = side; out = receives_in (drop 1 out) })
  receives_popped side [] was = step_beside None _ _ was refl
  receives_popped side ((Send n, w) ∷ ps) was = step_beside (Some w) _ _ was refl
  receives_popped side ((Receive n, w) ∷ ps) was = step_taken (PopsOldest (Some w)) _ _ tt was (refl, refl)

module _ {D E W : Type 0} {sending receiving : Option (Phase W) → Bool} where
  pub two_sided_step : (knows_send : AllowsBasics sending) (knows_receive : AllowsBasics receiving) (effect : TwoSidedEffect D E W)
      (old new : TwoSidesModel D E W) → AllowsTwoSided sending receiving old effect → AreBothSound sending receiving old →
      TakesTwoSided effect old new → SideStep knows_send (on_sends effect) (waiting_sends old) (waiting_sends new)
      × SideStep knows_receive (on_receives effect) (waiting_receives old) (waiting_receives new)
  two_sided_step knows_send knows_receive (OnSends effect) old new is was did = (
    step_taken knows_send effect _ _ is was.sends (sends_take effect old new did),
    step_beside knows_receive None _ _ was.receives (receives_stay effect old new did),
  )
  two_sided_step knows_send knows_receive (OnReceives effect) old new is was did = (
    step_beside knows_send None _ _ was.sends (sends_stay effect old new did),
    step_taken knows_receive effect _ _ is was.receives (receives_take effect old new did),
  )
  two_sided_step knows_send knows_receive (PopsFirst waker) old new is was did =
      rw (did.1, did.0) (
        sends_popped knows_send old.sends old.out was.sends,
        receives_popped knows_receive old.receives old.out was.receives,
      )
  two_sided_step knows_send knows_receive (Then one other) old new is was did =
      let first = two_sided_step knows_send knows_receive one old did.0 is.0 was did.1 in
      let next = two_sided_step knows_send knows_receive other did.0 new (is.1 did.0 did.1)
      (record { sends = first.0.sound; receives = first.1.sound }) did.2 in
      (step_then knows_send _ _ _ first.0 next.0 is.2, step_then knows_receive _ _ _ first.1 next.1 is.3)

module _ {D E W : Type 0} (sending receiving : Option (Phase W) → Bool) where
  -- whoever receives is of the kind that it was
  pub kinds_stay : (effect : TwoSidedEffect D E W) (old new : TwoSidesModel D E W) → KeepsKinds effect →
      AllowsTwoSided sending receiving old effect → TakesTwoSided effect old new → (q : ℕ) → SparedBy (on_receives effect) q →
      asks_of new.receives q ≡ asks_of old.receives q
  kinds_stay (OnReceives effect) old new keeps is did q spared =
      asks_stay effect (waiting_receives old) (waiting_receives new) keeps (receives_take effect old new did) q spared
  kinds_stay (OnSends effect) old new keeps is did q spared =
      ap (λ (w : Waiting E W). asks_of w.side q) (receives_stay effect old new did)
  kinds_stay (PopsFirst waker) old new keeps is did q spared = ap (λ (b : TwoSidesModel D E W). asks_of b.receives q) did.1
  kinds_stay (Then one other) old new keeps is did q spared =
      kinds_stay other did.0 new keeps.1 (is.1 did.0 did.1) did.2 q (subst (λ (e : WakerChange W). SparedBy e q) (sym is.3) tt)
      ∙ kinds_stay one old did.0 keeps.0 is.0 did.1 q spared
