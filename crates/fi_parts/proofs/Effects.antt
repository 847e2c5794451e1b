-- What each effect says of each name, and what it keeps.
use Rattle.std.specs.Prelude.{◌≡◌, ◌≢◌, ⊤, ◌⊎◌, ◌||◌, ℕ, Bool, true, false, not, if◌then◌else◌, Option, Some, None, List, [], ◌∷◌, ◌++◌}
use Rattle.std.specs.Prelude.{refl}
use Rattle.std.proofs.Common.{sym, ◌∙◌, ap, subst, inl, inr, is_some}
use Rattle.std.proofs.lemmas.Bool.{both_ways, cases_Bool, and_parts, or_left, ne_eqb}
use Rattle.fi_parts.proofs.Slots.{eqb_same}
use Rattle.fi_parts.proofs.Oldest.{phase-with_asks, sound_by-exchange}
use Rattle.std.proofs.lemmas.List.{append-nil}
use Rattle.fi_parts.specs.declared.phase.Phase.{Phase}
use Rattle.fi_parts.specs.declared.phase.Phase.TheVariants.{Fresh, Registered, Told, Complete, Ended}
use Rattle.fi_parts.specs.declared.phase.Notice.{Notice}
use Rattle.fi_parts.specs.declared.phase.Notice.TheVariants.{Tell, Renew}
use Rattle.fi_parts.specs.Noticed.{phase_after}
use Rattle.fi_parts.specs.Oldest.{pop_first, pair_of_first}
use Rattle.fi_parts.specs.Order.{holds}
use Rattle.fi_parts.specs.PlaceRules.{IsPlaceRule, IsUntold}
use Rattle.fi_parts.specs.Places.{is_told}
use Rattle.fi_parts.specs.Waiting.{Waiters, Waiting, phase_of, is_registered, may_be_named, exchange, noticed, pair, pair_of, IsOrderedBy}
use Rattle.fi_parts.specs.Waiting.{IsLive, with_phase, AreSoundBy, named, with_phases}
use Rattle.fi_parts.proofs.Waiting.{Becomes, becomes-made, becomes-with_phase, becomes-forgotten, noticed_phase, notices}
use Rattle.fi_parts.proofs.Waiting.{live_if_registered, live_by, registered_is, placed, HasPlace, last_place, same_places, no_place}
use Rattle.fi_parts.specs.Pairs.{without_pair}
use Rattle.fi_parts.proofs.Notified.{AllBecome, fit_one, fit_among, MayNotify, may_notify-front, may_notify-listed, may_notify-none}
use Rattle.fi_parts.proofs.Notified.{notified-one, phases-notified}
use Rattle.fi_parts.proofs.Sound.{sound_by-made, sound_by-polled, sound_by-forgotten, sound_by-drop, sound_by-notified}
use Rattle.fi_parts.specs.Effects.{WaiterEffect, TakesEffect, first_of, notified}
use Rattle.fi_parts.specs.Effects.WaiterEffect.{NoChange, Inserts, Registers, RegistersApart, KeepsWaiting, Ends, EndsPlaced, Renews}
use Rattle.fi_parts.specs.Effects.WaiterEffect.{NotifiesOldest, NotifiesAll, NotifiesListed, NotifiesFront, PopsOldest, AndThen, Asks}
use Rattle.fi_parts.specs.Effects.WaiterEffect.{Removes, CompletesOldest}
use Rattle.fi_parts.specs.Machine.{AllowsBasics}
use Rattle.fi_parts.specs.MachineTable.{AllowsEffect, Given, waker_change}
use Rattle.fi_parts.specs.Polled.{can_be_polled, is_wait_phase}
use Rattle.fi_parts.specs.WakerHistory.{WakerChange, gives}
use Rattle.fi_parts.specs.WakerHistory.WakerChange.{Pends, Leaves, Gives, NoEffect}

module _ {W : Type 0} where
  pub some_phase : (p : Option (Phase W)) → may_be_named p ≡ true → (phase : Phase W) × (p ≡ Some phase)
  some_phase None may = absurd (both_ways false refl may)
  some_phase (Some phase) may = (phase, refl)

  pub registered_as : (p : Option (Phase W)) → is_registered p ≡ true → (waker : W) × (p ≡ Some (Registered waker))
  registered_as p is = registered_is p is

module _ {W : Type 0} (place : Option (Phase W) → Bool) (rule : IsPlaceRule place) where
  -- who may be named has no place, unless it is told and the told have places
  unplaced : (p : Option (Phase W)) → may_be_named p ≡ true → IsUntold (place (Some Told)) p → place p ≡ false
  unplaced (Some (Registered w)) may untold = absurd (both_ways false refl may)
  unplaced (Some Told) may untold = each (place (Some Told)) untold
    where
      each : (b : Bool) → IsUntold {W = W} b (Some Told) → b ≡ false
      each false told = refl
      each true told = absurd (both_ways _ told refl)
  unplaced p may untold = cc

  -- where the registered have places, and the told have none
  noticed_by_place : (phase : Phase W) (p now : Option (Phase W)) → rule.has_queue ≡ true → place (Some Told) ≡ false →
      (place p ≡ true → now ≡ Some phase) → (place p ≡ false → now ≡ p) → now ≡ noticed_phase phase p
  noticed_by_place phase (Some (Registered w)) now waiting told at off = at (rule.registered w ∙ waiting)
  noticed_by_place phase p now waiting told at off = off (cc)

  unplaced_after : (notice : Notice) → place (Some Told) ≡ false → place (Some (phase_after notice)) ≡ false
  unplaced_after Tell told = told
  unplaced_after Renew told = rule.fresh

-- who isn't told, and anybody where the told leave the queue
pub untold : {W : Type 0} (keeps : Bool) (p : Option (Phase W)) → is_told p ≡ false → IsUntold keeps p
untold false p is = tt
untold true p is = is

pub untold_if_leaving : {W : Type 0} (keeps : Bool) (p : Option (Phase W)) → keeps ≡ false → IsUntold keeps p
untold_if_leaving false p off = tt
untold_if_leaving true p off = absurd (both_ways true off refl)

given : {X : Type 0} (b : Bool) → Given b X → (b ≡ true) × X
given true x = (refl, x)
given false x = absurd x

is_false : (b : Bool) → not b ≡ true → b ≡ false
is_false true e = absurd (both_ways false refl e)
is_false false e = refl

module _ {D W : Type 0} where
  -- the phase of each name after an effect
  abbrev pub After : WaiterEffect D W → Waiting D W → Waiting D W → Type 0
  After NoChange old new = (q : ℕ) → phase_of new.side q ≡ phase_of old.side q
  After (Inserts name asks) old new = Becomes old.side new.side name (Some Fresh)
  After (Registers name waker) old new = Becomes old.side new.side name (Some (Registered waker))
  After (RegistersApart name waker) old new = Becomes old.side new.side name (Some (Registered waker))
  After (KeepsWaiting name waker) old new = Becomes old.side new.side name (Some (Registered waker))
  After (Ends name) old new = Becomes old.side new.side name (Some Ended)
  After (EndsPlaced name) old new = Becomes old.side new.side name (Some Ended)
  After (Renews name) old new = Becomes old.side new.side name (Some Fresh)
  After (Asks name asks) old new = (q : ℕ) → phase_of new.side q ≡ phase_of old.side q
  After (Removes name) old new = Becomes old.side new.side name None
  After (NotifiesOldest notice) old new =
      (q : ℕ) → (phase_of new.side q ≡ phase_of old.side q) ⊎ (phase_of new.side q ≡ Some (phase_after notice))
  After (NotifiesAll notice) old new = (q : ℕ) → phase_of new.side q ≡ noticed_phase (phase_after notice) (phase_of old.side q)
  After (NotifiesListed notice names) old new = AllBecome old.side new.side names (phase_after notice)
  After (NotifiesFront keeps front) old new = AllBecome old.side new.side front Told
  After (CompletesOldest name asks) old new = Becomes old.side new.side name (Some Complete)
  After (PopsOldest waker) old new = (q : ℕ) → phase_of new.side q ≡ phase_of old.side q
  After (AndThen one other) old new = (mid : Waiting D W) × After one old mid × After other mid new

  same_phases : (old new is : Waiting D W) → new ≡ is → is.side ≡ old.side → (q : ℕ) → phase_of new.side q ≡ phase_of old.side q
  same_phases old new is same sides q = ap (λ (w : Waiting D W). phase_of w.side q) same ∙ ap (λ (s : Waiters D W). phase_of s q) sides

  -- the effects that a poll of this name may have
  abbrev pub IsOf : ℕ → WaiterEffect D W → Type 0
  IsOf name (Registers other waker) = name ≡ other
  IsOf name (RegistersApart other waker) = name ≡ other
  IsOf name (KeepsWaiting other waker) = name ≡ other
  IsOf name (Ends other) = name ≡ other
  IsOf name (EndsPlaced other) = name ≡ other
  IsOf name (Renews other) = name ≡ other
  IsOf name effect = ⊥

  -- the phase that such a poll leaves
  abbrev polled_to : WaiterEffect D W → Phase W
  polled_to (Registers other waker) = Registered waker
  polled_to (RegistersApart other waker) = Registered waker
  polled_to (KeepsWaiting other waker) = Registered waker
  polled_to (Renews other) = Fresh
  polled_to effect = Ended

  rephased : (old new : Waiting D W) (name other : ℕ) (phase : Phase W) (queue : List ℕ) (out : List (ℕ × W)) → name ≡ other →
      IsLive old.side other → new ≡ record { side = record { live = with_phase old.side.live other phase; queue = queue }; out = out } →
      Becomes old.side new.side name (Some phase)
  rephased old new name other phase queue out same lives is = rw (is, same) (becomes-with_phase old.side other phase queue lives)

  if_named : (side : Waiters D W) (name : ℕ) → may_be_named (phase_of side name) ≡ true → IsLive side name
  if_named side name may = live_by may_be_named refl side name may

  polled_becomes : (effect : WaiterEffect D W) (old new : Waiting D W) (name : ℕ) → IsOf name effect → TakesEffect effect old new →
      Becomes old.side new.side name (Some (polled_to effect))
  polled_becomes (Registers other waker) old new name same taken =
      rephased old new name other _ _ _ same (if_named old.side other taken.0) taken.1
  polled_becomes (RegistersApart other waker) old new name same taken =
      rephased old new name other _ _ _ same (if_named old.side other taken.0) taken.1
  polled_becomes (KeepsWaiting other waker) old new name same taken =
      rephased old new name other _ _ _ same (live_if_registered old.side other taken.0) taken.1
  polled_becomes (Ends other) old new name same taken =
      rephased old new name other _ _ _ same (if_named old.side other taken.0) taken.1
  polled_becomes (EndsPlaced other) old new name same taken = rephased old new name other _ _ _ same taken.0 taken.1
  polled_becomes (Renews other) old new name same taken =
      rephased old new name other _ _ _ same (if_named old.side other taken.0) taken.1
  polled_becomes effect old new name same taken = absurd same

  -- Who was polled lives, and who was made is fresh.
  pub polled_lives : (effect : WaiterEffect D W) (old new : Waiting D W) (name : ℕ) → IsOf name effect → TakesEffect effect old new →
      is_some (phase_of new.side name) ≡ true
  polled_lives effect old new name of taken = ap is_some (polled_becomes effect old new name of taken).here

  pub added_fresh : (old new : Waiting D W) (name : ℕ) (asks : D) → TakesEffect (Inserts name asks) old new →
      phase_of new.side name ≡ Some Fresh
  added_fresh old new name asks taken = ap (λ (w : Waiting D W). phase_of w.side name) taken.1 ∙ (becomes-made old.side name asks).here

one_held : (name : ℕ) → holds name (name ∷ []) ≡ true
one_held name = or_left _ _ (eqb_same name)

one_apart : (q name : ℕ) → q ≢ name → holds q (name ∷ []) ≡ false
one_apart q name ne = ap (λ b. b || false) (ne_eqb q name ne)

module _ {D W : Type 0} where
  -- it asks for this now
  abbrev pub asking : ℕ → D → Waiting D W → Waiting D W
  asking name asks old = record old { side = exchange old.side name asks }

  -- with these pairs
  abbrev completing : ℕ → D → List ℕ → Waiting D W → List (ℕ × W) → Waiting D W
  completing name asks others old pairs =
      record { side = noticed Complete (exchange old.side name asks) name others; out = old.out ++ pairs }

-- A notice: these names have this phase now, and this is the queue.
pub record AreNotified {D W : Type 0} (place known : Option (Phase W) → Bool) (phase : Phase W) (names : List ℕ)
    (old new : Waiting D W) : Type 0 where
  pub queue : List ℕ
  pub is_known : known (Some phase) ≡ true
  pub may_be : may_be_named (Some phase) ≡ true
  pub may : MayNotify place phase names queue old
  pub is : new ≡ notified phase names queue old

module _ {D W : Type 0} (place known : Option (Phase W) → Bool) where
  pub notified_after : (phase : Phase W) (names : List ℕ) (old new : Waiting D W) → AreNotified place known phase names old new →
      AllBecome old.side new.side names phase
  notified_after phase names old new did =
      subst (λ (w : Waiting D W). AllBecome old.side w.side names phase) (sym did.is)
      (phases-notified place phase names did.queue old did.may)

module _ {D W : Type 0} {place : Option (Phase W) → Bool} (rule : IsPlaceRule place) (known : Option (Phase W) → Bool) where
  -- a front of the queue, which it leaves
  leaving : (phase : Phase W) (front rest : List ℕ) (old new : Waiting D W) → known (Some phase) ≡ true → may_be_named (Some phase) ≡ true →
      place (Some phase) ≡ false → IsOrderedBy place old.side old.out → old.side.queue ≡ front ++ rest →
      new ≡ notified phase front rest old → AreNotified place known phase front old new
  leaving phase front rest old new is may off was split did = record {
    queue = rest;
    is_known = is;
    may_be = may;
    may = may_notify-front place rule phase false front rest old off was split;
    is = did;
  }

  oldest_by : (phase : Phase W) (names : List ℕ) (old new : Waiting D W) → known (Some phase) ≡ true → may_be_named (Some phase) ≡ true →
      place (Some phase) ≡ false → IsOrderedBy place old.side old.out → old.side.queue ≡ names →
      new ≡ record { side = pop_first phase old.side names; out = old.out ++ pair_of_first old.side names } →
      AreNotified place known phase (first_of names) old new
  unfolding named with_phases
  oldest_by phase [] old new is may off was queue did = record {
    queue = old.side.queue;
    is_known = is;
    may_be = may;
    may = may_notify-none place rule phase old was;
    is = did;
  }
  oldest_by phase (n ∷ others) old new is may off was queue did =
      leaving phase (n ∷ []) others old new is may off was queue (did ∙ notified-one phase n others old)

  pub oldest_are : (notice : Notice) (old new : Waiting D W) → AllowsEffect rule known old (NotifiesOldest notice) →
      IsOrderedBy place old.side old.out → TakesEffect (NotifiesOldest notice) old new →
      AreNotified place known (phase_after notice) (first_of old.side.queue) old new
  oldest_are notice old new allows was taken =
      let can = and_parts _ _ allows in
      oldest_by (phase_after notice) old.side.queue old new can.0 (notices W notice) (is_false _ can.1) was refl taken

  -- the registered have places, and the told have none
  pub queues : (notice : Notice) (old : Waiting D W) → AllowsEffect rule known old (NotifiesAll notice) →
      (rule.has_queue ≡ true) × (place (Some Told) ≡ false)
  queues notice old allows = let can = and_parts _ _ (and_parts _ _ allows).1 in (can.0, is_false _ can.1)

  pub all_are : (notice : Notice) (old new : Waiting D W) → AllowsEffect rule known old (NotifiesAll notice) →
      IsOrderedBy place old.side old.out → TakesEffect (NotifiesAll notice) old new →
      AreNotified place known (phase_after notice) old.side.queue old new
  all_are notice old new allows was taken =
      leaving (phase_after notice) old.side.queue [] old new (and_parts _ _ allows).0 (notices W notice)
      (unplaced_after place rule notice (queues notice old allows).1) was (sym (append-nil old.side.queue)) taken

  pub listed_are : (notice : Notice) (names : List ℕ) (old new : Waiting D W) → AllowsEffect rule known old (NotifiesListed notice names) →
      IsOrderedBy place old.side old.out → TakesEffect (NotifiesListed notice names) old new →
      AreNotified place known (phase_after notice) names old new
  listed_are notice names old new allows was taken =
      let can = and_parts _ _ (and_parts _ _ allows).1 in
      record {
        queue = old.side.queue;
        is_known = (and_parts _ _ allows).0;
        may_be = notices W notice;
        may = may_notify-listed place rule (phase_after notice) names old (is_false _ can.1) (is_false _ can.0) was taken.0;
        is = taken.1;
      }

  pub front_are : (keeps : Bool) (front : List ℕ) (old new : Waiting D W) → AllowsEffect rule known old (NotifiesFront keeps front) →
      IsOrderedBy place old.side old.out → TakesEffect (NotifiesFront keeps front) old new →
      AreNotified place known Told front old new
  front_are keeps front old new allows was taken = record {
    queue = if keeps then old.side.queue else taken.0;
    is_known = allows.0;
    may_be = refl;
    may = may_notify-front place rule Told keeps front taken.0 old allows.1 was taken.1;
    is = taken.2;
  }

  pub completed : (name : ℕ) (asks : D) (old new : Waiting D W) → AllowsEffect rule known old (CompletesOldest name asks) →
      IsOrderedBy place (asking name asks old).side old.out → TakesEffect (CompletesOldest name asks) old new →
      AreNotified place known Complete (name ∷ []) (asking name asks old) new
  completed name asks old new allows was taken =
      let others = taken.0 in
      let mid = asking name asks old in
      let pairs : pair old.side name ≡ pair mid.side name = ap (pair_of name) (sym (phase-with_asks old.side.live name asks name)) in
      leaving Complete (name ∷ []) others mid new allows refl rule.complete was taken.1
      (taken.3 ∙ ap (λ ps. completing name asks others old ps) pairs ∙ notified-one Complete name others mid)

  all_after : (notice : Notice) (old new : Waiting D W) → AllowsEffect rule known old (NotifiesAll notice) →
      IsOrderedBy place old.side old.out →
      TakesEffect (NotifiesAll notice) old new → After (NotifiesAll notice) old new
  all_after notice old new allows was taken q =
      let now = notified_after place known (phase_after notice) old.side.queue old new (all_are notice old new allows was taken) in
      noticed_by_place place rule (phase_after notice) (phase_of old.side q) (phase_of new.side q) (queues notice old allows).0
      (queues notice old allows).1 (λ has. now.these q (was.queued q ∙ has)) (λ off. now.others q (was.queued q ∙ off))

  module _ (knows : AllowsBasics known) where
    abbrev IsSound : Waiting D W → Type 0
    IsSound w = AreSoundBy place known w.side w.out

    notified_sound : (phase : Phase W) (names : List ℕ) (old new : Waiting D W) → IsSound old →
        AreNotified place known phase names old new →
        IsSound new
    notified_sound phase names old new was did =
        rw did.is (sound_by-notified place rule known phase names did.queue old did.may_be did.is_known was did.may)

    polled_sound : (old new : Waiting D W) (name : ℕ) (phase : Phase W) (queue : List ℕ) → known (Some phase) ≡ true → IsSound old →
        IsLive old.side name → HasPlace name (place (Some phase)) old.side.queue queue →
        new ≡ record { side = record { live = with_phase old.side.live name phase; queue = queue }; out = without_pair name old.out } →
        IsSound new
    polled_sound old new name phase queue is was lives places taken =
        rw taken (sound_by-polled place rule known old.side old.out name phase queue is was lives places)

    out_of_queue : (name : ℕ) (old : Waiting D W) → IsSound old → may_be_named (phase_of old.side name) ≡ true →
        IsUntold (place (Some Told)) (phase_of old.side name) → holds name old.side.queue ≡ false
    out_of_queue name old was may untold = was.ordered.queued name ∙ unplaced place rule (phase_of old.side name) may untold

    -- An effect keeps the queue and out in order.
    pub effect_sound : (effect : WaiterEffect D W) (old new : Waiting D W) → AllowsEffect rule known old effect → IsSound old →
        TakesEffect effect old new → IsSound new
    effect_sound NoChange old new is was taken = rw taken was
    effect_sound (Inserts name asks) old new is was taken =
        rw taken.1 (sound_by-made place rule known old.side old.out name asks knows.fresh was taken.0)
    effect_sound (Registers name waker) old new is was taken =
        let can = given (place (Some (Registered waker))) is in
        polled_sound old new name (Registered waker) _ (knows.registered waker) was (if_named old.side name taken.0)
        (last_place name _ old.side.queue was.ordered.once can.0 (out_of_queue name old was taken.0 can.1)) taken.1
    effect_sound (RegistersApart name waker) old new is was taken =
        let can = given (not (place (Some (Registered waker)))) is in
        polled_sound old new name (Registered waker) _ (knows.registered waker) was (if_named old.side name taken.0)
        (same_places name _ old.side.queue was.ordered.once (out_of_queue name old was taken.0 can.1 ∙ sym (is_false _ can.0))) taken.1
    effect_sound (KeepsWaiting name waker) old new is was taken =
        polled_sound old new name (Registered waker) _ (knows.registered waker) was (live_if_registered old.side name taken.0)
        (same_places name _ old.side.queue was.ordered.once
        (was.ordered.queued name ∙ placed place rule (phase_of old.side name) taken.0 ∙ sym (rule.registered waker))) taken.1
    effect_sound (Ends name) old new is was taken =
        polled_sound old new name Ended _ knows.ended was (if_named old.side name taken.0)
        (same_places name _ old.side.queue was.ordered.once (out_of_queue name old was taken.0 is ∙ sym rule.ended)) taken.1
    effect_sound (EndsPlaced name) old new is was taken =
        polled_sound old new name Ended _ knows.ended was taken.0 (no_place name _ old.side.queue was.ordered.once rule.ended) taken.1
    effect_sound (Renews name) old new is was taken =
        polled_sound old new name Fresh _ knows.fresh was (if_named old.side name taken.0)
        (same_places name _ old.side.queue was.ordered.once (out_of_queue name old was taken.0 is ∙ sym rule.fresh)) taken.1
    effect_sound (Asks name asks) old new is was taken = rw taken.1 (sound_by-exchange place known old.side old.out name asks was)
    effect_sound (Removes name) old new is was taken =
        rw taken.1 (sound_by-forgotten place rule known old.side old.out name knows.gone was)
    effect_sound (NotifiesOldest notice) old new is was taken =
        notified_sound _ _ old new was (oldest_are notice old new is was.ordered taken)
    effect_sound (NotifiesAll notice) old new is was taken = notified_sound _ _ old new was (all_are notice old new is was.ordered taken)
    effect_sound (NotifiesListed notice names) old new is was taken =
        notified_sound _ _ old new was (listed_are notice names old new is was.ordered taken)
    effect_sound (NotifiesFront keeps front) old new is was taken =
        notified_sound _ _ old new was (front_are keeps front old new is was.ordered taken)
    effect_sound (CompletesOldest name asks) old new is was taken =
        let asked = sound_by-exchange place known old.side old.out name asks was in
        notified_sound _ _ (asking name asks old) new asked (completed name asks old new is asked.ordered taken)
    effect_sound (PopsOldest waker) old new is was taken = rw taken.1 (sound_by-drop place rule known old.side old.out was)
    effect_sound (AndThen one other) old new is was taken =
        effect_sound other taken.0 new (is.1 taken.0 taken.1) (effect_sound one old taken.0 is.0 was taken.1) taken.2

    -- The phase of each name after an effect.
    pub effect_after : (effect : WaiterEffect D W) (old new : Waiting D W) → AllowsEffect rule known old effect → IsSound old →
        TakesEffect effect old new → After effect old new
    effect_after NoChange old new is was taken = same_phases old new old taken refl
    effect_after (Inserts name asks) old new is was taken = rw taken.1 (becomes-made old.side name asks)
    effect_after (Asks name asks) old new is was taken = λ q.
        same_phases (asking name asks old) new _ taken.1 refl q ∙ phase-with_asks old.side.live name asks q
    effect_after (Removes name) old new is was taken = rw taken.1 (becomes-forgotten old.side name)
    effect_after (NotifiesOldest notice) old new is was taken = λ q.
        let now = notified_after place known _ _ old new (oldest_are notice old new is was.ordered taken) in
        elim (cases_Bool (holds q (first_of old.side.queue))) [ inl at ↦ inr (now.these q at) | inr off ↦ inl (now.others q off) ]
    effect_after (NotifiesAll notice) old new is was taken = all_after notice old new is was.ordered taken
    effect_after (NotifiesListed notice names) old new is was taken =
        notified_after place known _ names old new (listed_are notice names old new is was.ordered taken)
    effect_after (NotifiesFront keeps front) old new is was taken =
        notified_after place known Told front old new (front_are keeps front old new is was.ordered taken)
    effect_after (CompletesOldest name asks) old new is was taken =
        let asked = sound_by-exchange place known old.side old.out name asks was in
        let now =
        notified_after place known Complete (name ∷ []) (asking name asks old) new
        (completed name asks old new is asked.ordered taken) in
        record {
          here = now.these name (one_held name);
          others = λ q ne. now.others q (one_apart q name ne) ∙ phase-with_asks old.side.live name asks q;
        }
    effect_after (PopsOldest waker) old new is was taken = same_phases old new _ taken.1 refl
    effect_after (AndThen one other) old new is was taken = (
      taken.0,
      effect_after one old taken.0 is.0 was taken.1,
      effect_after other taken.0 new (is.1 taken.0 taken.1) (effect_sound one old taken.0 is.0 was taken.1) taken.2,
    )
    effect_after effect old new is was taken = polled_becomes effect old new _ refl taken

-- Who is fresh or waits is fit for this, and so is who was notified, in the phases that are known.
pub record AreFit {W : Type 0} (known fit : Option (Phase W) → Bool) : Type 0 where
  pub fresh : fit (Some Fresh) ≡ true
  pub registered : (waker : W) → fit (Some (Registered waker)) ≡ true
  pub told : known (Some Told) ≡ true → fit (Some Told) ≡ true
  pub complete : known (Some Complete) ≡ true → fit (Some Complete) ≡ true

-- all of these live
pub are_live : {W : Type 0} (known : Option (Phase W) → Bool) → AreFit known is_some
are_live known = record { fresh = refl; registered = λ waker. refl; told = λ is. refl; complete = λ is. refl }

-- the phases of those that are told what they waited for
pub waits_known : {W : Type 0} → AllowsBasics (is_wait_phase {W = W})
waits_known = record { gone = refl; fresh = refl; registered = λ waker. refl; ended = refl }

pub waits_are_fit : {W : Type 0} → AreFit (is_wait_phase {W = W}) can_be_polled
waits_are_fit = record { fresh = refl; registered = λ waker. refl; told = λ is. refl; complete = λ is. absurd (both_ways false refl is) }

-- this name is not the one that such a call ends or removes
abbrev pub SparedBy : {W : Type 0} → WakerChange W → ℕ → Type 0
SparedBy (Leaves name) q = q ≢ name
SparedBy on_wakers q = ⊤

noticed_fit : {W : Type 0} (known fit : Option (Phase W) → Bool) → AreFit known fit → (notice : Notice) →
    known (Some (phase_after notice)) ≡ true → fit (Some (phase_after notice)) ≡ true
noticed_fit known fit can Tell is = can.told is
noticed_fit known fit can Renew is = can.fresh

module _ {W : Type 0} (fit : Option (Phase W) → Bool) where
  still_fit : (phase : Phase W) (p : Option (Phase W)) → fit (Some phase) ≡ true → fit p ≡ true → fit (noticed_phase phase p) ≡ true
  still_fit phase (Some (Registered w)) can was = can
  still_fit phase p can was = was

module _ {D W : Type 0} {place : Option (Phase W) → Bool} (rule : IsPlaceRule place) (known : Option (Phase W) → Bool)
    (knows : AllowsBasics known) (fit : Option (Phase W) → Bool) (can : AreFit known fit) where
  -- Whoever is fit before an effect is fit after it, but for the one that it ends or removes.
  pub stays_fit : (effect : WaiterEffect D W) (old new : Waiting D W) → AllowsEffect rule known old effect →
      AreSoundBy place known old.side old.out → TakesEffect effect old new → After effect old new → (q : ℕ) →
      SparedBy (waker_change effect) q → fit (phase_of old.side q) ≡ true → fit (phase_of new.side q) ≡ true
  stays_fit (Inserts name asks) old new is sound taken now q spared was = fit_one fit old.side new.side q name (Some Fresh) can.fresh now was
  stays_fit (Registers name waker) old new is sound taken now q spared was =
      fit_one fit old.side new.side q name (Some (Registered waker)) (can.registered waker) now was
  stays_fit (RegistersApart name waker) old new is sound taken now q spared was =
      fit_one fit old.side new.side q name (Some (Registered waker)) (can.registered waker) now was
  stays_fit (KeepsWaiting name waker) old new is sound taken now q spared was =
      fit_one fit old.side new.side q name (Some (Registered waker)) (can.registered waker) now was
  stays_fit (Ends name) old new is sound taken now q spared was = ap fit (now.others q spared) ∙ was
  stays_fit (EndsPlaced name) old new is sound taken now q spared was = ap fit (now.others q spared) ∙ was
  stays_fit (Renews name) old new is sound taken now q spared was = fit_one fit old.side new.side q name (Some Fresh) can.fresh now was
  stays_fit (Removes name) old new is sound taken now q spared was = ap fit (now.others q spared) ∙ was
  stays_fit (NotifiesOldest notice) old new is sound taken now q spared was = elim (now q) [
    | inl same ↦ ap fit same ∙ was
    | inr told ↦ ap fit told ∙ noticed_fit known fit can notice (and_parts _ _ is).0
  ]
  stays_fit (NotifiesAll notice) old new is sound taken now q spared was =
      ap fit (now q)
      ∙ still_fit fit (phase_after notice) (phase_of old.side q) (noticed_fit known fit can notice (and_parts _ _ is).0) was
  stays_fit (NotifiesListed notice names) old new is sound taken now q spared was =
      fit_among fit old.side new.side q names (phase_after notice) (noticed_fit known fit can notice (and_parts _ _ is).0) now was
  stays_fit (NotifiesFront keeps front) old new is sound taken now q spared was =
      fit_among fit old.side new.side q front Told (can.told is.0) now was
  stays_fit (CompletesOldest name asks) old new is sound taken now q spared was =
      fit_one fit old.side new.side q name (Some Complete) (can.complete is) now was
  stays_fit (AndThen one other) old new is sound taken now q spared was =
      let mid = taken.0 in
      let sound_then = effect_sound rule known knows one old mid is.0 sound taken.1 in
      let allows = is.1 mid taken.1 in
      stays_fit other mid new allows sound_then taken.2 (effect_after rule known knows other mid new allows sound_then taken.2) q
      (subst (λ (e : WakerChange W). SparedBy e q) (sym is.2) tt)
      (stays_fit one old mid is.0 sound taken.1 (effect_after rule known knows one old mid is.0 sound taken.1) q spared was)
  stays_fit effect old new is sound taken now q spared was = ap fit (now q) ∙ was

  -- whoever pends by such a call is fit now
  abbrev pub IsFitIfPending : WakerChange W → Waiting D W → Type 0
  IsFitIfPending (Pends name waker) new = fit (phase_of new.side name) ≡ true
  IsFitIfPending on_wakers new = ⊤

  pub still_pending : (on_wakers : WakerChange W) (mid new : Waiting D W) → IsFitIfPending on_wakers mid →
      ((q : ℕ) → fit (phase_of mid.side q) ≡ true → fit (phase_of new.side q) ≡ true) → IsFitIfPending on_wakers new
  still_pending (Pends name waker) mid new was stays = stays name was
  still_pending (Leaves name) mid new was stays = tt
  still_pending (Gives waker) mid new was stays = tt
  still_pending NoEffect mid new was stays = tt

  pub given_away : (waker : Option W) (new : Waiting D W) → IsFitIfPending (gives waker) new
  given_away None new = tt
  given_away (Some waker) new = tt

  -- Who was polled and pends is fit.
  pub pending_is_fit : (effect : WaiterEffect D W) (old new : Waiting D W) → AllowsEffect rule known old effect →
      AreSoundBy place known old.side old.out → TakesEffect effect old new → After effect old new →
      IsFitIfPending (waker_change effect) new
  pending_is_fit (Registers name waker) old new is sound taken now = ap fit now.here ∙ can.registered waker
  pending_is_fit (RegistersApart name waker) old new is sound taken now = ap fit now.here ∙ can.registered waker
  pending_is_fit (KeepsWaiting name waker) old new is sound taken now = ap fit now.here ∙ can.registered waker
  pending_is_fit (PopsOldest waker) old new is sound taken now = given_away waker new
  pending_is_fit (AndThen one other) old new is sound taken now =
      let mid = taken.0 in
      let sound_then = effect_sound rule known knows one old mid is.0 sound taken.1 in
      let allows = is.1 mid taken.1 in
      still_pending (waker_change one) mid new
      (pending_is_fit one old mid is.0 sound taken.1 (effect_after rule known knows one old mid is.0 sound taken.1))
      (λ q. stays_fit other mid new allows sound_then taken.2 (effect_after rule known knows other mid new allows sound_then taken.2) q
      (subst (λ (e : WakerChange W). SparedBy e q) (sym is.2) tt))
  pending_is_fit effect old new is sound taken now = tt
