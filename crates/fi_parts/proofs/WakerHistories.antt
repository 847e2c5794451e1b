-- Pending polls' wakers are kept.
use Rattle.std.specs.Prelude.{◌≡◌, ◌≢◌, ◌⊎◌, ℕ, ◌==◌, Bool, false, Option, Some, None, List, [], ◌∷◌, drop, refl}
use Rattle.std.proofs.Common.{sym, ◌∙◌, ap, inl, inr, subst}
use Rattle.std.proofs.lemmas.Bool.{eq-eqb, ne_eqb, cases_eq, cases_Bool}
use Rattle.fi_parts.specs.declared.phase.Phase.{Phase}
use Rattle.fi_parts.specs.declared.phase.Phase.TheVariants.{Registered, Told, Complete}
use Rattle.fi_parts.specs.Order.{holds}
use Rattle.fi_parts.specs.Pairs.{without_pair, waker_of, oldest}
use Rattle.fi_parts.specs.PlaceRules.{IsPlaceRule}
use Rattle.fi_parts.specs.Waiting.{Waiting, phase_of, named, displaced_from, AreSoundBy}
use Rattle.fi_parts.proofs.Waiting.{Becomes}
use Rattle.fi_parts.proofs.Notified.{phases-notified}
use Rattle.fi_parts.specs.WakerHistory.{WakerChange, IsIn, gives, last_waker, last_waker_step, handed_since, handed_step, HasWaker}
use Rattle.fi_parts.specs.WakerHistory.{KeepsWakers}
use Rattle.fi_parts.specs.WakerHistory.WakerChange.{Pends, Leaves, Gives, NoEffect}
use Rattle.fi_parts.specs.Effects.{WaiterEffect, TakesEffect}
use Rattle.fi_parts.specs.Effects.WaiterEffect.{NoChange, Inserts, Registers, RegistersApart, KeepsWaiting}
use Rattle.fi_parts.specs.Effects.WaiterEffect.{NotifiesOldest, NotifiesAll, NotifiesListed, NotifiesFront, PopsOldest, AndThen, Asks}
use Rattle.fi_parts.specs.Effects.WaiterEffect.{CompletesOldest}
use Rattle.fi_parts.specs.Machine.{Machine, HasSoundWaitersBy, AllowsBasics}
use Rattle.fi_parts.specs.MachineTable.{AllowsEffect, waker_change, WaiterRules, TableLine}
use Rattle.fi_parts.proofs.PairsWithin.{none_some, some_same, if_true, if_false, in_append_left, in_append_right, in_without, in_waker_of}
use Rattle.fi_parts.proofs.PairsWithin.{in_named, oldest_or_rest}
use Rattle.fi_parts.proofs.Oldest.{phase-with_asks, sound_by-exchange}
use Rattle.fi_parts.proofs.Effects.{asking, completed, After, AreNotified, effect_after, effect_sound, oldest_are, all_are, listed_are}
use Rattle.fi_parts.proofs.Effects.{front_are}

module _ {D W : Type 0} where
  -- every waker there is is still there, but for this name's
  abbrev pub OthersStay : ℕ → Waiting D W → Waiting D W → Type 0
  OthersStay name old new = (q : ℕ) (waker : W) → name ≢ q → HasWaker old q waker → HasWaker new q waker

  -- what a step with this effect on the wakers keeps
  abbrev pub CarriesOn : WakerChange W → Waiting D W → Waiting D W → Type 0
  CarriesOn (Pends name waker) old new = HasWaker new name waker × OthersStay name old new
  CarriesOn (Leaves name) old new = OthersStay name old new
  CarriesOn (Gives waker) old new = (q : ℕ) (v : W) → HasWaker old q v → HasWaker new q v ⊎ (waker ≡ v)
  CarriesOn NoEffect old new = (q : ℕ) (v : W) → HasWaker old q v → HasWaker new q v

  kept_by : (on_wakers : WakerChange W) (old new : Waiting D W) (last : ℕ → Option W) (handed : ℕ → List W) →
      ((q : ℕ) (w : W) → last q ≡ Some w → HasWaker old q w ⊎ IsIn w (handed q)) → CarriesOn on_wakers old new →
      (q : ℕ) (w : W) → last_waker_step q on_wakers (last q) ≡ Some w → HasWaker new q w ⊎ IsIn w (handed_step q on_wakers (handed q))
  kept_by (Pends name waker) old new last handed kept on q w is = elim (cases_eq name q) [
    | inl same ↦
        let e : waker ≡ w = some_same waker w (sym (if_true (name == q) (Some waker) (last q) (eq-eqb name q same)) ∙ is) in
        inl (subst (λ (n : ℕ). HasWaker new n w) same (subst (λ (v : W). HasWaker new name v) e on.0))
    | inr ne ↦
        let off : (name == q) ≡ false = ne_eqb name q ne in
        elim (kept q w (sym (if_false (name == q) (Some waker) (last q) off) ∙ is)) [
          | inl has ↦ inl (on.1 q w ne has)
          | inr given ↦ inr (rw (if_false (name == q) [] (handed q) off) given)
        ]
  ]
  kept_by (Leaves name) old new last handed kept on q w is = elim (cases_eq name q) [
    | inl same ↦ absurd (none_some w (sym (if_true (name == q) None (last q) (eq-eqb name q same)) ∙ is))
    | inr ne ↦
        let off : (name == q) ≡ false = ne_eqb name q ne in
        elim (kept q w (sym (if_false (name == q) None (last q) off) ∙ is)) [
          | inl has ↦ inl (on q w ne has)
          | inr given ↦ inr (rw (if_false (name == q) [] (handed q) off) given)
        ]
  ]
  kept_by (Gives waker) old new last handed kept on q w is = elim (kept q w is) [
    | inl has ↦ elim (on q w has) [ inl still ↦ inl still | inr e ↦ inr (inl e) ]
    | inr given ↦ inr (inr given)
  ]
  kept_by NoEffect old new last handed kept on q w is = elim (kept q w is) [
    | inl has ↦ inl (on q w has)
    | inr given ↦ inr given
  ]

  -- one name changed, and out lost at most its pair
  others : (old new : Waiting D W) (name : ℕ) (phase : Option (Phase W)) → Becomes old.side new.side name phase →
      new.out ≡ without_pair name old.out → OthersStay name old new
  others old new name phase b outs q waker ne has = elim has [
    | inl is ↦ inl (b.others q (λ e. ne (sym e)) ∙ is)
    | inr at ↦ inr (rw outs (in_without name q waker old.out ne at))
  ]

  -- whoever is notified has its waker in out
  notified_carries : (place known : Option (Phase W) → Bool) (phase : Phase W) (names : List ℕ) (old new : Waiting D W) →
      AreNotified place known phase names old new → CarriesOn NoEffect old new
  notified_carries place known phase names old new did q v has =
      let now = phases-notified place phase names did.queue old did.may in
      subst (λ (w : Waiting D W). HasWaker w q v) (sym did.is) (elim has [
        | inl is ↦ elim (cases_Bool (holds q names)) [
          | inl at ↦ inr (in_append_right (q, v) old.out (named old.side.live names) (in_named names old.side.live q v at is))
          | inr off ↦ inl (now.others q off ∙ is)
        ]
        | inr at ↦ inr (in_append_left (q, v) old.out (named old.side.live names) at)
      ])

  pub handed_carries : (waker : Option W) (old new : Waiting D W) → waker ≡ oldest old.out → new ≡ record old {
    out =
        drop 1 old.out;
  } → CarriesOn (gives waker) old new
  handed_carries None old new is taken = λ q v has. rw taken (elim has [
    | inl there ↦ inl there
    | inr at ↦ elim (oldest_or_rest old.out (q, v) at) [ inl e ↦ absurd (none_some v (is ∙ e)) | inr rest ↦ inr rest ]
  ])
  handed_carries (Some given) old new is taken = λ q v has. elim has [
    | inl there ↦ inl (rw taken (inl there))
    | inr at ↦ elim (oldest_or_rest old.out (q, v) at) [ inl e ↦ inr (some_same given v (is ∙ e)) | inr rest ↦ inl (rw taken (inr rest)) ]
  ]

  -- a second effect that names futures alone
  pub and_then : (on_wakers : WakerChange W) (old mid new : Waiting D W) → CarriesOn on_wakers old mid → CarriesOn NoEffect mid new →
      CarriesOn on_wakers old new
  and_then (Pends name waker) old mid new one other = (other name waker one.0, λ q w ne has. other q w (one.1 q w ne has))
  and_then (Leaves name) old mid new one other = λ q w ne has. other q w (one q w ne has)
  and_then (Gives waker) old mid new one other = λ q w has. elim (one q w has) [ inl still ↦ inl (other q w still) | inr e ↦ inr e ]
  and_then NoEffect old mid new one other = λ q w has. other q w (one q w has)

  abbrev out_of : Waiting D W → List (ℕ × W)
  out_of w = w.out

  module _ {place : Option (Phase W) → Bool} (rule : IsPlaceRule place) (known : Option (Phase W) → Bool) (knows : AllowsBasics known) where
    -- Which waker a pending poll had is registered, or named, or handed out.
    pub carries : (effect : WaiterEffect D W) (old new : Waiting D W) → AllowsEffect rule known old effect →
        AreSoundBy place known old.side old.out → TakesEffect effect old new → After effect old new → CarriesOn
        (waker_change effect) old new
    carries NoChange old new is was taken now = λ q v has. rw taken has
    carries (Inserts name asks) old new is was taken now = λ q v ne has. elim has [
      | inl there ↦ inl (now.others q (λ e. ne (sym e)) ∙ there)
      | inr at ↦ inr (rw taken.1 at)
    ]
    carries (Registers name waker) old new is was taken now = (inl now.here, others old new name _ now (ap out_of taken.1))
    carries (RegistersApart name waker) old new is was taken now = (inl now.here, others old new name _ now (ap out_of taken.1))
    carries (KeepsWaiting name waker) old new is was taken now = (inl now.here, others old new name _ now (ap out_of taken.1))
    carries (Asks name asks) old new is was taken now = λ q v has.
        elim has [ inl there ↦ inl (now q ∙ there) | inr at ↦ inr (rw taken.1 at) ]
    carries (NotifiesOldest notice) old new is was taken now =
        notified_carries place known _ _ old new (oldest_are rule known notice old new is was.ordered taken)
    carries (NotifiesAll notice) old new is was taken now =
        notified_carries place known _ _ old new (all_are rule known notice old new is was.ordered taken)
    carries (NotifiesListed notice names) old new is was taken now =
        notified_carries place known _ names old new (listed_are rule known notice names old new is was.ordered taken)
    carries (NotifiesFront keeps front) old new is was taken now =
        notified_carries place known Told front old new (front_are rule known keeps front old new is was.ordered taken)
    carries (CompletesOldest name asks) old new is was taken now = λ q v has.
        let asked = sound_by-exchange place known old.side old.out name asks was in
        notified_carries place known Complete _ (asking name asks old) new
        (completed rule known name asks old new is asked.ordered taken) q v
        (elim has [ inl there ↦ inl (phase-with_asks old.side.live name asks q ∙ there) | inr at ↦ inr at ])
    carries (PopsOldest waker) old new is was taken now = handed_carries waker old new taken.0 taken.1
    carries (AndThen one other) old new is was taken now =
        let mid = taken.0 in
        let sound = effect_sound rule known knows one old mid is.0 was taken.1 in
        let allows = is.1 mid taken.1 in
        and_then (waker_change one) old mid new
        (carries one old mid is.0 was taken.1 (effect_after rule known knows one old mid is.0 was taken.1))
        (subst (λ (d : WakerChange W). CarriesOn d mid new) is.2
        (carries other mid new allows sound taken.2 (effect_after rule known knows other mid new allows sound taken.2)))
    carries effect old new is was taken now = others old new _ _ now (ap out_of taken.1)

  at_first : (name : ℕ) (waker : W) (phase : Option (Phase W)) (first : Waiting D W) → phase_of first.side name ≡ phase →
      displaced_from phase (waker_of name first.out) ≡ Some waker → HasWaker first name waker
  at_first name waker (Some (Registered before)) first stood is =
      inl (stood ∙ ap (λ (w : W). let o : Option (Phase W) = Some (Registered w) in o) (some_same before waker is))
  at_first name waker phase first stood is = inr (in_waker_of name waker first.out is)

  pub kept_at_first : {E : Type 0} (waker_change : E → WakerChange W) (first : Waiting D W) → KeepsWakers waker_change first [] first
  kept_at_first waker_change first name waker is = inl (at_first name waker (phase_of first.side name) first refl is)

  -- A step that carries on keeps the wakers of the pending polls.
  pub carried_keeps_wakers : {E : Type 0} (waker_change : E → WakerChange W) (first : Waiting D W) (history : List E) (entry : E)
      (old new : Waiting D W) → CarriesOn (waker_change entry) old new →
      KeepsWakers waker_change first history old → KeepsWakers waker_change first (entry ∷ history) new
  carried_keeps_wakers waker_change first history entry old new on kept =
      kept_by (waker_change entry) old new (λ n. last_waker waker_change first n history) (λ n. handed_since waker_change n history) kept on

module _ {S D W : Type 0} (rules : WaiterRules S D W) where
  pub line_keeps_wakers : {E : Type 0} (waker_change : E →
      WakerChange W) (first : Waiting D W) (history : List E) (entry : E) (old new : Machine S D W) →
      HasSoundWaitersBy rules.place rules.phases old → TableLine rules (waker_change entry) old new →
      KeepsWakers waker_change first history old.waiting → KeepsWakers waker_change first (entry ∷ history) new.waiting
  line_keeps_wakers waker_change first history entry old new was row kept =
      let now = effect_after rules.places rules.phases rules.known row.effect old.waiting new.waiting row.allows was row.steps.1 in
      let on = carries rules.places rules.phases rules.known row.effect old.waiting new.waiting row.allows was row.steps.1 now in
      carried_keeps_wakers waker_change first history entry old.waiting new.waiting
      (subst (λ (d : WakerChange W). CarriesOn d old.waiting new.waiting) row.effect_is on) kept
