-- Some of the futures are notified: the phases then, and that the waiters stay in order.
use Rattle.std.proofs.Common.{◌≡◌, ℕ, Bool, true, false, eqb, ◌||◌, if◌then◌else◌, List, [], ◌∷◌, ◌++◌, Option, Some, refl, sym, ap, subst}
use Rattle.std.proofs.Common.{◌∙◌, inl, inr, ◌⊎◌, arith}
use Rattle.std.proofs.lemmas.Bool.{eqb-true, or_from, or_left, or_right, or_cases, both_ways, cases_eq, cases_Bool, false_from_ne_true}
use Rattle.std.proofs.lemmas.List.{append-nil}
use Rattle.std.proofs.lemmas.List.Folds.{list_any-append}
use Rattle.std.specs.Ordering.{nat_cmp}
use Rattle.std.specs.FinMap as map
use Rattle.fi_parts.specs.declared.phase.Phase.{Phase}
use Rattle.fi_parts.specs.declared.phase.Phase.TheVariants.{Registered}
use Rattle.fi_parts.specs.declared.phase.LiveFuture.{LiveFuture}
use Rattle.fi_parts.specs.Effects.{notified, AreRegistered}
use Rattle.fi_parts.specs.Order.{holds, Apart}
use Rattle.fi_parts.specs.Pairs.{has, PairsApart}
use Rattle.fi_parts.specs.PlaceRules.{IsPlaceRule}
use Rattle.fi_parts.specs.Waiting.{Waiters, Waiting, phase_in, phase_of, is_registered, may_be_named, with_phase, pair_of, pair, IsLive}
use Rattle.fi_parts.specs.Waiting.{IsOrderedBy, noticed, named, with_phases}
use Rattle.fi_parts.proofs.Slots.{eqb_same, holds-append, Apart-front, Apart-back, Apart-disjoint}
use Rattle.fi_parts.proofs.Waiting.{Becomes, placed, live_if_placed, live_if_registered, no_pair, phase-with_phases, phase-held}

module _ {W : Type 0} where
  has-pair_of : (q n : ℕ) (p : Option (Phase W)) (ps : List (ℕ × W)) → has q (pair_of n p ++ ps) ≡ true →
      ((eqb q n ≡ true) × (is_registered p ≡ true)) ⊎ (has q ps ≡ true)
  has-pair_of q n (Some (Registered w)) ps at =
      elim (or_cases (eqb q n) (has q ps) at) [ inl e ↦ inl (e, refl) | inr r ↦ inr r ]
  has-pair_of q n p ps at = inr at

  PairsApart-pair_of : (n : ℕ) (p : Option (Phase W)) (ps : List (ℕ × W)) → has n ps ≡ false → PairsApart ps →
      PairsApart (pair_of n p ++ ps)
  PairsApart-pair_of n (Some (Registered w)) ps off a = (off, a)
  PairsApart-pair_of n p ps off a = a

  PairsApart-append : (ps qs : List (ℕ × W)) → PairsApart ps → PairsApart qs →
      ((k : ℕ) → has k ps ≡ true → has k qs ≡ false) → PairsApart (ps ++ qs)
  PairsApart-append [] qs a b off = b
  PairsApart-append (p ∷ ps) qs a b off = (
    list_any-append (λ r. eqb p.0 r.0) ps qs
        ∙ or_from (has p.0 ps) (has p.0 qs) a.0 (off p.0 (or_left (eqb p.0 p.0) _ (eqb_same p.0))),
    PairsApart-append ps qs a.1 b (λ k at. off k (or_right (eqb k p.0) _ at)),
  )

module _ {D W : Type 0} where
  has-named : (live : map.FinMap nat_cmp (LiveFuture D W)) (names : List ℕ) (q : ℕ) → has q (named live names) ≡ true →
      (holds q names ≡ true) × (is_registered (phase_in (map.get live q)) ≡ true)
  unfolding named
  has-named live [] q at = absurd (both_ways false refl at)
  has-named live (n ∷ names) q at = elim (has-pair_of q n (phase_in (map.get live n)) (named live names) at) [
    | inl here ↦ (
      or_left (eqb q n) _ here.0,
      ap (λ k. is_registered (phase_in (map.get live k))) (eqb-true q n here.0) ∙ here.1,
    )
    | inr later ↦ let rest = has-named live names q later in (or_right (eqb q n) _ rest.0, rest.1)
  ]

  PairsApart-named : (live : map.FinMap nat_cmp (LiveFuture D W)) (names : List ℕ) → Apart names →
      PairsApart (named live names)
  unfolding named
  PairsApart-named live [] a = tt
  PairsApart-named live (n ∷ names) a =
      PairsApart-pair_of n (phase_in (map.get live n)) (named live names)
      (false_from_ne_true _ (λ at. both_ways (holds n names) a.0 (has-named live names n at).0))
      (PairsApart-named live names a.1)

-- Those of these names have this phase now, and the others have the phases that they had.
pub record AllBecome {D W : Type 0} (old new : Waiters D W) (names : List ℕ) (phase : Phase W) : Type 0 where
  pub these : (q : ℕ) → holds q names ≡ true → phase_of new q ≡ Some phase
  pub others : (q : ℕ) → holds q names ≡ false → phase_of new q ≡ phase_of old q

-- Who was fit before is fit after, where one or some have another phase that is fit.
module _ {D W : Type 0} (fit : Option (Phase W) → Bool) (old new : Waiters D W) (q : ℕ) where
  pub fit_one : (name : ℕ) (phase : Option (Phase W)) → fit phase ≡ true → Becomes old new name phase → fit (phase_of old q) ≡ true →
      fit (phase_of new q) ≡ true
  fit_one name phase can now was = grind (arith, cases_eq q name, now.here, now.others q, can, was)

  pub fit_among : (names : List ℕ) (phase : Phase W) → fit (Some phase) ≡ true → AllBecome old new names phase →
      fit (phase_of old q) ≡ true → fit (phase_of new q) ≡ true
  fit_among names phase can now was = grind (arith, now.these q, now.others q, can, was)

-- These names, none twice, live, and the queue then holds those of them whose new phase has a place, and of the others whom it held.
pub record MayNotify {D W : Type 0} (place : Option (Phase W) → Bool) (phase : Phase W) (names queue : List ℕ)
    (old : Waiting D W) : Type 0 where
  pub once : Apart names
  pub lives : (q : ℕ) → holds q names ≡ true → IsLive old.side q
  pub these : (q : ℕ) → holds q names ≡ true → holds q queue ≡ place (Some phase)
  pub others : (q : ℕ) → holds q names ≡ false → holds q queue ≡ holds q old.side.queue
  pub queue_once : Apart queue

module _ {D W : Type 0} where
  -- one is notified
  pub notified-one : (phase : Phase W) (name : ℕ) (others : List ℕ) (old : Waiting D W) →
      record { side = noticed phase old.side name others; out = old.out ++ pair old.side name } ≡ notified phase (name ∷ []) others old
  unfolding named with_phases
  notified-one phase name others old =
      let pairs : pair old.side name ≡ pair old.side name ++ [] = sym (append-nil _) in
      λ i. record {
        side = record { live = with_phase old.side.live name phase; queue = others };
        out = old.out ++ pairs i;
      }

module _ {D W : Type 0} (place : Option (Phase W) → Bool) where
  pub phases-notified : (phase : Phase W) (names queue : List ℕ) (old : Waiting D W) → MayNotify place phase names queue old →
      AllBecome old.side (notified phase names queue old).side names phase
  phases-notified phase names queue old may = record {
    these = λ q at. phase-held phase names old.side.live q may.lives may.once at;
    others = λ q off. phase-with_phases phase names old.side.live q off;
  }

module _ {D W : Type 0} (place : Option (Phase W) → Bool) (rule : IsPlaceRule place) where
  pub ordered-notified : (phase : Phase W) (names queue : List ℕ) (old : Waiting D W) → may_be_named (Some phase) ≡ true →
      IsOrderedBy place old.side old.out → MayNotify place phase names queue old →
      IsOrderedBy place (notified phase names queue old).side (notified phase names queue old).out
  ordered-notified phase names queue old named_now was may =
      let now = phases-notified place phase names queue old may in
      let pairs = named old.side.live names in
      record {
        queued = λ q. grind (arith, may.these q, may.others q, was.queued q, now.these q, now.others q);
        once = may.queue_once;
        named = λ q at.
            elim (or_cases (has q old.out) (has q pairs) (sym (list_any-append (λ r. eqb q r.0) old.out pairs) ∙ at)) [
              | inl before ↦ elim (cases_Bool (holds q names)) [
                | inl there ↦ ap may_be_named (now.these q there) ∙ named_now
                | inr off ↦ ap may_be_named (now.others q off) ∙ was.named q before
              ]
              | inr new ↦ ap may_be_named (now.these q (has-named old.side.live names q new).0) ∙ named_now
            ];
        named_once = PairsApart-append old.out pairs was.named_once (PairsApart-named old.side.live names may.once)
            (λ k at. false_from_ne_true _ (λ there.
            both_ways _ (no_pair place rule old.side old.out k was (has-named old.side.live names k there).1) at));
      }

  -- a front of the queue, which keeps its places if the new phase has one
  pub may_notify-front : (phase : Phase W) (keeps : Bool) (front rest : List ℕ) (old : Waiting D W) → place (Some phase) ≡ keeps →
      IsOrderedBy place old.side old.out → old.side.queue ≡ front ++ rest →
      MayNotify place phase front (if keeps then old.side.queue else rest) old
  may_notify-front phase keeps front rest old is was split = record {
    once = Apart-front front rest once;
    lives = λ q at. live_if_placed place rule old.side q (sym (was.queued q) ∙ in_front q at);
    these = these keeps is;
    others = others keeps;
    queue_once = apart keeps;
  }
    where
      once : Apart (front ++ rest)
      once = subst Apart split was.once

      in_front : (q : ℕ) → holds q front ≡ true → holds q old.side.queue ≡ true
      in_front q at = ap (holds q) split ∙ holds-append q front rest ∙ or_left _ _ at

      these : (b : Bool) → place (Some phase) ≡ b → (q : ℕ) → holds q front ≡ true →
          holds q (if b then old.side.queue else rest) ≡ place (Some phase)
      these true told q at = in_front q at ∙ sym told
      these false told q at = Apart-disjoint front rest once q at ∙ sym told

      others : (b : Bool) (q : ℕ) → holds q front ≡ false →
          holds q (if b then old.side.queue else rest) ≡ holds q old.side.queue
      others true q off = refl
      others false q off = sym (ap (holds q) split ∙ holds-append q front rest ∙ ap (λ b. b || holds q rest) off)

      apart : (b : Bool) → Apart (if b then old.side.queue else rest)
      apart true = was.once
      apart false = Apart-back front rest once

  -- registered ones that have no place
  pub may_notify-listed : (phase : Phase W) (names : List ℕ) (old : Waiting D W) → place (Some phase) ≡ false → rule.has_queue ≡ false →
      IsOrderedBy place old.side old.out → AreRegistered old.side names → MayNotify place phase names old.side.queue old
  may_notify-listed phase names old is apart was names_are = record {
    once = names_are.once;
    lives = λ q at. live_if_registered old.side q (names_are.registered q at);
    these = λ q at. was.queued q ∙ placed place rule (phase_of old.side q) (names_are.registered q at) ∙ apart ∙ sym is;
    others = λ q off. refl;
    queue_once = was.once;
  }

  -- nobody
  pub may_notify-none : (phase : Phase W) (old : Waiting D W) → IsOrderedBy place old.side old.out →
      MayNotify place phase [] old.side.queue old
  may_notify-none phase old was = record {
    once = tt;
    lives = λ q at. absurd (both_ways false refl at);
    these = λ q at. absurd (both_ways false refl at);
    others = λ q off. refl;
    queue_once = was.once;
  }
