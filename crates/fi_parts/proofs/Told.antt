-- A front of the queue is told: the phases then, that the store stays in order, and that it can be told one by one.
use Rattle.std.proofs.Common.{◌≡◌, ℕ, Bool, true, false, if◌then◌else◌, List, [], ◌∷◌, ◌++◌, Option, Some, None, append_assoc, refl, sym}
use Rattle.std.proofs.Common.{ap, subst, ◌∙◌}
use Rattle.std.proofs.lemmas.List.{append-nil}
use Rattle.std.proofs.lemmas.Option.{same_Some}
use Rattle.std.specs.Ordering.{nat_cmp}
use Rattle.std.specs.FinMap as map
use Rattle.fi_parts.specs.declared.phase.Phase.{Phase}
use Rattle.fi_parts.specs.declared.phase.Phase.TheVariants.{Registered, Told}
use Rattle.fi_parts.specs.declared.phase.LiveFuture.{LiveFuture}
use Rattle.fi_parts.specs.Order.{holds, Apart, without}
use Rattle.fi_parts.specs.Pairs.{has}
use Rattle.fi_parts.specs.Waiting.{Waiters, Waiting, IsLive, phase_in, phase_of, is_registered, is_queued, with_phase, pair_of, rephased}
use Rattle.fi_parts.specs.Waiting.{IsOrderedBy, named, with_phases, told_one, front_told}
use Rattle.fi_parts.proofs.FiniteMaps.{insert_known}
use Rattle.fi_parts.proofs.Slots.{Apart-back, apart_middle, in_neither, without_first}
use Rattle.fi_parts.specs.PlaceRules.{IsPlaceRule, queued_rule}
use Rattle.fi_parts.proofs.Waiting.{live_by, no_pair, phase-with_phases}

module _ {D W : Type 0} where
  named-push : (live : map.FinMap nat_cmp (LiveFuture D W)) (names : List ℕ) (n : ℕ) →
      named live (names ++ n ∷ []) ≡ named live names ++ pair_of n (phase_in (map.get live n))
  unfolding named
  named-push live [] n = append-nil _
  named-push live (x ∷ xs) n =
      ap (λ ps. pair_of x (phase_in (map.get live x)) ++ ps) (named-push live xs n)
      ∙ sym (append_assoc (pair_of x (phase_in (map.get live x))) (named live xs) _)

  with_phases-push : (live : map.FinMap nat_cmp (LiveFuture D W)) (names : List ℕ) (n : ℕ) (phase : Phase W) →
      with_phases live (names ++ n ∷ []) phase ≡ with_phase (with_phases live names phase) n phase
  unfolding with_phases
  with_phases-push live [] n phase = refl
  with_phases-push live (x ∷ xs) n phase = with_phases-push (with_phase live x phase) xs n phase

  -- nothing changes where it has this phase already
  pub with_phase-same : (live : map.FinMap nat_cmp (LiveFuture D W)) (n : ℕ) (phase : Phase W) →
      phase_in (map.get live n) ≡ Some phase → with_phase live n phase ≡ live
  unfolding with_phase
  with_phase-same live n phase is = each (map.get live n) refl is
    where
      each : (o : Option (LiveFuture D W)) → map.get live n ≡ o → phase_in o ≡ Some phase → rephased live n phase o ≡ live
      each None here stood = refl
      each (Some f) here stood = insert_known live n (record f { phase = phase })
          (here ∙ ap (λ p. Some (record f { phase = p })) (same_Some _ _ stood))

module _ {D W : Type 0} (place : Option (Phase W) → Bool) (rule : IsPlaceRule place) where
  -- to tell a front and then the next one is to tell the front with it
  pub front_told-step : (keeps : Bool) (w : Waiting D W) (front : List ℕ) (n : ℕ) (rest : List ℕ) →
      IsOrderedBy place w.side w.out → w.side.queue ≡ front ++ n ∷ rest →
      told_one keeps (front_told keeps w front (n ∷ rest)) n ≡ front_told keeps w (front ++ n ∷ []) rest
  front_told-step keeps w front n rest was split =
      let once : Apart (front ++ n ∷ rest) = subst Apart split was.once in
      let apart : holds n front ≡ false = (in_neither n front rest (apart_middle front n rest once)).0 in
      let live : with_phase (with_phases w.side.live front Told) n Told
      ≡ with_phases w.side.live (front ++ n ∷ []) Told =
      sym (with_phases-push w.side.live front n Told) in
      let stood : phase_in (map.get (with_phases w.side.live front Told) n) ≡ phase_in (map.get w.side.live n) =
      phase-with_phases Told front w.side.live n apart in
      let out : (w.out ++ named w.side.live front) ++ pair_of n
      (phase_in (map.get (with_phases w.side.live front Told) n)) ≡ w.out ++ named w.side.live (front ++ n ∷ []) =
      ap (λ p. (w.out ++ named w.side.live front) ++ pair_of n p) stood ∙ append_assoc w.out (named w.side.live front) _
      ∙ ap (λ ps. w.out ++ ps) (sym (named-push w.side.live front n)) in
      let queue : queue_after keeps ≡ (if keeps then w.side.queue else rest) =
      queue_is keeps (Apart-back front (n ∷ rest) once) in
      λ i. record { side = record { live = live i; queue = queue i }; out = out i }
    where
      queue_after : Bool → List ℕ
      queue_after b =
          if b then (if b then w.side.queue else n ∷ rest) else without n (if b then w.side.queue else n ∷ rest)

      queue_is : (b : Bool) → Apart (n ∷ rest) → queue_after b ≡ (if b then w.side.queue else rest)
      queue_is true a = refl
      queue_is false a = without_first n rest a

  pub front_told-none : (keeps : Bool) (w : Waiting D W) → front_told keeps w [] w.side.queue ≡ w
  unfolding named with_phases
  front_told-none keeps w =
      let out : w.out ++ named w.side.live [] ≡ w.out = append-nil w.out in
      let queue : (if keeps then w.side.queue else w.side.queue) ≡ w.side.queue = either keeps in
      λ i. record { side = record { live = w.side.live; queue = queue i }; out = out i }
    where
      either : (b : Bool) → (if b then w.side.queue else w.side.queue) ≡ w.side.queue
      either true = refl
      either false = refl

module _ {W : Type 0} where
  waits_if : (keeps : Bool) (p : Option (Phase W)) → is_queued keeps p ≡ true → is_queued true p ≡ true
  waits_if keeps (Some (Registered w)) h = refl
  waits_if keeps (Some Told) h = refl
  waits_if keeps p h = h

module _ {D W : Type 0} where
  -- who waits is live
  pub live_if_waits : (side : Waiters D W) (name : ℕ) → is_queued true (phase_of side name) ≡ true → IsLive side name
  live_if_waits side name waits = live_by (is_queued true) refl side name waits

  pub waits-ordered : (keeps : Bool) (w : Waiting D W) (name : ℕ) → IsOrderedBy (is_queued keeps) w.side w.out →
      holds name w.side.queue ≡ true → is_queued true (phase_of w.side name) ≡ true
  waits-ordered keeps w name was at = waits_if keeps (phase_of w.side name) (sym (was.queued name) ∙ at)

  pub unpaired-ordered : (keeps : Bool) (w : Waiting D W) (name : ℕ) → IsOrderedBy (is_queued keeps) w.side w.out →
      is_registered (phase_of w.side name) ≡ true → has name w.out ≡ false
  unpaired-ordered keeps w name was is = no_pair (is_queued keeps) (queued_rule keeps) w.side w.out name was is
