-- Exactly the fresh and registered sends own a value, after each change of the sends.
use Rattle.std.proofs.Common.{◌≡◌, ◌≢◌, ℕ, List, [], ◌∷◌, Option, Some, None, is_some, refl, sym, ap, subst, ◌∙◌, inl, inr}
use Rattle.std.proofs.lemmas.Bool.{cases_eq}
use Rattle.std.specs.Option.{option_flatten}
use Rattle.std.specs.FinMap as map
use Rattle.fi_parts.specs.declared.phase.LiveFuture.{LiveFuture}
use Rattle.fi_parts.specs.declared.phase.Phase.{Phase}
use Rattle.fi_parts.specs.declared.phase.Phase.TheVariants.{Fresh, Registered, Complete, Ended}
use Rattle.fi_parts.specs.Oldest.{complete_first, complete_oldest}
use Rattle.fi_parts.specs.Waiting.{Waiters, phase_of, phase_in, asks_in, insert_fresh, with_phase, with_asks, exchange, ended}
use Rattle.fi_parts.specs.Waiting.{without_future, clear_queue, IsOrdered}
use Rattle.fi_parts.proofs.FiniteMaps.{get-insert_same, get-insert_other, get-remove_same, get-remove_other}
use Rattle.fi_parts.proofs.Effects.{registered_as}
use Rattle.fi_parts.proofs.Oldest.{get-with_asks, get-with_asks_other}
use Rattle.fi_parts.proofs.Waiting.{noticed_phase, get-with_phase, get-with_phase_other, phase-with_phase, asks-with_phase}
use Rattle.fi_parts.proofs.Waiting.{asks-with_phases, phase-emptied, lives_as, first_registered}
use Rattle.fi_channels.specs.ChannelWords.{owns_value}
use Rattle.fi_channels.proofs.ChannelSteps.{future_there}

module _ {W : Type 0} where
  still_owns : (phase : Option (Phase W)) → owns_value phase ≡ owns_value (noticed_phase Fresh phase)
  still_owns (Some (Registered waker)) = refl
  still_owns phase = refl

module _ {T W : Type 0} where
  abbrev pub OwnedAt : Option (LiveFuture (Option T) W) → Type 0
  OwnedAt future = is_some (option_flatten (asks_in future)) ≡ owns_value (phase_in future)

  abbrev pub Owned : Waiters (Option T) W → Type 0
  Owned sends = (q : ℕ) → OwnedAt (map.get sends.live q)

  owned_one : (old new : Waiters (Option T) W) (n : ℕ) → ((q : ℕ) → q ≢ n → map.get new.live q ≡ map.get old.live q) →
      OwnedAt (map.get new.live n) → Owned old → Owned new
  owned_one old new n others here was q = elim (cases_eq q n) [
    | inl same ↦ rw same here
    | inr ne ↦ subst OwnedAt (sym (others q ne)) (was q)
  ]

  pub owned-made : (sends : Waiters (Option T) W) (n : ℕ) (value : T) → Owned sends → Owned (insert_fresh sends n (Some value))
  owned-made sends n value was = owned_one sends (insert_fresh sends n (Some value)) n (λ q ne. get-insert_other sends.live n _ q ne)
      (subst OwnedAt (sym (get-insert_same sends.live n _)) refl) was

  -- another phase, which owns its value just as the one before
  pub owned-with_phase : (sends : Waiters (Option T) W) (n : ℕ) (before phase : Phase W) (queue : List ℕ) →
      phase_of sends n ≡ Some before →
      owns_value (Some phase) ≡ owns_value (Some before) → Owned sends →
      Owned (record { live = with_phase sends.live n phase; queue = queue })
  owned-with_phase sends n before phase queue stood same was =
      owned_one sends (record {
        live = with_phase sends.live n phase;
        queue = queue;
      }) n (λ q ne. get-with_phase_other sends.live n phase q ne)
      (ap (λ asks. is_some (option_flatten asks)) (asks-with_phase sends.live n phase n) ∙ was n ∙ ap owns_value stood ∙ sym same
      ∙ sym (ap owns_value (phase-with_phase sends.live n phase (lives_as sends n before stood)))) was

  -- its value left it, and it ended
  pub owned-finished : (sends : Waiters (Option T) W) (n : ℕ) (before : Phase W) → phase_of sends n ≡ Some before → Owned sends →
      Owned (exchange (ended sends n) n None)
  owned-finished sends n before stood was =
      let f = future_there sends n before stood in
      owned_one sends (exchange (ended sends n) n None) n
      (λ q ne. get-with_asks_other (with_phase sends.live n Ended) n None q ne ∙ get-with_phase_other sends.live n Ended q ne)
      (subst OwnedAt (sym (get-with_asks (with_phase sends.live n Ended) n None (record f.0 { phase = Ended })
      (get-with_phase sends.live n Ended f.0 f.1))) refl) was

  pub owned-forgotten : (sends : Waiters (Option T) W) (n : ℕ) → Owned sends → Owned (without_future sends n)
  owned-forgotten sends n was = owned_one sends (without_future sends n) n (λ q ne. get-remove_other sends.live n q ne)
      (subst OwnedAt (sym (get-remove_same sends.live n)) refl) was

  -- all that waited are fresh
  pub owned-emptied : (sends : Waiters (Option T) W) (out : List (ℕ × W)) → IsOrdered sends out → Owned sends →
      Owned (clear_queue Fresh sends)
  owned-emptied sends out ordered was q =
      ap (λ asks. is_some (option_flatten asks)) (asks-with_phases Fresh sends.queue sends.live q) ∙ was q
      ∙ still_owns (phase_of sends q) ∙ sym (ap owns_value (phase-emptied Fresh sends out q ordered))

  completed_first : (sends : Waiters (Option T) W) (out : List (ℕ × W)) (queue : List ℕ) → IsOrdered sends out →
      sends.queue ≡ queue →
      Owned sends → Owned (complete_first None sends queue)
  completed_first sends out [] ordered is was = was
  completed_first sends out (n ∷ others) ordered is was =
      let waker = registered_as (phase_of sends n) (first_registered sends out n others ordered is) in
      let f = future_there sends n (Registered waker.0) waker.1 in
      owned_one sends (complete_first None sends (n ∷ others)) n
      (λ q ne. get-with_phase_other (with_asks sends.live n None) n Complete q ne ∙ get-with_asks_other sends.live n None q ne)
      (subst OwnedAt (sym (get-with_phase (with_asks sends.live n None) n Complete (record f.0 { asks = None })
      (get-with_asks sends.live n None f.0 f.1))) refl) was

  -- the value of the oldest moved on
  pub owned-completed : (sends : Waiters (Option T) W) (out : List (ℕ × W)) → IsOrdered sends out → Owned sends →
      Owned (complete_oldest None sends)
  owned-completed sends out ordered was = completed_first sends out sends.queue ordered refl was
