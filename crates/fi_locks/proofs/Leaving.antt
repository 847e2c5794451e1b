-- A future that ends and is removed at once.
use Rattle.std.proofs.Common.{◌≡◌, ℕ, false, eqb, List, [], ◌∷◌, Some, None, refl, sym, ap, inl, inr, ◌∙◌}
use Rattle.std.proofs.lemmas.Bool.{cases_eq, or_parts}
use Rattle.std.specs.Ordering.{nat_cmp}
use Rattle.std.specs.Cmp.{nat_cmp_total}
use Rattle.std.specs.FinMap as map
use Rattle.fi_parts.specs.declared.phase.LiveFuture.{LiveFuture}
use Rattle.fi_parts.specs.declared.phase.Phase.TheVariants.{Ended}
use Rattle.fi_parts.specs.Effects.{TakesEffect}
use Rattle.fi_parts.specs.Effects.WaiterEffect.{AndThen, EndsPlaced, Removes}
use Rattle.fi_parts.specs.Order.{without}
use Rattle.fi_parts.specs.Pairs.{has, waker_of, without_pair}
use Rattle.fi_parts.specs.Waiting.{Waiting, IsLive, displaced, displaced_from, phase_in, phase_of, with_phase, without_future, without_place}
use Rattle.fi_parts.proofs.FiniteMaps.{get-remove_same, get-remove_other}
use Rattle.fi_parts.proofs.Pairs.{without_no_pair}
use Rattle.fi_parts.proofs.Queues.{holds-without_same, has-without_same}
use Rattle.fi_parts.proofs.Slots.{without_absent}
use Rattle.fi_parts.proofs.Waiting.{get-with_phase_other, phase-with_phase, lives_as}

no_waker : {W : Type 0} (name : ℕ) (out : List (ℕ × W)) → has name out ≡ false → waker_of name out ≡ None
no_waker name [] off = refl
no_waker name (p ∷ ps) off = let parts = or_parts (eqb name p.0) (has name ps) off in rw parts.0 (no_waker name ps parts.1)

module _ {D W : Type 0} (old : Waiting D W) (name : ℕ) (lives : IsLive old.side name) where
  abbrev over : Waiting D W
  over = record { side = without_place Ended old.side name; out = without_pair name old.out }

  phase_over : phase_of over.side name ≡ Some Ended
  phase_over = phase-with_phase old.side.live name Ended lives

  removed : map.remove over.side.live name ≡ map.remove old.side.live name
  removed = map.same_map nat_cmp_total map.nat_cmp-IsAntisymmetric _ _ (λ q. elim (cases_eq q name) [
    | inl same ↦ rw same (get-remove_same over.side.live name ∙ sym (get-remove_same old.side.live name))
    | inr ne ↦ get-remove_other over.side.live name q ne ∙ get-with_phase_other old.side.live name Ended q ne
        ∙ sym (get-remove_other old.side.live name q ne)
  ])

  -- who was removed could have ended before
  pub ended_and_removed : (new : Waiting D W) →
      new ≡ record { side = without_future old.side name; out = without_pair name old.out } →
      TakesEffect (AndThen (EndsPlaced name) (Removes name)) old new
  ended_and_removed new is =
      let queue : without name over.side.queue ≡ over.side.queue =
      without_absent name over.side.queue (holds-without_same name old.side.queue) in
      let out : without_pair name over.out ≡ over.out = without_no_pair name over.out (has-without_same name old.out) in (
        over,
        (lives, refl),
        (
          lives_as over.side name Ended phase_over,
          is ∙ (λ i. record { side = record { live = sym removed i; queue = sym queue i }; out = sym out i }),
        ),
      )

module _ {D W : Type 0} (old mid : Waiting D W) (name : ℕ) (did : TakesEffect (EndsPlaced name) old mid) where
  pub has_ended : phase_of mid.side name ≡ Some Ended
  has_ended = ap (λ w. phase_of w.side name) did.1 ∙ phase_over old name did.0

  -- who has ended so has no waker left
  pub none_left : displaced mid.side mid.out name ≡ None
  none_left =
      ap (λ w. displaced w.side w.out name) did.1 ∙ ap (λ p. displaced_from p (waker_of name (without_pair name old.out)))
      (phase_over old name did.0) ∙ no_waker name (without_pair name old.out) (has-without_same name old.out)
