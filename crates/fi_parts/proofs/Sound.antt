-- What keeps a store of futures sound: its queue and out in order, and only the phases that its primitive knows.
use Rattle.std.proofs.Common.{◌≡◌, ℕ, Bool, true, false, List, [], ◌++◌, Option, Some, None, drop, sym, ap, ◌∙◌}
use Rattle.std.proofs.lemmas.Bool.{both_ways}
use Rattle.std.specs.Ordering.{nat_cmp}
use Rattle.std.specs.FinMap as map
use Rattle.fi_parts.specs.declared.phase.Phase.{Phase}
use Rattle.fi_parts.specs.declared.phase.Phase.TheVariants.{Fresh}
use Rattle.fi_parts.specs.Order.{holds}
use Rattle.fi_parts.specs.Pairs.{without_pair}
use Rattle.fi_parts.specs.Waiting.{Waiters, phase_in, phase_of, is_registered, may_be_named, no_futures, insert_fresh, with_phase}
use Rattle.fi_parts.specs.Waiting.{without_future, clear_queue, named_all, AreSound, AreSoundBy, Waiting, IsLive}
use Rattle.std.proofs.lemmas.List.{append-nil}
use Rattle.fi_parts.specs.Effects.{notified}
use Rattle.fi_parts.proofs.Notified.{MayNotify, fit_one, fit_among, phases-notified, ordered-notified, may_notify-front}
use Rattle.fi_parts.specs.PlaceRules.{IsPlaceRule, registered_rule}
use Rattle.fi_parts.proofs.Waiting.{HasPlace, becomes-made, becomes-with_phase, becomes-forgotten, unregistered, ordered-becomes}
use Rattle.fi_parts.proofs.Waiting.{ordered-empty, ordered-made, ordered-forgotten, ordered-without_pair, ordered-drop}

module _ {D W : Type 0} (place : Option (Phase W) → Bool) (rule : IsPlaceRule place)
    (allowed : Option (Phase W) → Bool) where
  pub sound_by-empty : allowed None ≡ true → AreSoundBy place allowed (no_futures {D = D}) []
  sound_by-empty is = record {
    ordered = ordered-empty place rule;
    only = λ q. ap (λ o. allowed (phase_in o)) (map.get-empty nat_cmp q) ∙ is;
  }

  pub sound_by-made : (side : Waiters D W) (out : List (ℕ × W)) (name : ℕ) (asks : D) → allowed (Some Fresh) ≡ true →
      AreSoundBy place allowed side out → phase_of side name ≡ None → AreSoundBy place allowed (insert_fresh side name asks) out
  sound_by-made side out name asks is was free = record {
    ordered = ordered-made place rule side out name asks was.ordered free;
    only = λ q. fit_one allowed side _ q name (Some Fresh) is (becomes-made side name asks) (was.only q);
  }

  pub sound_by-without_pair : (side : Waiters D W) (out : List (ℕ × W)) (name : ℕ) → AreSoundBy place allowed side out →
      AreSoundBy place allowed side (without_pair name out)
  sound_by-without_pair side out name was = record {
    ordered = ordered-without_pair place rule side out name was.ordered;
    only = was.only;
  }

  pub sound_by-drop : (side : Waiters D W) (out : List (ℕ × W)) → AreSoundBy place allowed side out →
      AreSoundBy place allowed side (drop 1 out)
  sound_by-drop side out was = record { ordered = ordered-drop place rule side out was.ordered; only = was.only }

  pub sound_by-forgotten : (side : Waiters D W) (out : List (ℕ × W)) (name : ℕ) → allowed None ≡ true →
      AreSoundBy place allowed side out → AreSoundBy place allowed (without_future side name) (without_pair name out)
  sound_by-forgotten side out name is was = record {
    ordered = ordered-forgotten place rule side out name was.ordered;
    only = λ q. fit_one allowed side _ q name None is (becomes-forgotten side name) (was.only q);
  }

  -- a poll: one has this phase now, and no pair, and this is the queue
  pub sound_by-polled : (side : Waiters D W) (out : List (ℕ × W)) (name : ℕ) (phase : Phase W) (queue : List ℕ) →
      allowed (Some phase) ≡ true → AreSoundBy place allowed side out → IsLive side name →
      HasPlace name (place (Some phase)) side.queue queue →
      AreSoundBy place allowed (record { live = with_phase side.live name phase; queue = queue }) (without_pair name out)
  sound_by-polled side out name phase queue is was lives places =
      let now = becomes-with_phase side name phase queue lives in
      record {
        ordered = ordered-becomes place rule side _ out name (Some phase) was.ordered now places;
        only = λ q. fit_one allowed side _ q name (Some phase) is now (was.only q);
      }

  -- some of them were notified
  pub sound_by-notified : (phase : Phase W) (names queue : List ℕ) (old : Waiting D W) → may_be_named (Some phase) ≡ true →
      allowed (Some phase) ≡ true → AreSoundBy place allowed old.side old.out → MayNotify place phase names queue old →
      AreSoundBy place allowed (notified phase names queue old).side (notified phase names queue old).out
  sound_by-notified phase names queue old named_now is was may =
      record {
        ordered = ordered-notified place rule phase names queue old named_now was.ordered may;
        only = λ q. fit_among allowed old.side _ q names phase is (phases-notified place phase names queue old may) (was.only q);
      }

-- The same where the registered ones alone are queued.
module _ {D W : Type 0} (allowed : Option (Phase W) → Bool) where
  pub sound-empty : allowed None ≡ true → AreSound allowed (no_futures {D = D}) []
  sound-empty is = sound_by-empty is_registered registered_rule allowed is

  pub sound-without_pair : (side : Waiters D W) (out : List (ℕ × W)) (name : ℕ) → AreSound allowed side out →
      AreSound allowed side (without_pair name out)
  sound-without_pair side out name was = sound_by-without_pair is_registered registered_rule allowed side out name was

  pub sound-drop : (side : Waiters D W) (out : List (ℕ × W)) → AreSound allowed side out →
      AreSound allowed side (drop 1 out)
  sound-drop side out was = sound_by-drop is_registered registered_rule allowed side out was

  pub sound-forgotten : (side : Waiters D W) (out : List (ℕ × W)) (name : ℕ) → allowed None ≡ true →
      AreSound allowed side out → AreSound allowed (without_future side name) (without_pair name out)
  sound-forgotten side out name is was = sound_by-forgotten is_registered registered_rule allowed side out name is was

  -- the whole queue was named
  pub sound-emptied : (phase : Phase W) (side : Waiters D W) (out : List (ℕ × W)) → allowed (Some phase) ≡ true →
      may_be_named (Some phase) ≡ true → AreSound allowed side out →
      AreSound allowed (clear_queue phase side) (out ++ named_all side)
  sound-emptied phase side out is may was =
      let old : Waiting D W = record { side = side; out = out } in
      sound_by-notified is_registered registered_rule allowed phase side.queue [] old may is was
      (may_notify-front is_registered registered_rule phase false side.queue [] old (unregistered (Some phase) may) was.ordered
      (sym (append-nil side.queue)))

  -- in an empty queue nobody is registered
  pub none_registered : (side : Waiters D W) (out : List (ℕ × W)) → AreSound allowed side out → side.queue ≡ [] → (q : ℕ) →
      is_registered (phase_of side q) ≡ true → ⊥
  none_registered side out was empty q now =
      both_ways (holds q side.queue) (ap (holds q) empty) (was.ordered.queued q ∙ now)
