-- To tell the first that is due, and then all that are due, is to tell all that are due.
use Rattle.std.proofs.Common.{◌≡◌, ◌≢◌, ℕ, true, false, ◌||◌, ◌&&◌, nat_le, List, [], ◌∷◌, ◌++◌, Option, Some, unwrap_or, append_assoc, sym}
use Rattle.std.proofs.Common.{ap, subst, ◌∙◌, arith}
use Rattle.std.proofs.lemmas.Bool.{ne_eqb, and_parts, both_ways, cases_eq}
use Rattle.std.proofs.lemmas.List.{append-nil}
use Rattle.fi_parts.specs.declared.phase.Phase.{Phase}
use Rattle.fi_parts.specs.declared.phase.Phase.TheVariants.{Registered, Told}
use Rattle.fi_parts.specs.Effects.{notified}
use Rattle.fi_parts.specs.Order.{holds}
use Rattle.fi_parts.specs.Pairs.{has}
use Rattle.fi_parts.specs.Waiting.{Waiters, Waiting, phase_of, is_registered, with_phase, with_phases, named, pair_of, pair}
use Rattle.fi_parts.proofs.Queues.{has_pushed}
use Rattle.fi_parts.proofs.Waiting.{named-other, phase-with_phase, phase-with_phase_other, asks-with_phase, live_if_registered}
use Rattle.fi_parts.specs.Deadlines.{NeverFall, expiry_of, is_entered, is_due, NoneHasPair, TellsExpired, told_due, IsLeastDue, NoneDue}

module _ {W : Type 0} where
  pub entered_if_due : (now : ℕ) (side : Waiters ℕ W) (name : ℕ) → is_due now side name ≡ true → is_entered side name ≡ true
  entered_if_due now side name is = (and_parts (is_entered side name) (nat_le (expiry_of side name) now) is).0

  -- the same futures, one of them told
  abbrev told_in : Waiters ℕ W → ℕ → Waiters ℕ W
  told_in side name = record side { live = with_phase side.live name Told }

  same_expiries : (side : Waiters ℕ W) (name : ℕ) → expiry_of (told_in side name) ≡ expiry_of side
  same_expiries side name = λ i q. unwrap_or (asks-with_phase side.live name Told q i) 0

  pub told_now : (side : Waiters ℕ W) (name : ℕ) → is_entered side name ≡ true → is_entered (told_in side name) name ≡ false
  told_now side name is = ap is_registered (phase-with_phase side.live name Told (live_if_registered side name is))

  pub told_other : (side : Waiters ℕ W) (name q : ℕ) → q ≢ name → is_entered (told_in side name) q ≡ is_entered side q
  told_other side name q ne = ap is_registered (phase-with_phase_other side.live name Told q ne)

  due_other : (now : ℕ) (side : Waiters ℕ W) (name q : ℕ) → q ≢ name → is_due now (told_in side name) q ≡ is_due now side q
  due_other now side name q ne = λ i. told_other side name q ne i && nat_le (same_expiries side name i q) now

  not_due : (now : ℕ) (side : Waiters ℕ W) (name : ℕ) → is_entered side name ≡ true → is_due now (told_in side name) name ≡ false
  not_due now side name is = ap (λ b. b && nat_le (expiry_of (told_in side name) name) now) (told_now side name is)

  pub told-step : (old : Waiting ℕ W) (name : ℕ) (due : List ℕ) → holds name due ≡ false →
      notified Told due old.side.queue (told_due old name) ≡ notified Told (name ∷ due) old.side.queue old
  unfolding named with_phases
  told-step old name due off =
      let out : (old.out ++ pair old.side name) ++ named (with_phase old.side.live name Told) due ≡
      old.out ++ named old.side.live (name ∷ due) =
      append_assoc old.out (pair old.side name) _ ∙
      ap (λ ps. old.out ++ (pair old.side name ++ ps)) (named-other old.side.live name Told due off) in
      λ i. record { side = record old.side { live = with_phases (with_phase old.side.live name Told) due Told }; out = out i }

  pub tells-first : (now : ℕ) (old new : Waiting ℕ W) (name : ℕ) → IsLeastDue now old.side name →
      TellsExpired now (told_due old name) new → TellsExpired now old new
  tells-first now old new name first rest =
      let due = rest.0 in
      let entered = entered_if_due now old.side name first.due in
      let off : holds name due ≡ false = rest.1.exactly name ∙ not_due now old.side name entered in (
        name ∷ due,
        record {
          exactly = λ q. grind (arith, cases_eq q name, first.due, rest.1.exactly q, due_other now old.side name q);
          once = (off, rest.1.once);
          in_order = (
            λ later at. first.least later (entered_before later (λ same. both_ways _ off (ap (λ k. holds k due) (sym same) ∙ at))
                (sym (rest.1.exactly later) ∙ at)),
            subst (λ (expiry : ℕ → ℕ). NeverFall expiry due) (same_expiries old.side name) rest.1.in_order,
          );
        },
        rest.2 ∙ told-step old name due off,
      )
    where
      entered_before : (q : ℕ) → q ≢ name → is_due now (told_in old.side name) q ≡ true → is_entered old.side q ≡ true
      entered_before q ne is = sym (told_other old.side name q ne) ∙ entered_if_due now (told_in old.side name) q is

  pub tells-none : (now : ℕ) (old new : Waiting ℕ W) → NoneDue now old.side → new ≡ old → TellsExpired now old new
  unfolding named with_phases
  tells-none now old new none is = (
    [],
    record { exactly = λ q. sym (none q); once = tt; in_order = tt },
    is ∙
        (λ i. record { side = old.side; out = sym (append-nil old.out) i }),
  )

  -- one told is named, and the others registered have no pair yet
  pub no_pair-told : (old : Waiting ℕ W) (name : ℕ) → is_entered old.side name ≡ true → NoneHasPair old → NoneHasPair (told_due old name)
  no_pair-told old name is none q entered =
      let ne : q ≢ name = λ same. both_ways _ (told_now old.side name is) (ap (is_entered (told_in old.side name)) (sym same) ∙ entered) in
      pushed (phase_of old.side name) q ne (none q (sym (told_other old.side name q ne) ∙ entered))
    where
      pushed : (p : Option (Phase W)) (q : ℕ) → q ≢ name → has q old.out ≡ false → has q (old.out ++ pair_of name p) ≡ false
      pushed (Some (Registered w)) q ne off = has_pushed q old.out name w ∙ ap (λ b. b || has q old.out) (ne_eqb q name ne) ∙ off
      pushed p q ne off = ap (has q) (append-nil old.out) ∙ off
