-- Sends and receives are the two sides.
use Rattle.std.specs.Prelude.{◌≡◌, ℕ, eqb, ◌||◌, List, [], ◌∷◌, ◌++◌, refl}
use Rattle.std.proofs.Common.{ap, inl, inr}
use Rattle.fi_parts.specs.NamedPairs.{has_by}
use Rattle.fi_parts.specs.Pairs.{has}
use Rattle.fi_channels.specs.SideView.{IsSide, sends_side, receives_side}
use Rattle.fi_channels.specs.Waiter.{same_waiter, of_sends, of_receives, sends_in, receives_in}
use Rattle.fi_channels.specs.declared.channel.two_sides.Waiter.{Waiter}
use Rattle.fi_channels.specs.declared.channel.two_sides.Waiter.TheVariants.{Send, Receive}

module _ {W : Type 0} where
  pub has-sends : (n : ℕ) (out : List (Waiter × W)) → has_by same_waiter (Send n) out ≡ has n (sends_in out)
  has-sends n [] = refl
  has-sends n ((Send m, w) ∷ ps) = ap (λ b. eqb n m || b) (has-sends n ps)
  has-sends n ((Receive m, w) ∷ ps) = has-sends n ps

  pub has-receives : (n : ℕ) (out : List (Waiter × W)) → has_by same_waiter (Receive n) out ≡ has n (receives_in out)
  has-receives n [] = refl
  has-receives n ((Send m, w) ∷ ps) = has-receives n ps
  has-receives n ((Receive m, w) ∷ ps) = ap (λ b. eqb n m || b) (has-receives n ps)

  pub sends-and_sends : (out : List (Waiter × W)) (ps : List (ℕ × W)) →
      sends_in (out ++ of_sends ps) ≡ sends_in out ++ ps
  sends-and_sends [] [] = refl
  sends-and_sends [] (p ∷ ps) = ap (λ qs. p ∷ qs) (sends-and_sends [] ps)
  sends-and_sends ((Send m, w) ∷ out) ps = ap (λ qs. (m, w) ∷ qs) (sends-and_sends out ps)
  sends-and_sends ((Receive m, w) ∷ out) ps = sends-and_sends out ps

  pub receives-and_receives : (out : List (Waiter × W)) (ps : List (ℕ × W)) →
      receives_in (out ++ of_receives ps) ≡ receives_in out ++ ps
  receives-and_receives [] [] = refl
  receives-and_receives [] (p ∷ ps) = ap (λ qs. p ∷ qs) (receives-and_receives [] ps)
  receives-and_receives ((Receive m, w) ∷ out) ps = ap (λ qs. (m, w) ∷ qs) (receives-and_receives out ps)
  receives-and_receives ((Send m, w) ∷ out) ps = receives-and_receives out ps

module _ {D E W : Type 0} where
  pub sends_are_a_side : IsSide (sends_side {D = D} {E = E} {W = W})
  sends_are_a_side = record {
    seen = λ wait_queues box. refl;
    seen_with = λ wait_queues wait_queue box after. refl;
    its_ticket = λ wait_queues slot. refl;
    new_ticket = λ wait_queues wait_queue slot. refl;
    others = λ wait_queues wait_queue. elim [ (Send slot) ↦ inl (slot, refl) | (Receive slot) ↦ inr refl ];
    put_in = λ both side out. refl;
    put_out = λ both side out. refl;
    put_again = λ both side next out last. refl;
    put_back = λ both. refl;
    has = has-sends;
    added = sends-and_sends;
  }

  pub receives_are_a_side : IsSide (receives_side {D = D} {E = E} {W = W})
  receives_are_a_side = record {
    seen = λ wait_queues box. refl;
    seen_with = λ wait_queues wait_queue box after. refl;
    its_ticket = λ wait_queues slot. refl;
    new_ticket = λ wait_queues wait_queue slot. refl;
    others = λ wait_queues wait_queue. elim [ (Send slot) ↦ inr refl | (Receive slot) ↦ inl (slot, refl) ];
    put_in = λ both side out. refl;
    put_out = λ both side out. refl;
    put_again = λ both side next out last. refl;
    put_back = λ both. refl;
    has = has-receives;
    added = receives-and_receives;
  }
