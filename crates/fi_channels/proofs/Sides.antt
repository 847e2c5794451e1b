-- The pairs of one side among those of both.
use Rattle.std.proofs.Common.{◌≡◌, ℕ, true, List, [], ◌∷◌, ◌++◌, None, refl, ap, arith}
use Rattle.std.proofs.lemmas.Bool.{cases_eq, eqb-true, eq-eqb}
use Rattle.std.specs.Ordering.{nat_cmp}
use Rattle.std.specs.FinMap as finmap
use Rattle.std.specs.FinSet as set
use Rattle.fi_parts.specs.Tied.{IsTied}
use Rattle.fi_parts.specs.Pairs.{without_pair}
use Rattle.fi_channels.specs.declared.channel.two_sides.Waiter.{Waiter}
use Rattle.fi_channels.specs.declared.channel.two_sides.Waiter.TheVariants.{Send, Receive}
use Rattle.fi_parts.specs.NamedPairs.{IsNameTest, without_by}
use Rattle.fi_channels.specs.Waiter.{same_waiter, ticket_of_waiter, of_sends, of_receives, sends_in, receives_in}
use Rattle.fi_parts.proofs.Tied.{tied_empty}

is_same : (a b : Waiter) → same_waiter a b ≡ true → a ≡ b
is_same (Send a) (Send b) e = ap Send (eqb-true a b e)
is_same (Receive a) (Receive b) e = ap Receive (eqb-true a b e)
is_same (Send a) (Receive b) e = cc
is_same (Receive a) (Send b) e = cc

same_as : (a : Waiter) → same_waiter a a ≡ true
same_as (Send a) = eq-eqb a a refl
same_as (Receive a) = eq-eqb a a refl

pub waiter_test : IsNameTest same_waiter
waiter_test = record { is_same = is_same; same_as = same_as }

module _ {W : Type 0} where
  pub sends-without : (n : ℕ) (out : List (Waiter × W)) →
      sends_in (without_by same_waiter (Send n) out) ≡ without_pair n (sends_in out)
  sends-without n [] = refl
  sends-without n ((Send m, w) ∷ ps) = grind (arith, cases_eq n m, sends-without n ps)
  sends-without n ((Receive m, w) ∷ ps) = sends-without n ps

  pub receives-without : (n : ℕ) (out : List (Waiter × W)) →
      receives_in (without_by same_waiter (Receive n) out) ≡ without_pair n (receives_in out)
  receives-without n [] = refl
  receives-without n ((Receive m, w) ∷ ps) = grind (arith, cases_eq n m, receives-without n ps)
  receives-without n ((Send m, w) ∷ ps) = receives-without n ps

  pub receives-without_send : (n : ℕ) (out : List (Waiter × W)) →
      receives_in (without_by same_waiter (Send n) out) ≡ receives_in out
  receives-without_send n [] = refl
  receives-without_send n ((Send m, w) ∷ ps) = grind (arith, cases_eq n m, receives-without_send n ps)
  receives-without_send n ((Receive m, w) ∷ ps) = ap (λ qs. (m, w) ∷ qs) (receives-without_send n ps)

  pub sends-without_receive : (n : ℕ) (out : List (Waiter × W)) →
      sends_in (without_by same_waiter (Receive n) out) ≡ sends_in out
  sends-without_receive n [] = refl
  sends-without_receive n ((Receive m, w) ∷ ps) = grind (arith, cases_eq n m, sends-without_receive n ps)
  sends-without_receive n ((Send m, w) ∷ ps) = ap (λ qs. (m, w) ∷ qs) (sends-without_receive n ps)

  pub receives-and_sends : (out : List (Waiter × W)) (ps : List (ℕ × W)) →
      receives_in (out ++ of_sends ps) ≡ receives_in out
  receives-and_sends [] [] = refl
  receives-and_sends [] (p ∷ ps) = receives-and_sends [] ps
  receives-and_sends ((Receive m, w) ∷ out) ps = ap (λ qs. (m, w) ∷ qs) (receives-and_sends out ps)
  receives-and_sends ((Send m, w) ∷ out) ps = receives-and_sends out ps

  pub sends-and_receives : (out : List (Waiter × W)) (ps : List (ℕ × W)) →
      sends_in (out ++ of_receives ps) ≡ sends_in out
  sends-and_receives [] [] = refl
  sends-and_receives [] (p ∷ ps) = sends-and_receives [] ps
  sends-and_receives ((Send m, w) ∷ out) ps = ap (λ qs. (m, w) ∷ qs) (sends-and_receives out ps)
  sends-and_receives ((Receive m, w) ∷ out) ps = sends-and_receives out ps

none_yet : (q : Waiter) → ticket_of_waiter finmap.empty finmap.empty q ≡ None
none_yet (Send n) = finmap.get-empty nat_cmp n
none_yet (Receive n) = finmap.get-empty nat_cmp n

pub no_waiters-tied : (W : Type 0) → IsTied {W = W} (ticket_of_waiter finmap.empty finmap.empty) set.empty []
no_waiters-tied W = tied_empty (ticket_of_waiter finmap.empty finmap.empty) none_yet
