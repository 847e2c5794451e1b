-- How sends and receives are told apart by a number.
use Rattle.std.specs.Prelude.{◌≡◌, ◌⊎◌, ℕ, refl}
use Rattle.std.proofs.Common.{inl, inr}
use Rattle.std.specs.Coded.{Coded, code_by, coded⊎, coded_ℕ}
use Rattle.fi_channels.specs.declared.channel.two_sides.Waiter.{Waiter}
use Rattle.fi_channels.specs.declared.channel.two_sides.Waiter.TheVariants.{Send, Receive}

abbrev waiter_cases : Waiter → ℕ ⊎ ℕ
waiter_cases (Send slot) = inl slot
waiter_cases (Receive slot) = inr slot

abbrev waiter_from : ℕ ⊎ ℕ → Waiter
waiter_from (inl slot) = Send slot
waiter_from (inr slot) = Receive slot

pub waiter_back : (w : Waiter) → waiter_from (waiter_cases w) ≡ w
waiter_back (Send slot) = refl
waiter_back (Receive slot) = refl

abbrev pub waiter_code : Coded Waiter
waiter_code = code_by (ℕ ⊎ ℕ) (coded⊎ coded_ℕ coded_ℕ) waiter_cases waiter_from waiter_back
