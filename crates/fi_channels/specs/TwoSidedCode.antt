-- How machines with sends and receives are told apart by a number.
use Rattle.std.specs.Prelude.{List, refl}
use Rattle.std.specs.Coded.{Coded, code_by, coded×, coded_list}
use Rattle.fi_parts.specs.Codes.{waiters_code}
use Rattle.fi_channels.specs.WaiterCode.{waiter_code}
use Rattle.fi_parts.specs.Waiting.{Waiters}
use Rattle.fi_channels.specs.declared.channel.two_sides.Waiter.{Waiter}
use Rattle.fi_channels.specs.TwoSidesModel.{TwoSidesModel}
use Rattle.fi_channels.specs.TwoSidedMachine.{TwoSidedMachine}

module _ {D E W : Type 0} where
  abbrev pub two_sides_code : Coded D → Coded E → Coded W → Coded (TwoSidesModel D E W)
  two_sides_code d e w =
      code_by (Waiters D W × (Waiters E W × List (Waiter × W)))
      (coded× (waiters_code d w) (coded× (waiters_code e w) (coded_list (coded× waiter_code w))))
      (λ s. (s.sends, (s.receives, s.out))) (λ p. record { sends = p.0; receives = p.1.0; out = p.1.1 }) (λ _. refl)

abbrev pub two_sided_code : {S D E W : Type 0} → Coded S → Coded D → Coded E → Coded W → Coded (TwoSidedMachine S D E W)
two_sided_code {S} {D} {E} {W} s d e w = code_by (S × TwoSidesModel D E W) (coded× s (two_sides_code d e w))
    (λ m. (m.own, m.waiting)) (λ p. record { own = p.0; waiting = p.1 }) (λ _. refl)
