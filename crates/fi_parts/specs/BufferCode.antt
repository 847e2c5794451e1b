-- How a bounded list is told apart from others by a number.
use Rattle.std.specs.Prelude.{ℕ, List, refl}
use Rattle.std.specs.Coded.{Coded, code_by, coded×, coded_list, coded_ℕ}
use Rattle.fi_parts.specs.Buffer.{Bounded}

module _ {T : Type 0} where
  abbrev pub bounded_code : Coded T → Coded (Bounded T)
  bounded_code c = code_by (List T × (ℕ × ℕ)) (coded× (coded_list c) (coded× coded_ℕ coded_ℕ)) (λ b. (b.items, (b.capacity, b.reserved)))
      (λ p. record { items = p.0; capacity = p.1.0; reserved = p.1.1 }) (λ _. refl)
