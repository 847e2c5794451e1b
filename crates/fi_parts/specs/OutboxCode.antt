-- How an outbox is told apart from others by a number.
use Rattle.std.specs.Prelude.{ℕ, List, refl}
use Rattle.std.specs.Coded.{Coded, code_by, coded×, coded_ℕ, coded_list}
use Rattle.std.specs.Ordering.{nat_cmp}
use Rattle.std.specs.FinSet as set
use Rattle.fi_parts.specs.Pairs.{OutboxModel}

abbrev pub outbox_code : {W : Type 0} → Coded W → Coded (OutboxModel W)
outbox_code {W} code =
    code_by
    (set.FinSet nat_cmp × (List (ℕ × W) × ℕ))
    (coded× (set.code coded_ℕ) (coded× (coded_list (coded× coded_ℕ code)) coded_ℕ))
    (λ b. (b.tickets, (b.pairs, b.visits)))
    (λ p. record { tickets = p.0; pairs = p.1.0; visits = p.1.1 })
    (λ _. refl)
