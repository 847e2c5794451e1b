-- How a machine is told apart from others by a number.
use Rattle.std.specs.Prelude.{refl}
use Rattle.std.specs.Coded.{Coded, code_by, coded×}
use Rattle.fi_parts.specs.Codes.{waiting_code}
use Rattle.fi_parts.specs.Waiting.{Waiting}
use Rattle.fi_parts.specs.Machine.{Machine}

abbrev pub machine_code : {S D W : Type 0} → Coded S → Coded D → Coded W → Coded (Machine S D W)
machine_code {S} {D} {W} s d w =
    code_by (S × Waiting D W) (coded× s (waiting_code d w)) (λ m. (m.own, m.waiting)) (λ p. record { own = p.0; waiting = p.1 }) (λ _. refl)
