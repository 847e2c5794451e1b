-- How a pool's machine is told apart from others by a number.
use Rattle.std.specs.Prelude.{ℕ, refl}
use Rattle.std.specs.Coded.{Coded, code_by, coded×, coded_ℕ}
use Rattle.fi_channels.specs.ChannelWords.{Buffered}
use Rattle.fi_channels.specs.ChannelCode.{buffered_code}
use Rattle.fi_channels.specs.Event.{EventMachine}
use Rattle.fi_channels.specs.EventCode.{event_code}
use Rattle.fi_desk.specs.Pool.{PoolMachine}

abbrev pub pool_code : {W : Type 0} → Coded W → Coded (PoolMachine W)
pool_code {W} w = code_by (Buffered ℕ × (ℕ × (ℕ × EventMachine W)))
    (coded× (buffered_code coded_ℕ) (coded× coded_ℕ (coded× coded_ℕ (event_code w))))
    (λ p. (p.jobs, (p.limit, (p.running, p.drained))))
    (λ p. record { jobs = p.0; limit = p.1.0; running = p.1.1.0; drained = p.1.1.1 }) (λ _. refl)
