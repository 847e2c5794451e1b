-- Milliseconds as the clocks count them.
use Rattle.std.specs.Prelude.{ℕ, ◌/◌, ◌-◌, ◌^◌, min}

-- the whole milliseconds in so many nanoseconds, and at most the greatest 64-bit number
abbrev pub whole_millis_in : ℕ → ℕ
whole_millis_in nanos = min (nanos / 1000000) (2 ^ 64 - 1)
