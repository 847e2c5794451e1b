use Rattle.std.proofs.Common.{◌≡◌, ◌-◌, ◌<◌, ◌≤◌, ◌^◌, length, take}
use Rattle.std.specs.Str.Parse.{digits_value}
use Rattle.fi_scripts.proofs.FirstWords.{Digits}
use Rattle.fi_scripts.proofs.number.first_number.Given as goal

abbrev pub invariant-loop-end : goal.invariant-loop-end
invariant-loop-end l = (l.number ≡ digits_value 10 (take l.end l.text)) × Digits l.text l.end × (l.number < 2 ^ 64)
    × (l.end ≤ length l.text)

abbrev pub decreases-loop-end : goal.decreases-loop-end
decreases-loop-end l = length l.text - l.end
