-- The labels of futures, and the numbers that stand for them.
use Rattle.std.specs.Prelude.{ℕ, ◌/◌, ◌%◌, ◌^◌, ◌<◌, ◌≤◌, ◌⊎◌, List, All, length, slice_index}
use Rattle.std.specs.Int.{IsInRange}
use Rattle.std.specs.Int.Digits.{number_from_digits}

abbrev pub IsLetter : ℕ → Type 0
IsLetter c = IsInRange 97 122 c

abbrev pub IsLetterOrDigit : ℕ → Type 0
IsLetterOrDigit c = IsLetter c ⊎ IsInRange 48 57 c

-- 1 to 16 letters and digits, the first a letter
abbrev pub IsLabel : List ℕ → Type 0
IsLabel cs = (0 < length cs) × (length cs ≤ 16) × IsLetter (slice_index cs 0) × All IsLetterOrDigit cs

-- the number whose bytes the characters are, the first the most significant
abbrev pub code_of : List ℕ → ℕ
code_of cs = number_from_digits 256 cs
