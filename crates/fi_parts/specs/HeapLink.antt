-- A slot or none in one word: zero is none, and a number one above a slot is that slot.
use Rattle.std.specs.Prelude.{ℕ, zero, suc, Option, Some, None}

abbrev pub link_of : ℕ → Option ℕ
link_of zero = None
link_of (suc n) = Some n

abbrev pub word_of : Option ℕ → ℕ
word_of None = zero
word_of (Some n) = suc n
