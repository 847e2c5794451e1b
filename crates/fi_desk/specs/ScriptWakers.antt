-- Which histories a script can say: those in which all wakers are taken out where one is.
use Rattle.std.specs.Prelude.{◌≡◌, ◌<◌, ⊤, ℕ, ◌+◌, Bool, true, false, List, length, Option, Some, None, slice_get}
use Rattle.fi_desk.specs.declared.journal.Entry.{Entry}
use Rattle.fi_run.specs.declared.answer.Answer.{Answer}
use Rattle.fi_run.specs.declared.answer.Answer.TheVariants.{Woken}
use Rattle.fi_run.specs.declared.script.ScriptError.{ScriptError}
use Rattle.fi_run.specs.declared.script.ScriptError.TheVariants.{Wakers}

module _ {T W : Type 0} where
  -- the answer of a call for the oldest waker
  abbrev pub is_woken : Answer T W → Bool
  is_woken (Woken waker) = true
  is_woken answer = false

  -- the answer that hands out a waker
  abbrev pub has_waker : Answer T W → Bool
  has_waker (Woken (Some waker)) = true
  has_waker answer = false

module _ {C T W : Type 0} where
  -- The entry is there, and is a call for the oldest waker.
  abbrev pub asks_for_waker : Option (Entry C (Answer T W)) → Bool
  asks_for_waker None = false
  asks_for_waker (Some entry) = is_woken entry.answer

  -- The entry is there, and took out a waker.
  abbrev pub took_waker : Option (Entry C (Answer T W)) → Bool
  took_waker None = false
  took_waker (Some entry) = has_waker entry.answer

  -- If the entry with this number took out a waker, the next one is a call for one more.
  abbrev pub IsFollowed : List (Entry C (Answer T W)) → ℕ → Type 0
  IsFollowed history number = took_waker (slice_get history number) ≡ true → asks_for_waker (slice_get history (number + 1)) ≡ true

  -- So it is of all entries.
  abbrev pub TakesAllWakers : List (Entry C (Answer T W)) → Type 0
  TakesAllWakers history = (number : ℕ) → number < length history → IsFollowed history number

  -- If the error names an entry, it is the first that took out a waker where the next one, if there is one, is no call for one more.
  abbrev pub LeavesWakers : List (Entry C (Answer T W)) → ScriptError → Type 0
  LeavesWakers history (Wakers number) = (took_waker (slice_get history number) ≡ true)
      × (asks_for_waker (slice_get history (number + 1)) ≡ false)
      × ((earlier : ℕ) → earlier < number → IsFollowed history earlier)
  LeavesWakers history error = ⊤
