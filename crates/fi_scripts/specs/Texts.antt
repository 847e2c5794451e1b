-- The texts of answers.
use Rattle.std.specs.Prelude.{ℕ, Bool, List, [], ◌∷◌, ◌++◌, codes, Option, Some, None, true, false}
use Rattle.std.specs.Fmt.{decimal}
use Rattle.fi_parts.specs.declared.errors.Fault.{Fault}
use Rattle.fi_parts.specs.declared.errors.Fault.TheVariants.{NoMemory, NoSlot, Closed, Full, Empty, Overflow, NotHeld, TooManyEnds}
use Rattle.fi_run.specs.declared.answer.Answer.{Answer}
use Rattle.fi_run.specs.declared.answer.Answer.TheVariants.{Made, Pending, Ready, Item, State, Nothing, End, Done, Flag, Number}
use Rattle.fi_run.specs.declared.answer.Answer.TheVariants.{Moment, Newly, Already, Woken, Back, Refused}

-- a refusal's text; one for memory has none, since it ends the run
abbrev pub fault_text : Fault → Option (List ℕ)
fault_text NoMemory = None
fault_text NoSlot = Some (codes "no-slot")
fault_text Closed = Some (codes "closed")
fault_text Full = Some (codes "full")
fault_text Empty = Some (codes "empty")
fault_text Overflow = Some (codes "overflow")
fault_text NotHeld = Some (codes "not-held")
fault_text TooManyEnds = Some (codes "too-many-ends")

-- a text and a number after a space, if there is a text
abbrev pub with_number : Option (List ℕ) → ℕ → Option (List ℕ)
with_number None number = None
with_number (Some text) number = Some (text ++ codes " " ++ decimal number)

abbrev pub answer_text : Answer ℕ ℕ → Option (List ℕ)
answer_text (Made slot) = Some (codes "made")
answer_text Pending = Some (codes "pending")
answer_text Ready = Some (codes "ready")
answer_text (Item value) = with_number (Some (codes "some")) value
answer_text (State id value) = with_number (with_number (Some (codes "some")) id) value
answer_text Nothing = Some (codes "none")
answer_text End = Some (codes "end")
answer_text Done = Some (codes "ok")
answer_text (Flag true) = Some (codes "true")
answer_text (Flag false) = Some (codes "false")
answer_text (Number number) = Some (decimal number)
answer_text (Moment (Some moment)) = with_number (Some (codes "some")) moment
answer_text (Moment None) = Some (codes "none")
answer_text Newly = Some (codes "newly-closed")
answer_text Already = Some (codes "already-closed")
answer_text (Woken waker) = Some (codes "ok")
answer_text (Back value fault) = with_number (fault_text fault) value
answer_text (Refused fault) = fault_text fault

-- a waker's number after a space, the first with the word before it
abbrev pub waker_text : Bool → ℕ → List ℕ
waker_text true waker = codes " wakes " ++ decimal waker
waker_text false waker = codes " " ++ decimal waker

-- all that are named, and nothing where none is
abbrev pub wakes_text : Bool → List ℕ → List ℕ
wakes_text is_first [] = []
wakes_text is_first (waker ∷ wakers) = waker_text is_first waker ++ wakes_text false wakers
