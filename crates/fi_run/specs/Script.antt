-- Which answers have no line in a script.
use Rattle.std.specs.Prelude.{Bool, true, false}
use Rattle.fi_run.specs.declared.answer.Answer.{Answer}
use Rattle.fi_run.specs.declared.answer.Answer.TheVariants.{Refused, Back}
use Rattle.fi_parts.specs.declared.errors.Fault.TheVariants.{NoMemory, NoSlot}

-- the answer of a call that changed nothing and has no line
abbrev pub is_left_out : {T W : Type 0} → Answer T W → Bool
is_left_out (Refused NoMemory) = true
is_left_out (Refused NoSlot) = true
is_left_out (Back value NoMemory) = true
is_left_out answer = false
