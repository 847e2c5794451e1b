-- What a receive of a state was given, as an answer.
use Rattle.std.specs.Prelude.{ℕ, Option, Some, None, Result, Ok, Err}
use Rattle.fi_parts.specs.declared.errors.Fault.{Fault}
use Rattle.fi_run.specs.declared.answer.Answer.{Answer}
use Rattle.fi_run.specs.declared.answer.Answer.TheVariants.{State, Nothing, Refused}

abbrev pub answer_of : {T W : Type 0} → Result (Option (ℕ × T)) Fault → Answer T W
answer_of (Ok (Some state)) = State state.0 state.1
answer_of (Ok None) = Nothing
answer_of (Err fault) = Refused fault
