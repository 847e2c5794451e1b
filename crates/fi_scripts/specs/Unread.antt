-- What was not read yet, and how it was answered.
use Rattle.std.specs.Prelude.{ℕ, List, Option, option_copied, Result, OnOk, IfErr}
use Rattle.fi_scripts.specs.Answered.{AnswersRest, RefusesLine, RunsShort, IfStopped}
use Rattle.fi_scripts.specs.Language.{Spoken}
use Rattle.fi_scripts.specs.Outputs.{Tells, SameWriter}
use Rattle.fi_scripts.specs.declared.fault.ScriptFault.{ScriptFault}
use Rattle.fi_scripts.specs.declared.output.Output.{Output}
use Rattle.fi_scripts.specs.declared.words.Lines.{Lines}

-- of a script
abbrev pub lines_left : Lines → Option (List ℕ)
lines_left lines = option_copied lines.rest

-- The primitive was opened as was asked for, and answered all these lines, or those before one that was refused, or those
-- before memory was.
pub record AnswersLeft {S O C W A : Type 0} (primitive : Spoken S O C) (asked : O → Type 0) (rest : Option (List ℕ))
    (contents : W → Option (List ℕ)) (old new : Output W) (result : Result A ScriptFault) : Type 0 where
  pub answered : OnOk result (Tells contents old new (AnswersRest primitive asked rest))
  pub stopped : IfErr result (IfStopped (λ number. Tells contents old new (RefusesLine primitive asked rest number))
      (Tells contents old new (RunsShort primitive asked rest)))
  pub same_writer : SameWriter old new
