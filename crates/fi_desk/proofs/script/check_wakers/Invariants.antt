use Rattle.std.proofs.Common.{◌<◌, ℕ}
use Rattle.fi_desk.specs.ScriptWakers.{IsFollowed}
use Rattle.fi_desk.proofs.script.check_wakers.Given as goal

abbrev pub invariant-loop-number : goal.invariant-loop-number
invariant-loop-number g l = (number : ℕ) → number < l.number → IsFollowed l.fn.history number
