use Rattle.std.proofs.Common.{◌≡◌, ◌+◌, ◌≤◌, ◌^◌}
use Rattle.std.specs.Prelude.{option_copied}
use Rattle.fi_scripts.specs.Language.{spoken}
use Rattle.fi_scripts.specs.InUse.{labels_of}
use Rattle.fi_scripts.proofs.Answered.{IsSoFar}
use Rattle.fi_scripts.proofs.Cuts.{bytes_left}
use Rattle.fi_scripts.proofs.engine.answer_lines.Given as goal

abbrev pub invariant-loop-line : goal.invariant-loop-line
invariant-loop-line g l = (l.number + bytes_left (option_copied l.lines.rest) ≤ 2 ^ 63 + 1)
    × IsSoFar (spoken g.P.Primitive.opens g.P.Primitive.step g.P.Primitive.outgoing g.P.Scripted.openings g.P.ScriptLines.call_of)
    g.W.Write.contents
    l.fn.opening (option_copied l.fn.lines.rest) l.fn.output l.number (option_copied l.lines.rest)
    (labels_of l.session.futures) l.session.primitive l.output
    × (l.output.writer.ghost_name ≡ l.fn.output.writer.ghost_name)

abbrev pub decreases-loop-line : goal.decreases-loop-line
decreases-loop-line g l = bytes_left (option_copied l.lines.rest)
