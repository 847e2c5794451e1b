use Rattle.std.specs.Prelude.{codes}
use Rattle.std.proofs.Common.{◌≢◌, rules, arith}
use Rattle.std.proofs.lemmas.Grind.{common_steps}
use Rattle.fi_scripts.proofs.Reading.{bad_held, bad_line}
use Rattle.fi_scripts.proofs.requests.Labelled+MadeFuture.read.Goals as goal

pub returns-in_err-read_call-in-Some : goal.returns-in_err-read_call-in-Some
returns-in_err-read_call-in-Some g c =
    let not_wakes : c.args.line.now ≢ codes "wakes" = first_of (search rules, grind (arith, common_steps)) in
    rw c.from_residual.ensures (bad_held g.P.ScriptLines.call_of _ c.args.line.now c.in-Some.call.now not_wakes
    c.in-Some.ensures c.in_err-read_call-in-Some.ensures)

pub returns-in_err-read_call-in-None : goal.returns-in_err-read_call-in-None
returns-in_err-read_call-in-None g c =
    let not_wakes : c.args.line.now ≢ codes "wakes" = first_of (search rules, grind (arith, common_steps)) in
    rw c.from_residual-in_err-read_call-in-None.ensures (bad_line g.P.ScriptLines.call_of _ c.args.line.now
    not_wakes c.in-None.ensures c.in_err-read_call-in-None.ensures)

pub returns-in_ok-read_call-in-Some : goal.returns-in_ok-read_call-in-Some
returns-in_ok-read_call-in-Some g c = search rules
