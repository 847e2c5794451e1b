use Rattle.std.specs.Prelude.{Option, None, IfSome}
use Rattle.std.proofs.Common.{◌≡◌, subst, sym}
use Rattle.fi_run.specs.declared.script.row.Row.{Row}
use Rattle.fi_scripts.proofs.Reading.{no_call}
use Rattle.fi_scripts.proofs.requests.Labelled+MadeFuture.read_call.Goals as goal

pub returns-in_err-row : goal.returns-in_err-row
returns-in_err-row g c =
    let call_of = g.P.ScriptLines.call_of in
    rw c.from_residual-in_err-row.ensures
    (no_call call_of _ c.args.line.now _ c.in_ok-words.ensures.0 _ _ c.in_ok-words.ensures.1
    (c.row.ensures c.in_ok-words.ensures.0 c.in_ok-words.ensures.2)
    (subst (λ (row : Option Row). IfSome row (λ one. call_of one ≡ None)) (sym c.in_err-row.was) tt))

pub returns-in_err-call : goal.returns-in_err-call
returns-in_err-call g c =
    let call_of = g.P.ScriptLines.call_of in
    rw c.from_residual-in_err-call.ensures
    (no_call call_of _ c.args.line.now _ c.in_ok-words.ensures.0 _ _ c.in_ok-words.ensures.1
    (c.row.ensures c.in_ok-words.ensures.0 c.in_ok-words.ensures.2)
    (subst (λ (row : Option Row). IfSome row (λ one. call_of one ≡ None)) (sym c.in_ok-row.was)
    (sym c.in_err-call.ensures)))
