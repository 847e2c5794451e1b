use Rattle.std.proofs.Common.{[]}
use Rattle.fi_run.proofs.RunLemmas.{run_keeps}
use Rattle.fi_run.proofs.runs.every_run.Goals as goal

pub returns-clause-opened : goal.returns-clause-opened
returns-clause-opened g c opening first opened = g.met.P.Primitive.starts opening first opened

pub returns-clause-runs : goal.returns-clause-runs
returns-clause-runs g c first entries now sound no_wake run =
    run_keeps g.P.Primitive.step g.P.Primitive.is_sound g.P.Primitive.owes_no_wake (g.P.Primitive.history_invariant first)
    g.met.P.Primitive.keeps (g.met.P.Primitive.history_preserved first) [] first entries now sound no_wake
    (g.met.P.Primitive.history_initial first) run
