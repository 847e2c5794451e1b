use Rattle.std.specs.Prelude.{option_copied}
use Rattle.fi_scripts.proofs.Script.{script_answered, script_stopped, refused_first}
use Rattle.fi_scripts.proofs.engine.answer_script.Goals as goal

pub returns-in-Some-clause-answered : goal.returns-in-Some-clause-answered
returns-in-Some-clause-answered g c =
    script_answered g.W.Write.contents c.args.script.now c.split_at_first.result.0.now c.split_at_first-2.result.0.now
    (option_copied c.after-lines.result.rest) (option_copied c.split_at_first-2.result.1)
    (rw c.after-lines.ensures c.split_at_first.ensures) c.split_at_first-2.ensures c.args.output.now
    c.answer_named.new.output c.in-Some.named c.in-Some.ensures c.answer_named.result c.answer_named.ensures.answered

pub returns-in-Some-clause-stopped : goal.returns-in-Some-clause-stopped
returns-in-Some-clause-stopped g c =
    script_stopped g.W.Write.contents c.args.script.now c.split_at_first.result.0.now c.split_at_first-2.result.0.now
    (option_copied c.after-lines.result.rest) (option_copied c.split_at_first-2.result.1)
    (rw c.after-lines.ensures c.split_at_first.ensures) c.split_at_first-2.ensures c.args.output.now
    c.answer_named.new.output c.in-Some.named c.in-Some.ensures c.answer_named.result c.answer_named.ensures.stopped

pub returns-in-None-clause-stopped : goal.returns-in-None-clause-stopped
returns-in-None-clause-stopped g c =
    refused_first g.W.Write.contents c.args.script.now c.split_at_first.result.0.now c.split_at_first-2.result.0.now
    (option_copied c.split_at_first.result.1) (option_copied c.split_at_first-2.result.1) c.split_at_first.ensures
    c.split_at_first-2.ensures c.args.output.now c.args.output.now
    c.in-None.ensures (λ i. c.args.output.now)
