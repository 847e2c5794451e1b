use Rattle.std.specs.Prelude.{option_copied}
use Rattle.std.proofs.Common.{arith, rules, refl, ◌∙◌}
use Rattle.std.proofs.lemmas.Grind.{common_steps}
use Rattle.fi_scripts.specs.InUse.{labels_of}
use Rattle.fi_scripts.specs.Labels.{code_of}
use Rattle.fi_scripts.specs.Language.{spoken}
use Rattle.fi_scripts.specs.Outputs.{on_its_way}
use Rattle.fi_scripts.proofs.Bytes.{appends_none}
use Rattle.fi_scripts.proofs.Cuts.{line_shortens}
use Rattle.fi_scripts.proofs.Answered.{so_far_goes_on, rest_answered, front_answered, beginning_answered, if_stopped_more, if_err_same}
use Rattle.fi_scripts.proofs.engine.answer_lines.Goals as goal

pub loop-line-init : goal.loop-line-init
loop-line-init g c = (
  first_of (search rules, grind (arith, common_steps)),
  (
    c.in-Ok.primitive,
    labels_of c.in-Ok-new.futures,
    c.in-Ok.ensures.opened,
    (λ word. c.in-Ok-new.ensures.empty (code_of word)),
    λ more end after last later left are answered goes. (more, later, are, answered, goes, omega arith),
  ),
  refl,
)

pub loop-line-preserved : goal.loop-line-preserved
loop-line-preserved g c = (
  omega (arith, c.loop-line.invariant.0, line_shortens _ _ _ c.in-Some.ensures),
  so_far_goes_on (spoken g.P.Primitive.opens g.P.Primitive.step g.P.Primitive.outgoing g.P.Scripted.openings g.P.ScriptLines.call_of)
      g.W.Write.contents
      c.args.opening
      (option_copied c.args.lines.rest) c.args.output.now
      c.loop-line.number (option_copied c.loop-line.lines.rest) (labels_of c.loop-line.session.futures)
      c.loop-line.session.primitive c.loop-line.output c.in-Some.line.now
      (option_copied c.line.new.self.rest) (labels_of c.answer_line.new.self.futures) c.answer_line.new.self.primitive
      c.answer_line.new.output c.loop-line.invariant.1 c.in-Some.ensures c.in_ok-answer_line.ensures.answered,
  c.answer_line.ensures.same_writer ∙ c.loop-line.invariant.2,
)

pub returns-in_err-answer_line : goal.returns-in_err-answer_line
returns-in_err-answer_line g c = record {
  answered = search rules;
  stopped =
      let primitive = spoken g.P.Primitive.opens g.P.Primitive.step g.P.Primitive.outgoing g.P.Scripted.openings g.P.ScriptLines.call_of in
      if_err_same c.from_residual.result _ c.in_err-answer_line.field-0.0 c.from_residual.ensures.1
      (if_stopped_more _ _ _ _ c.in_err-answer_line.field-0.0 c.in_err-answer_line.ensures.stopped
      (λ number told. rw told.0
      (front_answered primitive g.W.Write.contents c.args.opening (option_copied c.args.lines.rest) c.args.output.now
      c.loop-line.number (option_copied c.loop-line.lines.rest) (labels_of c.loop-line.session.futures)
      c.loop-line.session.primitive c.loop-line.output c.answer_line.new.output c.loop-line.invariant.1 told.2
      c.in-Some.line.now _ c.in-Some.ensures told.1))
      (λ stays.
      beginning_answered primitive g.W.Write.contents c.args.opening (option_copied c.args.lines.rest) c.args.output.now
      c.loop-line.number (option_copied c.loop-line.lines.rest) (labels_of c.loop-line.session.futures)
      c.loop-line.session.primitive c.loop-line.output c.answer_line.new.output c.loop-line.invariant.1 stays));
  same_writer = c.answer_line.ensures.same_writer ∙ c.loop-line.invariant.2;
}

pub returns : goal.returns
returns g c = record {
  answered =
      rest_answered (spoken g.P.Primitive.opens g.P.Primitive.step g.P.Primitive.outgoing g.P.Scripted.openings g.P.ScriptLines.call_of)
      g.W.Write.contents c.args.opening (option_copied c.args.lines.rest) c.args.output.now
      c.loop-line.number (option_copied c.loop-line.lines.rest) (labels_of c.loop-line.session.futures)
      c.loop-line.session.primitive c.loop-line.output c.loop-line.output c.loop-line.invariant.1
      (appends_none (on_its_way g.W.Write.contents c.loop-line.output)) _ c.in_default.ensures;
  stopped = tt;
  same_writer = c.loop-line.invariant.2;
}
