use Rattle.std.specs.Prelude.{true}
use Rattle.std.proofs.Common.{ap, ◌∙◌}
use Rattle.fi_scripts.specs.InUse.{labels_of}
use Rattle.fi_scripts.specs.Language.{spoken}
use Rattle.fi_scripts.specs.Texts.{answer_text, wakes_text}
use Rattle.std.proofs.lemmas.Result.{on_ok_weaker}
use Rattle.fi_scripts.proofs.Answered.{held_line, told_line, called_by, held_answer, told_answer}
use Rattle.fi_scripts.proofs.engine.Session.collect_answer.Goals.{then-not-holds+in_ok-write_wakes, else-not-holds}
use Rattle.fi_scripts.proofs.engine.Session.collect_answer.Goals as goal

pub returns-clause-answered : goal.returns-clause-answered
returns-clause-answered g c =
    let primitive = spoken g.P.Primitive.opens g.P.Primitive.step g.P.Primitive.outgoing g.P.Scripted.openings g.P.ScriptLines.call_of in
    let text = answer_text c.in_ok-answer.answer in
    let called = c.perform.new.self in
    let calls = called_by primitive c.args.line.now c.in-Some.holds c.in-Some.request
    (labels_of c.args.self.now.futures) (labels_of called.futures) c.args.self.now.primitive called.primitive
    c.in_ok-answer.answer c.in-Some.ensures c.in_ok-answer.ensures.answered in
    on_ok_weaker c.put_byte.result (λ last.
    elim c.if-not-holds.branch [
      | then-not-holds+in_ok-write_wakes w ↦
          let written = told_line g.W.Write.contents c.args.output.now c.write_answer.new.output
          w.write_wakes.new.output c.put_byte.new.self text
          (wakes_text true (g.P.Primitive.outgoing.wakers called.primitive)) c.in_ok-write_answer.ensures.text
          w.in_ok-write_wakes.ensures.text (rw w.output-is at last) in (
            written.0,
            told_answer primitive _ written.0 _ _ (labels_of called.futures) (labels_of c.if-not-holds.self.futures) _
                called.primitive c.if-not-holds.self.primitive c.in_ok-answer.answer calls w.if-not-holds.true
                (ap (λ s. labels_of s.futures) w.self-is ∙ ap labels_of w.in_ok-write_wakes.ensures.futures)
                (ap (λ s. g.P.Primitive.outgoing.wakers s.primitive) w.self-is ∙ w.in_ok-write_wakes.ensures.emptied)
                (ap (λ s. g.P.Primitive.outgoing.without_wakers s.primitive)
                w.self-is ∙ w.in_ok-write_wakes.ensures.rest) written.1,
            written.2,
          )
      | else-not-holds w ↦
          let written = held_line g.W.Write.contents c.args.output.now c.write_answer.new.output c.put_byte.new.self
          text c.in_ok-write_answer.ensures.text (rw w.output-is at last) in (
            written.0,
            held_answer primitive _ written.0 _ _ (labels_of called.futures) (labels_of c.if-not-holds.self.futures) _
                called.primitive c.if-not-holds.self.primitive c.in_ok-answer.answer calls w.if-not-holds.false
                (ap (λ s. labels_of s.futures) w.self-is) (ap (λ s. s.primitive) w.self-is) written.1,
            written.2,
          )
    ]) c.put_byte.ensures.byte
