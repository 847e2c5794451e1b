use Rattle.std.proofs.Common.{arith, ◌≡◌, ◌++◌, List, [], ◌∷◌, subst, sym, append_assoc}
use Rattle.std.proofs.lemmas.Grind.{common_steps}
use Rattle.std.specs.Vec.Iter.{into_iter_items}
use Rattle.fi_run.specs.Run.{Answers}
use Rattle.fi_run.proofs.RunLemmas.{answers_more}
use Rattle.fi_run.proofs.runs.run.Goals as goal

pub loop-call-preserved : goal.loop-call-preserved
loop-call-preserved g c =
    let pushed : c.push.new.self.items ≡ c.loop-call.out.items ++ c.apply-answer.result ∷ [] = grind (arith, common_steps) in
    record {
      answered = subst
          (λ (items : List g.row.P-Answer.Denot). Answers g.P.Primitive.step g.P.Primitive.history_invariant c.args.primitive.now
          (c.loop-call.yielded ++ c.in-Some.call ∷ []) c.args.out.now.items items c.apply-answer.new.self)
          (sym pushed)
          (answers_more g.P.Primitive.step g.P.Primitive.history_invariant c.args.primitive.now c.loop-call.yielded c.args.out.now.items
          c.loop-call.out.items c.loop-call.primitive
          c.in-Some.call c.apply-answer.result c.apply-answer.new.self
          (λ first history was. g.met.P.Primitive.history_preserved first history c.loop-call.primitive c.in-Some.call
          c.apply-answer.result c.apply-answer.new.self
          c.loop-call.invariant.kept.0 c.loop-call.invariant.kept.1 was c.apply-answer.ensures)
          c.loop-call.invariant.answered c.apply-answer.ensures);
      kept = g.met.P.Primitive.keeps c.loop-call.primitive c.in-Some.call c.apply-answer.result c.apply-answer.new.self
          c.loop-call.invariant.kept.0 c.loop-call.invariant.kept.1 c.apply-answer.ensures;
      left = grind (
        arith,
        common_steps,
        c.loop-call.invariant.left,
        c.in-Some.ensures.steps.0,
        append_assoc c.loop-call.yielded
            (c.in-Some.call ∷ []) (into_iter_items c.next.new.self),
      );
    }
