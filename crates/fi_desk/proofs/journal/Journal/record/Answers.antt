use Rattle.std.proofs.lemmas.List.{length-map, map-append}
use Rattle.std.proofs.Common.{rules, arith, ◌≡◌, List, [], ◌∷◌, ◌++◌, ◌∙◌, ap, subst, sym}
use Rattle.std.proofs.lemmas.Grind.{common_steps}
use Rattle.fi_run.specs.Run.{IsRun}
use Rattle.fi_desk.specs.Journal.{calls_of}
use Rattle.fi_run.proofs.RunLemmas.{run_more}
use Rattle.fi_desk.proofs.journal.Journal.record.Goals as goal

pub invariant_of-self-2 : goal.invariant_of-self-2
invariant_of-self-2 g c =
    let pushed : c.push.new.self.items ≡ c.self.inside.history.items ++
    (record { seat = c.args.seat; call = c.args.call; answer = c.apply-answer.result }) ∷ [] =
    grind (arith, common_steps) in
    let calls : calls_of c.push.new.self.items ≡ calls_of c.self.inside.history.items ++ (c.args.call, c.apply-answer.result) ∷ [] =
    ap calls_of pushed ∙ simp map-append in (
      c.self.invariant.0,
      c.self.invariant.1,
      subst (λ (entries : List (g.row.P-Call.Denot × g.row.P-Answer.Denot)). IsRun g.P.Primitive.step c.self.invariant.0 entries
          c.apply-answer.new.self) (sym calls)
          (run_more g.P.Primitive.step c.self.invariant.0 (calls_of c.self.inside.history.items) c.self.inside.state c.args.call
          c.apply-answer.result
          c.apply-answer.new.self c.self.invariant.2 c.apply-answer.ensures),
    )

pub invariant_of-result : goal.invariant_of-result
invariant_of-result g c = ∣ record {
  first = c.self.invariant.0;
  earlier = calls_of c.self.inside.history.items;
  now = c.apply-answer.new.self;
  opened = c.self.invariant.1;
  count = length-map c.self.inside.history.items (λ entry. (entry.call, entry.answer)) ∙ grind (arith, common_steps);
  run = run_more g.P.Primitive.step c.self.invariant.0 (calls_of c.self.inside.history.items) c.self.inside.state c.args.call
      c.apply-answer.result
      c.apply-answer.new.self c.self.invariant.2 c.apply-answer.ensures;
} ∣₁

pub returns-clause-recorded : goal.returns-clause-recorded
returns-clause-recorded g c = search rules

pub returns-clause-receipt : goal.returns-clause-receipt
returns-clause-receipt g c = search rules
