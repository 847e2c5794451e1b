use Rattle.std.proofs.Common.{◌+◌, ◌≤◌, length, take, drop, arith, sym, subst}
use Rattle.std.proofs.lemmas.List.{take_rest}
use Rattle.std.proofs.lemmas.Grind.{common_steps}
use Rattle.std.specs.Io.KnownBytes.{Appends}
use Rattle.fi_scripts.proofs.Begun.{begins_nothing, begins_stays}
use Rattle.fi_scripts.proofs.Bytes.{take_plus, appends_twice}
use Rattle.fi_scripts.proofs.output.write_whole.Goals as goal

pub loop-written-preserved : goal.loop-written-preserved
loop-written-preserved g c =
    let bytes = c.args.bytes.now in
    let before = c.loop-written.written in
    let more = take_rest bytes before in
    let room : before + c.in-Ok.count ≤ length bytes = grind (arith, common_steps) in
    let wrote : Appends (g.W.Write.contents c.loop-written.writer) (g.W.Write.contents c.write.new.self)
    (take c.in-Ok.count (drop before bytes)) =
    subst (λ xs. Appends (g.W.Write.contents c.loop-written.writer) (g.W.Write.contents c.write.new.self)
    (take c.in-Ok.count xs)) more c.in-Ok.ensures.bytes in (
      room,
      subst (Appends (g.W.Write.contents c.args.writer.now) (g.W.Write.contents c.write.new.self))
          (sym (take_plus before c.in-Ok.count bytes))
          (appends_twice _ _ _ _ _ c.loop-written.invariant.1 wrote),
    )

pub returns-in-Ok-eq0-clause-begun : goal.returns-in-Ok-eq0-clause-begun
returns-in-Ok-eq0-clause-begun g c =
    begins_nothing (g.W.Write.contents c.args.writer.now) (g.W.Write.contents c.loop-written.writer)
    (g.W.Write.contents c.write.new.self) c.loop-written.written c.args.bytes.now _
    c.in-Ok-eq0.field-0 c.loop-written.invariant.1 c.in-Ok-eq0.ensures.bytes (omega arith)

pub returns-in-Err-clause-begun : goal.returns-in-Err-clause-begun
returns-in-Err-clause-begun g c =
    begins_stays (g.W.Write.contents c.args.writer.now) (g.W.Write.contents c.loop-written.writer)
    (g.W.Write.contents c.write.new.self) c.loop-written.written c.args.bytes.now
    c.loop-written.invariant.1 c.in-Err.ensures.bytes
