use Rattle.std.specs.Prelude.{◌++◌, codes}
use Rattle.std.proofs.Common.{◌≡◌, ℕ, List, subst, ◌∙◌}
use Rattle.std.specs.Fmt.{decimal}
use Rattle.std.specs.Io.KnownBytes.{Appends}
use Rattle.fi_scripts.specs.Begun.{Begins}
use Rattle.fi_scripts.proofs.Begun.{begins_first, begins_second}
use Rattle.fi_scripts.proofs.fault.write_bad_line.Goals as goal

pub returns-in_err-write_whole : goal.returns-in_err-write_whole
returns-in_err-write_whole g c =
    begins_first _ _ (codes "schedule: line ") (decimal c.args.line ++ codes " is bad\n") c.write_whole.ensures.begun

pub returns-in_err-write_whole-2 : goal.returns-in_err-write_whole-2
returns-in_err-write_whole-2 g c =
    let old = g.W.Write.contents c.write_whole.new.writer in
    let new = g.W.Write.contents c.write_whole-2.new.writer in
    let digits : c.as_bytes.result.now ≡ decimal c.args.line = c.as_bytes.ensures.value ∙ c.format.ensures.text in
    begins_second (g.W.Write.contents c.args.writer.now) old new (codes "schedule: line ")
    (decimal c.args.line ++ codes " is bad\n") c.in_ok-write_whole.ensures.written
    (begins_first old new (decimal c.args.line) (codes " is bad\n")
    (subst (λ (ds : List ℕ). Begins old new ds) digits c.write_whole-2.ensures.begun))

pub returns : goal.returns
returns g c =
    let old = g.W.Write.contents c.write_whole.new.writer in
    let new = g.W.Write.contents c.write_whole-2.new.writer in
    let last = g.W.Write.contents c.write_whole-3.new.writer in
    let digits : c.as_bytes.result.now ≡ decimal c.args.line = c.as_bytes.ensures.value ∙ c.format.ensures.text in
    begins_second (g.W.Write.contents c.args.writer.now) old last (codes "schedule: line ")
    (decimal c.args.line ++ codes " is bad\n") c.in_ok-write_whole.ensures.written
    (begins_second old new last (decimal c.args.line) (codes " is bad\n")
    (subst (λ (ds : List ℕ). Appends old new ds) digits c.in_ok-write_whole-2.ensures.written)
    c.write_whole-3.ensures.begun)
