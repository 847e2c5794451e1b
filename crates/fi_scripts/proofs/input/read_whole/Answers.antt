use Rattle.std.proofs.Common.{◌≡◌, ◌+◌, ◌≤◌, ◌∙◌, take, vec_len, length, arith, ap, sym, subst}
use Rattle.std.proofs.lemmas.Grind.{common_steps}
use Rattle.std.proofs.lemmas.List.{take-take}
use Rattle.std.specs.Io.KnownBytes.{Consumes}
use Rattle.fi_scripts.proofs.Bytes.{read_more, consumes_twice}
use Rattle.fi_scripts.proofs.input.read_whole.Goals as goal
use Rattle.fi_scripts.proofs.input.read_whole.Goals.{then-len-filled-lt-LEAST_ROOM+in_ok-make_room, else-len-filled-lt-LEAST_ROOM}

pub loop-filled-preserved : goal.loop-filled-preserved
loop-filled-preserved g c =
    let before = c.loop-filled.filled in
    let longer = c.if-len-filled-lt-LEAST_ROOM.bytes in
    let room : before + c.in-Ok.count ≤ vec_len longer = grind (arith, common_steps) in
    let same : take before longer.items ≡ take before c.loop-filled.bytes.items = elim c.if-len-filled-lt-LEAST_ROOM.branch [
      | then-len-filled-lt-LEAST_ROOM+in_ok-make_room w ↦
          ap (λ b. take before b.items) w.bytes-is
          ∙ (sym (take-take before (vec_len c.loop-filled.bytes) _ (omega (arith, c.loop-filled.invariant.0)))
          ∙ ap (take before) w.in_ok-make_room.ensures.kept)
      | else-len-filled-lt-LEAST_ROOM w ↦ ap (λ b. take before b.items) w.bytes-is
    ] in
    let kept : take before c.deref_mut.result.now ≡ take before c.loop-filled.bytes.items = ap (take before)
    c.deref_mut.ensures.value ∙ same in
    let some : before ≤ length c.deref_mut.result.now = grind (arith, common_steps) in
    let read = Consumes (g.R.Read.remaining c.args.reader.now) (g.R.Read.remaining c.read.new.self) in (
      room,
      subst read (sym (read_more before c.in-Ok.count longer.len c.deref_mut.result.now c.read.new.buf _ _ some
          c.in-Ok.ensures.bound.0 room))
          (consumes_twice _ _ _ _ _ (subst (Consumes (g.R.Read.remaining c.args.reader.now)
          (g.R.Read.remaining c.loop-filled.reader)) (sym kept) c.loop-filled.invariant.1)
          c.in-Ok.ensures.bytes.0),
    )
