use Rattle.std.proofs.Common.{◌≡◌, suc, ◌-◌, ◌∙◌, subst, arith, refl}
use denote.Param.{param}
use Rattle.fi_parts.proofs.ChunkPlaces.{Pushed, pushed_none, pushed_one, pushed_all, fits_within}
use Rattle.fi_parts.proofs.blocks.owner.push_places.Goals as goal

pub loop-left-init : goal.loop-left-init
loop-left-init g c = (pushed_none (param 0 g.row.T) c.args.stack.now.items c.args.first.ptr c.args.len, c.requires.room, refl, refl)

pub further-requires-clause-fits : goal.further-requires-clause-fits
further-requires-clause-fits g c =
    let so = c.loop-left.invariant.0 in let some = c.loop-left-test.true in let whole = so.whole in
    fits_within (param 0 g.row.T) (c.loop-left.left - 1) so.made c.args.len (omega (arith, some, whole)) c.requires.fits

pub loop-left-preserved : goal.loop-left-preserved
loop-left-preserved g c =
    let some = c.loop-left-test.true in let room = c.loop-left.invariant.1 in let count = c.loop-left.invariant.2 in
    let len = c.push_reserved.ensures.len in let cap = c.push_reserved.ensures.capacity in
    let one : c.loop-left.left ≡ suc (c.loop-left.left - 1) = omega (arith, some) in (
      pushed_one (param 0 g.row.T) c.args.stack.now.items c.args.first.ptr c.args.len (c.loop-left.left - 1) c.loop-left.stack.items
          c.push_reserved.new.self.items c.further.result
          (subst (λ left. Pushed (param 0 g.row.T) c.args.stack.now.items c.args.first.ptr c.args.len left c.loop-left.stack.items) one
          c.loop-left.invariant.0) c.push_reserved.ensures.items c.further.ensures,
      omega (arith, some, room, len, cap),
      omega (arith, some, count, len),
      cap ∙ c.loop-left.invariant.3,
    )

pub returns-clause-pushed : goal.returns-clause-pushed
returns-clause-pushed g c = pushed_all (param 0 g.row.T) c.args.stack.now.items c.args.first.ptr
    c.args.len c.loop-left.left c.loop-left.stack.items
    c.loop-left.invariant.0 c.loop-left-test.false
