use Rattle.std.proofs.Common.{sym, arith}
use Rattle.fi_parts.proofs.ChunkPlaces.{places_from_three}
use Rattle.fi_parts.proofs.blocks.owner.places_in.Goals as goal

pub overflow_mul-result : goal.overflow_mul-result
overflow_mul-result c =
    let more = c.in_default in let all = places_from_three c.args.chunk (omega (arith, more)) in
    let small = c.requires in record { fits = omega (arith, all, small) }

pub overflow_add-result : goal.overflow_add-result
overflow_add-result c =
    let more = c.in_default in let all = places_from_three c.args.chunk (omega (arith, more)) in
    let small = c.requires in record { fits = omega (arith, all, small) }

pub returns-in_default : goal.returns-in_default
returns-in_default c = let more = c.in_default in sym (places_from_three c.args.chunk (omega (arith, more)))
