use Rattle.std.proofs.Common.{◌<◌, ◌^◌, arith}
use Rattle.fi_scripts.proofs.Channels.{too_large}
use Rattle.fi_scripts.proofs.buffer.heap_capacity.Goals as goal

pub returns-then-number-gt-MOST_PLACES : goal.returns-then-number-gt-MOST_PLACES
returns-then-number-gt-MOST_PLACES c = λ n small.
    let fits : c.in_ok-number.number < 2 ^ 64 = omega arith in
    too_large n c.in_ok-number.number small c.if-number-gt-MOST_PLACES.true fits c.args.word.now c.in_ok-number.ensures
