use Rattle.std.specs.Prelude.{codes, option_copied}
use Rattle.std.proofs.Common.{◌≢◌, ap, rules, arith}
use Rattle.std.proofs.lemmas.Grind.{common_steps}
use Rattle.fi_scripts.proofs.Channels.{no_number, no_capacity, no_heap_word}
use Rattle.fi_scripts.proofs.buffer.Buffer.heap.Goals as goal

pub returns-in_err-number : goal.returns-in_err-number
returns-in_err-number c =
    rw c.from_residual.ensures (no_number _ _ _ c.split_at_first.ensures (ap option_copied c.in_err-number.was))

pub returns-in_err-capacity : goal.returns-in_err-capacity
returns-in_err-capacity c =
    rw c.from_residual-in_err-capacity.ensures
    (no_capacity _ _ _ c.split_at_first.ensures c.in_ok-number.field-0.now (ap option_copied c.in_ok-number.was)
    c.in_err-capacity.ensures)

pub returns-else-eq-2 : goal.returns-else-eq-2
returns-else-eq-2 c =
    let not_fixed : c.split_at_first.result.0.now ≢ codes "fixed" = first_of (search rules, grind (arith, common_steps)) in
    let not_growing : c.split_at_first.result.0.now ≢ codes "growing" = first_of
    (search rules, grind (arith, common_steps)) in
    no_heap_word _ _ _ c.split_at_first.ensures not_fixed not_growing

pub returns-then-eq : goal.returns-then-eq
returns-then-eq c = search rules
