use Rattle.std.proofs.Common.{◌≡◌, vec_len}
use Rattle.std.specs.Prelude.{All}
use Rattle.std.specs.BTreeMap.{IsEmpty}
use Rattle.fi_scripts.proofs.labelled.Labelled.new.Given as goal

abbrev pub invariant-loop : goal.invariant-loop
invariant-loop g l = (vec_len l.short ≡ l.counter) × All (λ shelf. IsEmpty shelf) l.short.items
    × (vec_len l.long ≡ l.counter) × All (λ shelf. IsEmpty shelf) l.long.items
