use Rattle.std.proofs.Common.{arith}
use Rattle.std.proofs.lemmas.Grind.{common_steps}
use Rattle.fi_scripts.proofs.scripted.EventStateU64Scripted.opening.Goals as goal

pub returns-in-Some-set : goal.returns-in-Some-set
returns-in-Some-set c = grind (arith, common_steps)
