use Rattle.std.proofs.Common.{arith}
use Rattle.std.proofs.lemmas.Grind.{common_steps}
use Rattle.fi_scripts.proofs.fairness.fairness.Goals as goal

pub returns-in-fair : goal.returns-in-fair
returns-in-fair c = grind (arith, common_steps)
