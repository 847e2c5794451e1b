use Rattle.std.proofs.Common.{rules}
use Rattle.fi_scripts.proofs.engine.answer_over_named.Goals as goal

pub answer_over-requires-in-Array1 : goal.answer_over-requires-in-Array1
answer_over-requires-in-Array1 g c = search rules
