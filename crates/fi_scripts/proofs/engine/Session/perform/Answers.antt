use Rattle.std.proofs.Common.{rules}
use Rattle.fi_scripts.proofs.engine.Session.perform.Goals as goal

pub returns-in_default-clause-answered : goal.returns-in_default-clause-answered
returns-in_default-clause-answered g c = search rules
