use Rattle.fi_scripts.proofs.Script.{answers_as_asked}
use Rattle.fi_scripts.proofs.engine.answer_channel.Goals as goal

pub returns-in-Some : goal.returns-in-Some
returns-in-Some g c = answers_as_asked _ c.in-Some.ensures c.answer_over_named.ensures
