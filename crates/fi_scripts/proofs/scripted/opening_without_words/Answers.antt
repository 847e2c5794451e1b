use Rattle.std.proofs.Common.{rules}
use Rattle.fi_scripts.proofs.scripted.opening_without_words.Goals as goal

pub returns-in-Some : goal.returns-in-Some
returns-in-Some c = search rules
