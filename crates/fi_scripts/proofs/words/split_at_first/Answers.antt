use Rattle.fi_scripts.proofs.Cuts.{cut_at, cut_nowhere}
use Rattle.fi_scripts.proofs.words.split_at_first.Goals as goal

pub returns-in-Some : goal.returns-in-Some
returns-in-Some g = cut_at g.args.separator g.args.bytes.now g.in-Some.at g.in-Some.ensures.0 g.in-Some.ensures.1

pub returns-in-None : goal.returns-in-None
returns-in-None g = cut_nowhere g.args.separator g.args.bytes.now g.in-None.ensures
