use Rattle.std.proofs.Common.{rules}
use Rattle.fi_run.proofs.oneshot.OneValueStatePrimitive.apply.Goals as goal

pub returns-in-Ready-Ok-None : goal.returns-in-Ready-Ok-None
returns-in-Ready-Ok-None g c = search rules

pub returns-in-Ready-Err : goal.returns-in-Ready-Err
returns-in-Ready-Err g c = search rules
