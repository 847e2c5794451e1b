use Rattle.std.proofs.Common.{rules}
use Rattle.fi_scripts.proofs.buffer.Buffer.capacity.Goals as goal

pub returns-in-Array5 : goal.returns-in-Array5
returns-in-Array5 c = search rules
