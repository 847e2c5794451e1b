use Rattle.std.proofs.Common.{rules, refl}
use Rattle.futures_intrusive.proofs.state_ends.CountedEnds+StateBroadcastState+T+PollWaker.look.Goals as goal

pub returns-in-Some : goal.returns-in-Some
returns-in-Some g c = (c.in-Some.value.now, search rules, (c.in-Some.value, search rules, refl), search rules)
