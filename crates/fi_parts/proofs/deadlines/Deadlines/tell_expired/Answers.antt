use Rattle.std.proofs.Common.{subst}
use Rattle.fi_parts.specs.Deadlines.{TellsExpired}
use Rattle.fi_parts.specs.Seats.{deadlines_of}
use Rattle.fi_parts.proofs.Telling.{tells-first, tells-none}
use Rattle.fi_parts.proofs.deadlines.Deadlines.tell_expired.Goals as goal

pub loop-self-preserved : goal.loop-self-preserved
loop-self-preserved g c =
    let told = c.loop-self-test.ensures.told in
    record {
      seated = c.tell_first.ensures.seated;
      no_pair = c.tell_first.ensures.no_pair;
      all = λ new rest. c.loop-self.invariant.all new (tells-first c.args.now (deadlines_of c.loop-self.self-inside.waits) new told.0
          told.1 (subst (λ w. TellsExpired c.args.now w new) told.2 rest));
    }

pub returns : goal.returns
returns g c =
    let none = c.loop-self-test.ensures.told in
    c.loop-self.invariant.all _ (tells-none c.args.now (deadlines_of c.loop-self.self-inside.waits) (deadlines_of c.tell_first.new.waits)
    none.1 none.0)
