use Rattle.std.proofs.Common.{◌∙◌}
use Rattle.fi_desk.specs.PoolFields.{machine_of}
use Rattle.fi_desk.specs.PoolLaws.{running_is_not_drained}
use Rattle.fi_desk.proofs.PoolTies.{returns, settles}
use Rattle.fi_desk.proofs.pool.state.PoolFields.finish.Goals as goal

pub set_if_drained-requires : goal.set_if_drained-requires
set_if_drained-requires g c = returns c.args.self.now c.give_back.new.self c.requires.tied c.give_back.ensures.given_back

pub returns-clause-is_pool : goal.returns-clause-is_pool
returns-clause-is_pool g c = settles (record c.args.self.now { permits = c.give_back.new.self }) c.set_if_drained.new.self
    (returns c.args.self.now c.give_back.new.self c.requires.tied c.give_back.ensures.given_back)
    (c.requires.set ∙ running_is_not_drained (machine_of c.args.self.now) c.give_back.ensures.given_back.0)
    c.set_if_drained.ensures.set c.set_if_drained.ensures.rest
