use Rattle.std.proofs.Common.{◌∙◌}
use Rattle.std.specs.Prelude.{false}
use Rattle.fi_desk.specs.PoolFields.{machine_of}
use Rattle.fi_desk.specs.PoolLaws.{open_is_not_drained}
use Rattle.fi_desk.proofs.PoolIdle.{stays_shut, was_open}
use Rattle.fi_desk.proofs.PoolTies.{same_jobs, closes, settles}
use Rattle.fi_desk.proofs.pool.state.PoolFields.shutdown.Goals as goal

pub set_if_drained-requires : goal.set_if_drained-requires
set_if_drained-requires g c = closes c.args.self.now c.close.new.self c.requires.tied c.in-NewlyClosed.ensures.closed

pub returns-in-AlreadyClosed-clause-is_pool : goal.returns-in-AlreadyClosed-clause-is_pool
returns-in-AlreadyClosed-clause-is_pool g c = same_jobs c.args.self.now c.close.new.self
    (stays_shut c.args.self.now.jobs c.close.new.self c.requires.tied.no_sends c.in-AlreadyClosed.ensures.closed) c.requires

pub returns-in-NewlyClosed-clause-is_pool : goal.returns-in-NewlyClosed-clause-is_pool
returns-in-NewlyClosed-clause-is_pool g c =
    settles (record c.args.self.now { jobs = c.close.new.self; is_open = false }) c.set_if_drained.new.self
    (closes c.args.self.now c.close.new.self c.requires.tied c.in-NewlyClosed.ensures.closed)
    (c.requires.set ∙ open_is_not_drained (machine_of c.args.self.now)
    (was_open c.args.self.now.jobs c.close.new.self c.requires.tied.no_sends c.in-NewlyClosed.ensures.closed))
    c.set_if_drained.ensures.set c.set_if_drained.ensures.rest
