use Rattle.std.specs.Prelude.{◌≤◌}
use Rattle.std.proofs.Common.{arith}
use Rattle.fi_desk.proofs.PoolIdle.{took_none}
use Rattle.fi_desk.proofs.PoolTies.{same_jobs, starts}
use Rattle.fi_desk.proofs.pool.state.PoolFields.start.Goals as goal

pub returns-in-Ok-clause-is_pool : goal.returns-in-Ok-clause-is_pool
returns-in-Ok-clause-is_pool g c =
    let some : 1 ≤ c.args.self.now.permits.own.free = omega arith in
    starts c.args.self.now c.try_receive.new.self c.in-Ok.job c.try_acquire_sync.result c.try_acquire_sync.new.self c.requires some
    c.in-Ok.ensures.tried c.try_acquire_sync.ensures.tried

pub returns-in-Err-Empty-clause-is_pool : goal.returns-in-Err-Empty-clause-is_pool
returns-in-Err-Empty-clause-is_pool g c = same_jobs c.args.self.now c.try_receive.new.self
    (took_none c.args.self.now.jobs c.try_receive.new.self c.requires.tied.no_sends c.in-Err-Empty.field-0 c.in-Err-Empty.ensures.tried)
    c.requires

pub returns-in-Err-Closed-clause-is_pool : goal.returns-in-Err-Closed-clause-is_pool
returns-in-Err-Closed-clause-is_pool g c = same_jobs c.args.self.now c.try_receive.new.self
    (took_none c.args.self.now.jobs c.try_receive.new.self c.requires.tied.no_sends c.in-Err-Closed.field-0 c.in-Err-Closed.ensures.tried)
    c.requires
