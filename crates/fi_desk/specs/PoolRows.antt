-- What the rows of a pool's script lines stand for.
use Rattle.std.specs.Prelude.{ℕ, Option, None, Some}
use Rattle.fi_desk.specs.declared.pool.PoolCall.{PoolCall}
use Rattle.fi_desk.specs.declared.pool.PoolCall.TheVariants as pool
use Rattle.fi_run.specs.declared.script.row.Numbers.TheVariants.{Absent, One}
use Rattle.fi_run.specs.declared.script.row.Row.{Row}
use Rattle.fi_run.specs.declared.script.row.Row.TheVariants.{Plain, Make, Poll, Cancel}
use Rattle.fi_run.specs.declared.script.verb.Verb.TheVariants as verb

abbrev pub pool_call : Row → Option (PoolCall ℕ)
pool_call (Make verb.Wait Absent) = Some pool.Wait
pool_call (Poll future (One waker)) = Some (pool.Poll future.slot waker)
pool_call (Cancel future Absent) = Some (pool.Cancel future.slot)
pool_call (Plain verb.Submit (One job)) = Some (pool.Submit job)
pool_call (Plain verb.Start Absent) = Some pool.Start
pool_call (Plain verb.Finish Absent) = Some pool.Finish
pool_call (Plain verb.Shutdown Absent) = Some pool.Shutdown
pool_call row = None
