-- The pool that a channel, a semaphore and an event stand for.
use Rattle.std.specs.Prelude.{◌≡◌, ◌+◌, false, length}
use Rattle.fi_parts.specs.Effects.{nobody}
use Rattle.fi_channels.specs.TwoSidesModel.{no_waiters}
use Rattle.fi_desk.specs.declared.pool.state.PoolFields.{PoolFields}
use Rattle.fi_desk.specs.Pool.{PoolMachine, is_drained}

module _ {W : Type 0} where
  -- The jobs are the channel's. As many may run as there are permits, free and held, and as many run as are held.
  abbrev pub machine_of : PoolFields W → PoolMachine W
  machine_of fields = record {
    jobs = fields.jobs.own;
    limit = fields.permits.own.free + fields.permits.own.held;
    running = fields.permits.own.held;
    drained = fields.drained;
  }

  -- Nobody waits at the channel or at the semaphore, which is unfair; what is kept beside them is what they have.
  pub record AreTied (fields : PoolFields W) : Type 0 where
    pub no_sends : fields.jobs.waiting ≡ no_waiters
    pub no_acquires : fields.permits.waiting ≡ nobody
    pub unfair : fields.permits.own.is_fair ≡ false
    pub is_open : fields.is_open ≡ fields.jobs.own.is_open
    pub counted : fields.waiting ≡ length fields.jobs.own.buffer.items
    pub capacity : fields.capacity ≡ fields.jobs.own.buffer.capacity

  -- They are tied, and the event is set exactly if the pool is drained.
  pub record IsPool (fields : PoolFields W) : Type 0 where
    pub tied : AreTied fields
    pub set : fields.drained.own ≡ is_drained (machine_of fields)
