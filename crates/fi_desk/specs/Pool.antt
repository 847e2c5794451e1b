-- The machine of a worker pool, as a table of calls and answers.
use Rattle.std.specs.Prelude.{◌≡◌, ◌<◌, ◌≤◌, ◌+◌, ◌-◌, ◌==◌, ◌&&◌, not, ℕ, Bool, true, false, None, List, [], ◌∷◌}
use Rattle.futures.specs.declared.task.Poll.TheVariants as polled
use Rattle.fi_parts.specs.declared.errors.Fault.{Fault}
use Rattle.fi_parts.specs.declared.errors.Fault.TheVariants.{NoMemory, NoSlot, Closed, Full, Empty, NotHeld}
use Rattle.fi_parts.specs.Buffer.{Bounded, Fits, empty, popped}
use Rattle.fi_parts.specs.Machine.{phase_at}
use Rattle.fi_channels.specs.ChannelWords.{Buffered, Stores, IsGrowing, has_room, with_buffer, closed}
use Rattle.fi_channels.specs.Event as event
use Rattle.fi_channels.specs.Event.{EventMachine}
use Rattle.fi_run.specs.Outgoing.{Outgoing, machine_outgoing}
use Rattle.fi_run.specs.Run.{AfterEveryRun}
use Rattle.fi_run.specs.declared.answer.Answer.{Answer}
use Rattle.fi_run.specs.declared.answer.Answer.TheVariants.{Made, Pending, Ready, Item, Nothing, Done, Newly, Already, Woken, Back, Refused}
use Rattle.fi_desk.specs.declared.pool.PoolCall.{PoolCall}
use Rattle.fi_desk.specs.declared.pool.PoolCall.TheVariants.{Submit, Start, Finish, Shutdown, Wait, Poll, Cancel, NextWake}

-- The jobs that wait, as a channel has its values: open or closed, the jobs in order, how many there may be, and how many fit the
-- memory that was taken. How many jobs may run at once, and how many run. An event that is set once the pool is drained.
pub record PoolMachine (W : Type 0) : Type 0 where
  pub jobs : Buffered ℕ
  pub limit : ℕ
  pub running : ℕ
  pub drained : EventMachine W

abbrev pub is_none_left : List ℕ → Bool
is_none_left [] = true
is_none_left (job ∷ jobs) = false

module _ {W : Type 0} where
  -- closed, no job waits, and none runs
  abbrev pub is_drained : PoolMachine W → Bool
  is_drained pool = not pool.jobs.is_open && (is_none_left pool.jobs.buffer.items && pool.running == 0)

  -- open without jobs, and the event is not set
  abbrev pub opened : ℕ → Bounded ℕ → PoolMachine W
  opened limit buffer = record {
    jobs = record { is_open = true; buffer = buffer };
    limit = limit;
    running = 0;
    drained = event.opened false;
  }

  -- The event is set if the test succeeds, and else stays as it is.
  abbrev pub SetsIf : Bool → EventMachine W → EventMachine W → Type 0
  SetsIf true old new = event.Sets old new
  SetsIf false old new = new ≡ old

  -- A job is accepted by an open pool that has room for it, and goes behind the others, as by a channel's try_send.
  abbrev pub Accepts : PoolMachine W → ℕ → PoolMachine W → Type 0
  Accepts old job new = (old.jobs.is_open ≡ true) × (has_room old.jobs ≡ true)
      × (jobs : Buffered ℕ) × Stores old.jobs job jobs × (new ≡ record old { jobs = jobs })

  -- Fewer run than may: the job at the front of those that wait runs now.
  abbrev pub Starts : PoolMachine W → ℕ → PoolMachine W → Type 0
  Starts old job new = (old.running < old.limit) × (left : List ℕ) × (old.jobs.buffer.items ≡ job ∷ left)
      × (new ≡ record old { jobs = with_buffer old.jobs (popped old.jobs.buffer left); running = old.running + 1 })

  -- As many run as may.
  abbrev pub IsBusy : PoolMachine W → Type 0
  IsBusy old = old.limit ≤ old.running

  -- One more may run, but none waits.
  abbrev pub HasNone : PoolMachine W → Type 0
  HasNone old = (old.running < old.limit) × (old.jobs.buffer.items ≡ [])

  -- One job less runs. If the pool is drained now, the event is set.
  abbrev pub Finishes : PoolMachine W → PoolMachine W → Type 0
  Finishes old new = (0 < old.running) × (new ≡ record old { running = old.running - 1; drained = new.drained })
      × SetsIf (is_drained new) old.drained new.drained

  -- An open pool closes. If it is drained now, the event is set.
  abbrev pub Shuts : PoolMachine W → PoolMachine W → Type 0
  Shuts old new = (old.jobs.is_open ≡ true) × (new ≡ record old { jobs = closed old.jobs; drained = new.drained })
      × SetsIf (is_drained new) old.drained new.drained

  -- Only the event has changed.
  abbrev pub KeepsJobs : PoolMachine W → PoolMachine W → Type 0
  KeepsJobs old new = new ≡ record old { drained = new.drained }

  -- when a call may be refused with this fault
  abbrev pub MayRefuse : PoolMachine W → PoolCall W → Fault → Type 0
  MayRefuse old Start Empty = HasNone old × (old.jobs.is_open ≡ true)
  MayRefuse old Start Closed = HasNone old × (old.jobs.is_open ≡ false)
  MayRefuse old Finish NotHeld = old.running ≡ 0
  MayRefuse old Wait NoMemory = Unit {0}
  MayRefuse old (Poll slot waker) NoSlot = event.can_be_polled (phase_at old.drained slot.0) ≡ false
  MayRefuse old (Cancel slot) NoSlot = phase_at old.drained slot.0 ≡ None
  MayRefuse old call fault = ⊥

  -- when a job may be handed back with this fault
  abbrev pub MayHandBack : PoolMachine W → Fault → Type 0
  MayHandBack old Closed = old.jobs.is_open ≡ false
  MayHandBack old Full = (old.jobs.is_open ≡ true) × (has_room old.jobs ≡ false)
  MayHandBack old NoMemory = IsGrowing old.jobs
  MayHandBack old fault = ⊥

  -- From old, a pool may give this answer to the call and go on to new.
  abbrev pub Step : PoolMachine W → PoolCall W → Answer ℕ W → PoolMachine W → Type 0
  Step old call (Refused fault) new = MayRefuse old call fault × (new ≡ old)
  Step old (Submit job) Done new = Accepts old job new
  Step old (Submit job) (Back given fault) new = (given ≡ job) × MayHandBack old fault × (new ≡ old)
  Step old Start (Item job) new = Starts old job new
  Step old Start Nothing new = IsBusy old × (new ≡ old)
  Step old Finish Done new = Finishes old new
  Step old Shutdown Newly new = Shuts old new
  Step old Shutdown Already new = (old.jobs.is_open ≡ false) × (new ≡ old)
  Step old Wait (Made slot) new = event.Makes old.drained slot.0 new.drained × KeepsJobs old new
  Step old (Poll slot waker) Ready new = event.Polls old.drained slot.0 waker (polled.Ready tt) new.drained × KeepsJobs old new
  Step old (Poll slot waker) Pending new = event.Polls old.drained slot.0 waker polled.Pending new.drained × KeepsJobs old new
  Step old (Cancel slot) Done new = event.Cancels old.drained slot.0 new.drained × KeepsJobs old new
  Step old NextWake (Woken waker) new = event.Wakes old.drained waker new.drained × KeepsJobs old new
  Step old call answer new = ⊥

  -- the limit and the capacity
  abbrev pub Opens : ℕ × ℕ → PoolMachine W → Type 0
  Opens opening pool = (pool ≡ opened opening.0 (empty opening.1 pool.jobs.buffer.reserved)) × Fits pool.jobs.buffer

  -- The event is sound, and is set exactly if the pool is drained; no more jobs run than may, and those that wait fit their buffer.
  pub record IsSound (pool : PoolMachine W) : Type 0 where
    pub waits : event.IsSound pool.drained
    pub set : pool.drained.own ≡ is_drained pool
    pub within : pool.running ≤ pool.limit
    pub fits : Fits pool.jobs.buffer

  -- No wake is owed: a wait is registered only while the event is not set.
  abbrev pub OwesNoWake : PoolMachine W → Type 0
  OwesNoWake pool = event.OwesNoWake pool.drained

  -- Its wakers to be woken are those of the event.
  abbrev pub pool_outgoing : Outgoing (PoolMachine W) W
  pool_outgoing = record {
    wakers = λ pool. machine_outgoing.wakers pool.drained;
    without_wakers = λ pool. record pool { drained = machine_outgoing.without_wakers pool.drained };
  }

  -- This holds after every run of a pool from a state that is sound and owes no wake: of that state, the history since, and the
  -- state at the end.
  abbrev pub InEveryRun : (PoolMachine W → List (PoolCall W × Answer ℕ W) → PoolMachine W → Type 0) → Type 0
  InEveryRun holds = AfterEveryRun IsSound OwesNoWake Step holds
