-- What a history of a pool says. A history is a list of calls with their answers, the newest first, since some first state.
use Rattle.std.specs.Prelude.{◌≡◌, ◌+◌, ◌++◌, ℕ, List, [], ◌∷◌, length}
use Rattle.fi_parts.specs.WakerHistory.{KeepsWakers}
use Rattle.fi_run.specs.declared.answer.Answer.{Answer}
use Rattle.fi_run.specs.declared.answer.Answer.TheVariants.{Item, Done, Refused}
use Rattle.fi_desk.specs.declared.pool.PoolCall.{PoolCall}
use Rattle.fi_desk.specs.declared.pool.PoolCall.TheVariants.{Submit, Start, Finish, Poll, Cancel}
use Rattle.fi_run.specs.WakerChanges.{Subject, on_wakers}
use Rattle.fi_run.specs.WakerChanges.Subject.{Polling, Cancelling, Other}
use Rattle.fi_desk.specs.Pool.{PoolMachine}

module _ {W : Type 0} where
  abbrev pub accepted_step : PoolCall W → Answer ℕ W → List ℕ → List ℕ
  accepted_step call (Refused fault) jobs = jobs
  accepted_step (Submit job) Done jobs = jobs ++ job ∷ []
  accepted_step call answer jobs = jobs

  -- the jobs that were accepted, in order
  abbrev pub accepted_jobs : List (PoolCall W × Answer ℕ W) → List ℕ
  accepted_jobs [] = []
  accepted_jobs (entry ∷ history) = accepted_step entry.0 entry.1 (accepted_jobs history)

  abbrev pub started_step : PoolCall W → Answer ℕ W → List ℕ → List ℕ
  started_step call (Refused fault) jobs = jobs
  started_step Start (Item job) jobs = jobs ++ job ∷ []
  started_step call answer jobs = jobs

  -- the jobs that were started, in order
  abbrev pub started_jobs : List (PoolCall W × Answer ℕ W) → List ℕ
  started_jobs [] = []
  started_jobs (entry ∷ history) = started_step entry.0 entry.1 (started_jobs history)

  abbrev pub finished_step : PoolCall W → Answer ℕ W → ℕ → ℕ
  finished_step call (Refused fault) count = count
  finished_step Finish Done count = count + 1
  finished_step call answer count = count

  -- how many jobs have finished
  abbrev pub finished_count : List (PoolCall W × Answer ℕ W) → ℕ
  finished_count [] = 0
  finished_count (entry ∷ history) = finished_step entry.0 entry.1 (finished_count history)

  -- The jobs that waited at first and then those accepted since are, in order, those started since and then those that wait now.
  abbrev pub StartsInOrder : PoolMachine W → List (PoolCall W × Answer ℕ W) → PoolMachine W → Type 0
  StartsInOrder first history now =
      first.jobs.buffer.items ++ accepted_jobs history ≡ started_jobs history ++ now.jobs.buffer.items

  -- The jobs that ran at first and those started since are as many as those finished since and those that run now.
  abbrev pub RunningAddsUp : PoolMachine W → List (PoolCall W × Answer ℕ W) → PoolMachine W → Type 0
  RunningAddsUp first history now = first.running + length (started_jobs history) ≡ finished_count history + now.running

  -- whom a call concerns
  abbrev pub subject : PoolCall W → Subject W
  subject (Poll slot waker) = Polling slot.0 waker
  subject (Cancel slot) = Cancelling slot.0
  subject call = Other

  -- The waker of a pending wait's last poll is registered, or stands in out beside its name, or was handed out since.
  abbrev pub WakersAreKept : PoolMachine W → List (PoolCall W × Answer ℕ W) → PoolMachine W → Type 0
  WakersAreKept first history now =
      KeepsWakers (λ entry. on_wakers (subject entry.0) entry.1) first.drained.waiting history now.drained.waiting

  -- What holds of a first state, the history since, and the state now.
  pub record HistoryHolds (first : PoolMachine W) (history : List (PoolCall W × Answer ℕ W)) (now : PoolMachine W) : Type 0 where
    pub order : StartsInOrder first history now
    pub count : RunningAddsUp first history now
    pub wakers : WakersAreKept first history now
