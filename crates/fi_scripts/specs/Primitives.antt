-- The primitives that scripts know: the name of each, its machine, and how scripts speak of it.
use Rattle.std.specs.Prelude.{◌≡◌, ◌≢◌, ⊤, ℕ, List, codes}
use Rattle.fi_channels.specs.Oneshot.{taking, cloning}
use Rattle.fi_desk.specs.Pool as pool
use Rattle.fi_desk.specs.PoolRows.{pool_call}
use Rattle.fi_run.specs.Event as event
use Rattle.fi_run.specs.Mutex as mutex
use Rattle.fi_run.specs.Oneshot as oneshot
use Rattle.fi_run.specs.Outgoing.{machine_outgoing}
use Rattle.fi_run.specs.Rows.{event_call, mutex_call, oneshot_call, semaphore_call, state_call, timer_call}
use Rattle.fi_run.specs.Semaphore as semaphore
use Rattle.fi_run.specs.State as state
use Rattle.fi_run.specs.Timer as timer
use Rattle.fi_scripts.specs.Channels.{spoken_channel}
use Rattle.fi_scripts.specs.Language.{Openings, Spoken, spoken}
use Rattle.fi_scripts.specs.Openings.{event_openings, fair_openings, only_opening, pool_openings}
use Rattle.fi_scripts.specs.declared.named.Named.{Named}
use Rattle.fi_scripts.specs.declared.named.Named.TheVariants as named

-- A primitive with its name, over the states of its machine, its openings and its calls.
pub record Known : Type 1 where
  pub State : Type 0
  pub Opening : Type 0
  pub Call : Type 0
  pub name : List ℕ
  pub spoken : Spoken State Opening Call

abbrev pub entry : {S O C : Type 0} → List ℕ → Spoken S O C → Known
entry {S} {O} {C} name primitive = record { State = S; Opening = O; Call = C; name = name; spoken = primitive }

-- a number's clone is the number, and can't fail
abbrev pub is_same : ℕ → ℕ → Type 0
is_same value copy = copy ≡ value

abbrev pub never_fails : ℕ → Type 0
never_fails value = ⊤

-- One entry for each primitive: what is said of scripts is said over an entry, so that a new one adds no other case.
abbrev pub known : Named → Known
known named.Channel = entry (codes "channel") spoken_channel
known named.Event = entry (codes "event") (spoken event.Opens event.Step machine_outgoing event_openings event_call)
known named.Oneshot =
    entry (codes "oneshot") (spoken oneshot.Opens (oneshot.Step taking) machine_outgoing only_opening oneshot_call)
known named.OneshotBroadcast = entry (codes "oneshot-broadcast")
    (spoken oneshot.Opens (oneshot.Step (cloning is_same never_fails)) machine_outgoing only_opening oneshot_call)
known named.StateBroadcast = entry (codes "state-broadcast")
    (spoken state.Opens (state.Step is_same never_fails) machine_outgoing only_opening state_call)
known named.Timer = entry (codes "timer") (spoken timer.Opens timer.Step machine_outgoing only_opening timer_call)
known named.Mutex = entry (codes "mutex") (spoken mutex.Opens mutex.Step machine_outgoing fair_openings mutex_call)
known named.Semaphore =
    entry (codes "semaphore") (spoken semaphore.Opens semaphore.Step machine_outgoing fair_openings semaphore_call)
known named.Pool = entry (codes "pool") (spoken pool.Opens pool.Step pool.pool_outgoing pool_openings pool_call)

-- how its openings are named
abbrev pub openings_of : (named : Named) → Openings (known named).Opening
openings_of named = (known named).spoken.openings

-- no primitive has this name
abbrev pub IsNoName : List ℕ → Type 0
IsNoName word = (named : Named) → word ≢ (known named).name
