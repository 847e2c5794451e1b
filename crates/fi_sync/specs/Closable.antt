-- What a semaphore that threads share has beside its machine: whether it was closed.
use Rattle.std.specs.Prelude.{◌≡◌, ◌-◌, ℕ, Bool, true, false, if◌then◌else◌, refl}
use Rattle.std.specs.Coded.{Coded, code_by, coded×, coded_bool}
use Rattle.fi_parts.specs.declared.errors.CloseStatus.{CloseStatus}
use Rattle.fi_parts.specs.declared.errors.CloseStatus.TheVariants.{NewlyClosed, AlreadyClosed}
use Rattle.fi_locks.specs.Semaphore.{SemaphoreMachine, TriesAcquire, Releases, Disarms}
use Rattle.fi_locks.specs.SemaphoreCode.{semaphore_code}

-- A semaphore's machine, and whether the semaphore was closed.
pub record Closable (W : Type 0) : Type 0 where
  pub permits : SemaphoreMachine W
  pub is_closed : Bool

abbrev pub closable_code : {W : Type 0} → Coded W → Coded (Closable W)
closable_code {W} w = code_by (SemaphoreMachine W × Bool) (coded× (semaphore_code w) coded_bool) (λ c. (c.permits, c.is_closed))
    (λ p. record { permits = p.0; is_closed = p.1 }) (λ _. refl)

-- The machine took this step, and the semaphore is closed or open as it was.
abbrev pub OnPermits : {W : Type 0} → (SemaphoreMachine W → SemaphoreMachine W → Type 0) → Closable W → Closable W → Type 0
OnPermits Steps old new = Steps old.permits new.permits × (new ≡ record old { permits = new.permits })

-- The same of an open semaphore; a closed one stays as it is.
abbrev pub WhileOpenAt : {W : Type 0} → Bool → (SemaphoreMachine W → SemaphoreMachine W → Type 0)
    → Closable W → Closable W → Type 0
WhileOpenAt true Steps old new = new ≡ old
WhileOpenAt false Steps old new = OnPermits Steps old new

abbrev pub WhileOpen : {W : Type 0} → (SemaphoreMachine W → SemaphoreMachine W → Type 0) → Closable W → Closable W → Type 0
WhileOpen Steps old new = WhileOpenAt old.is_closed Steps old new

-- A try for n permits, which a closed semaphore never grants.
abbrev pub TriesPermitsAt : {W : Type 0} → Bool → ℕ → Bool → Closable W → Closable W → Type 0
TriesPermitsAt true n granting old new = (granting ≡ false) × (new ≡ old)
TriesPermitsAt false n granting old new = OnPermits (λ before after. TriesAcquire before n granting after) old new

abbrev pub TriesPermits : {W : Type 0} → ℕ → Bool → Closable W → Closable W → Type 0
TriesPermits n granting old new = TriesPermitsAt old.is_closed n granting old new

-- The permits that are held are forgotten, and as many are free as a usize counts: the futures that wait are told, as far as their needs
-- together can be counted, and whichever of them leaves tells the next.
abbrev pub LetsAllThrough : {W : Type 0} → SemaphoreMachine W → SemaphoreMachine W → Type 0
LetsAllThrough {W} old new = (mid : SemaphoreMachine W) × Disarms old old.own.held mid × Releases mid (18446744073709551615 - mid.own.free) new

-- Whoever waits is told. A closed semaphore stays as it is.
abbrev pub ClosesAt : {W : Type 0} → Bool → CloseStatus → Closable W → Closable W → Type 0
ClosesAt true status old new = (status ≡ AlreadyClosed) × (new ≡ old)
ClosesAt false status old new = (status ≡ NewlyClosed) × (new.is_closed ≡ true) × LetsAllThrough old.permits new.permits

abbrev pub Closes : {W : Type 0} → CloseStatus → Closable W → Closable W → Type 0
Closes status old new = ClosesAt old.is_closed status old new

-- how many permits are free; a closed semaphore has none
abbrev pub free_at : {W : Type 0} → Closable W → ℕ
free_at semaphore = if semaphore.is_closed then 0 else semaphore.permits.own.free
