-- What a contract sees of a future of a primitive that threads share.
use Rattle.std.specs.Prelude.{◌≡◌, ◌⊎◌, ℕ, Bool, true, false, Option, Some, None, is_some, MatchOption, Result, Ok, Err, IfOk, ⊤}
use Rattle.futures.specs.Poll.{OnPending}
use Rattle.futures.specs.declared.task.Poll.{Poll}
use Rattle.futures.specs.declared.task.Poll.TheVariants.{Ready, Pending}
use Rattle.fi_channels.specs.Polled.{Answered, displaced_by, unused_after}
use Rattle.fi_parts.specs.Machine.{Machine, phase_at, displaced_at}
use Rattle.fi_parts.specs.Polled.{LeavesWhere, WouldBeReady}
use Rattle.fi_parts.specs.declared.errors.Fault.{Fault}
use Rattle.fi_parts.specs.declared.errors.Fault.TheVariants.{Closed}
use Rattle.fi_parts.specs.declared.phase.Leftover.{Leftover}
use Rattle.fi_parts.specs.declared.phase.Phase.{Phase}
use Rattle.fi_sync.specs.declared.claim.Fate.{Fate}
use Rattle.fi_sync.specs.declared.claim.Fate.TheVariants.{GoesOn, Ended}

-- The source that its primitive's futures register at, its name in its primitive's state (None once it has ended), and whether it was
-- polled to its end or cancelled.
pub record SharedFuture : Type 0 where
  pub source : ℕ
  pub name : Option ℕ
  pub has_ended : Bool

-- It registers at this source, has a name and has not ended.
abbrev pub IsNew : ℕ → SharedFuture → Type 0
IsNew source future = (name : ℕ) × (future ≡ record { source = source; name = Some name; has_ended = false })

-- a refusal that ends its future: that the primitive is closed
abbrev pub is_last_refusal : Fault → Bool
is_last_refusal Closed = true
is_last_refusal fault = false

-- It ends its future: a value, or that the primitive is closed. Any other refusal doesn't.
abbrev pub is_final : {T : Type 0} → Result T Fault → Bool
is_final (Ok value) = true
is_final (Err fault) = is_last_refusal fault

-- the answer ends its future, where such outputs do
abbrev pub ends : {A : Type 0} → (A → Bool) → Poll A → Bool
ends is_last (Ready output) = is_last output
ends is_last Pending = false

-- the future once it has ended, when it has no name any more, or as it was
abbrev pub ended_if : Bool → SharedFuture → SharedFuture
ended_if true future = record { source = future.source; name = None; has_ended = true }
ended_if false future = future

-- A poll with this answer ends the future, or leaves it as it was.
abbrev pub polled : {A : Type 0} → (A → Bool) → SharedFuture → Poll A → SharedFuture
polled is_last future answer = ended_if (ends is_last answer) future

-- A poll under a slot is the state's where a future can be polled there; else it is refused, and nothing changes.
abbrev pub PollsWhere : {S A : Type 0} → Bool → (Poll A → S → Type 0) → A → S → Poll A → S → Type 0
PollsWhere true polls refusal old answer new = polls answer new
PollsWhere false polls refusal old answer new = (answer ≡ Ready refusal) × (new ≡ old)

-- A poll under a slot of a state: as the second relation says where the first predicate holds of the slot; else it is refused.
abbrev pub PollsOrRefuses : {S W A : Type 0} → (S → ℕ → Bool) → (S → ℕ → W → Poll A → S → Type 0) → A
    → S → ℕ → W → Poll A → S → Type 0
PollsOrRefuses can_be_polled polls refusal old name waker answer new =
    PollsWhere (can_be_polled old name) (polls old name waker) refusal old answer new

-- the wakers of no more use: the one that the future had, and the poll's own; a refused poll leaves the future's
abbrev pub leftover_after : {A W : Type 0} → Poll (Result A Fault) → Option W → W → Leftover W
leftover_after answer had waker =
    record { displaced = displaced_by answer had; unused = unused_after answer waker }

module _ {S D W : Type 0} where
  -- A poll of a machine's future: the machine's, which refuses none, where one can be polled under this name; else it is refused.
  abbrev pub PollsAt : {A : Type 0} → (Option (Phase W) → Bool) → (Machine S D W → ℕ → W → Poll A → Machine S D W → Type 0)
      → Machine S D W → ℕ → W → Poll (Result A Fault) → Machine S D W → Type 0
  PollsAt can_be_polled polls old name waker answer new =
      PollsWhere (can_be_polled (phase_at old name)) (Answered (polls old name waker) (λ fault state. ⊥)) (Err Fault.NoSlot) old answer new

  -- the wakers of no more use after such a poll
  abbrev pub leftover_at : {A : Type 0} → Machine S D W → ℕ → W → Poll (Result A Fault) → Leftover W
  leftover_at old name waker answer = leftover_after answer (displaced_at old name) waker

  -- A cancel of a machine's future: the machine's, and leaves its waker, where one lives under this name; else nothing changes.
  abbrev pub CancelsAt : (Machine S D W → ℕ → Machine S D W → Type 0) → Machine S D W → ℕ → Option W → Machine S D W → Type 0
  CancelsAt cancels old name left new =
      LeavesWhere (is_some (phase_at old name)) (cancels old name new) (displaced_at old name) old left new

-- A cancel under this name, in some hold of the lock, left this.
abbrev pub IsLeft : {S L : Type 0} → (S → ℕ → L → S → Type 0) → ℕ → L → Type 0
IsLeft {S} cancels name left = (old : S) × (new : S) × cancels old name left new

-- The same of a future's own name, which it has until it ends.
abbrev pub IsLeftBy : {S L : Type 0} → (S → ℕ → L → S → Type 0) → Option ℕ → L → Type 0
IsLeftBy cancels own left = (name : ℕ) × (own ≡ Some name) × IsLeft cancels name left

-- A poll under this name gave this answer and led from old to new. If it waits, it has a waker.
abbrev pub IsPolled : {S W A : Type 0} → (S → ℕ → Option W → Poll A → S → Type 0) → ℕ → Poll A → S → S → Type 0
IsPolled {S} {W} polls name answer old new =
    (waker : Option W) × polls old name waker answer new × OnPending answer (is_some waker ≡ true)

-- A future under this name that has ended was cancelled already, in effect: a cancel of it does now what it did before. Of another nothing
-- has changed.
abbrev pub IsTakenOutIf : {S L : Type 0} → (S → ℕ → L → S → Type 0) → Bool → ℕ → S → S → Type 0
IsTakenOutIf {S} {L} cancels true name old new = (left : L) (after : S) → cancels new name left after → cancels old name left after
IsTakenOutIf cancels false name old new = new ≡ old

-- A poll under this name that takes the future out where it ends it, or doesn't.
abbrev pub PollsAs : {S W A L : Type 0} → Bool → (S → ℕ → W → Poll A → S → Type 0) → (S → ℕ → L → S → Type 0) → (A → Bool)
    → S → ℕ → W → Poll A → S → Type 0
PollsAs {S} true polls cancels is_last old name waker answer new =
    (between : S) × polls old name waker answer between × IsTakenOutIf cancels (ends is_last answer) name between new
PollsAs false polls cancels is_last old name waker answer new = polls old name waker answer new

-- A poll under this name would have to wait, whatever its waker is.
abbrev pub WouldWait : {S W A : Type 0} → (S → ℕ → W → Poll A → S → Type 0) → S → ℕ → Type 0
WouldWait polls old name = WouldBeReady (polls old name) false

-- A poll under this name would have had to wait in some hold of the lock.
abbrev pub HadToWait : {S : Type 0} → (S → ℕ → Type 0) → ℕ → Type 0
HadToWait {S} waits name = (old : S) × waits old name

-- The same of a future's own name.
abbrev pub HadToWaitBy : {S : Type 0} → (S → ℕ → Type 0) → Option ℕ → Type 0
HadToWaitBy waits own = (name : ℕ) × (own ≡ Some name) × HadToWait waits name

-- A future that has ended stays pending. Another answers as its state did in some hold of the lock, where it was polled under the
-- future's own name, or that it has no memory where it had to wait then and no waker could be made.
abbrev pub IsAnswer : {S W A : Type 0} → (S → ℕ → Option W → Poll A → S → Type 0) → (S → ℕ → Type 0) → A
    → Option ℕ → Bool → Bool → Poll A → Type 0
IsAnswer polls waits no_memory own true lacks_waker answer = answer ≡ Pending
IsAnswer {S} {W} polls waits no_memory own false lacks_waker answer =
    ((lacks_waker ≡ true) × (answer ≡ Ready no_memory) × HadToWaitBy waits own)
    ⊎ ((old : S) × (name : ℕ) × (new : S) × (own ≡ Some name) × IsPolled polls name answer old new)

-- The same of a state whose polls ask for no time, so that its machine's polls say where they have to wait.
abbrev pub IsUntimedAnswer : {S W A : Type 0} → (S → ℕ → Option W → Poll A → S → Type 0) → A
    → Option ℕ → Bool → Bool → Poll A → Type 0
IsUntimedAnswer polls no_memory own has_ended lacks_waker answer =
    IsAnswer polls (WouldWait polls) no_memory own has_ended lacks_waker answer

-- Some hold of the lock led from one state to another so.
abbrev pub InSomeHold : {S : Type 0} → (S → S → Type 0) → Type 0
InSomeHold {S} leads = (old : S) × (new : S) × leads old new

-- What a future may give: the output of a ready poll in some hold of the lock, or that it has no memory for a waker.
abbrev pub IsGiven : {S W A : Type 0} → (S → ℕ → Option W → Poll A → S → Type 0) → A → A → Type 0
IsGiven {S} polls no_memory output =
    (output ≡ no_memory) ⊎ ((old : S) × (name : ℕ) × (new : S) × IsPolled polls name (Ready output) old new)

-- What a call that blocks answers, if it is not refused: what some hold of the lock showed, or what a poll gave.
abbrev pub WaitedFor : {S W A : Type 0} → (A → Type 0) → (S → ℕ → Option W → Poll (Result A Fault) → S → Type 0) → Result A Fault → Type 0
WaitedFor at_once polls answer = IfOk answer (λ given. at_once given ⊎ IsGiven polls (Err Fault.NoMemory) (Ok given))

-- whether a poll under a slot was answered, and the answer ends its future
abbrev pub is_over : {A B : Type 0} → (A → Bool) → Option (Poll A × B) → Bool
is_over is_last None = false
is_over is_last (Some polled) = ends is_last polled.0

-- the name of a future that goes on; None of one that has ended
abbrev pub name_after : {K L : Type 0} → Fate K L → Option ℕ
name_after (GoesOn claim) = Some claim
name_after (Ended left) = None

-- What becomes of the future under this name, which a poll has ended or not. If it goes on, it keeps the name, and nothing more happens.
-- If it has ended, it is cancelled in the state that the poll left.
abbrev pub Befalls : {S K L : Type 0} → (S → ℕ → L → S → Type 0) → Bool → ℕ → Fate K L → S → S → Type 0
Befalls cancels true name (GoesOn claim) old new = ⊥
Befalls cancels true name (Ended left) old new = cancels old name left new
Befalls cancels false name (GoesOn claim) old new = (claim ≡ name) × (new ≡ old)
Befalls cancels false name (Ended left) old new = ⊥

-- A poll under this name, or none, which changes nothing, and what becomes of its future then, lead from old to new.
abbrev pub IsSettled : {S W A B K L : Type 0} → (S → ℕ → Option W → Poll A → S → Type 0) → (S → ℕ → L → S → Type 0) → (A → Bool)
    → ℕ → Option (Poll A × B) → Fate K L → S → S → Type 0
IsSettled {S} polls cancels is_last name polled fate old new =
    (between : S) × MatchOption polled (between ≡ old) (λ polled. IsPolled polls name polled.0 old between)
    × Befalls cancels (is_over is_last polled) name fate between new

-- If a poll with this answer has ended its future, it was one under the future's own name, and a cancel under that name followed it in the
-- same hold of the lock.
abbrev pub IsEndedBy : {S W A L : Type 0} → (S → ℕ → Option W → Poll A → S → Type 0) → (S → ℕ → L → S → Type 0) → Bool → Option ℕ
    → Poll A → Type 0
IsEndedBy {S} {L = L} polls cancels true own answer =
    (old : S) × (between : S) × (new : S) × (name : ℕ) × (left : L) × (own ≡ Some name) × IsPolled polls name answer old between
    × cancels between name left new
IsEndedBy polls cancels false own answer = ⊤
