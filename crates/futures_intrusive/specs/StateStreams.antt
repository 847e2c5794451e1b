-- What a contract sees of a stream of states, and what its polls give.
use Rattle.std.specs.Prelude.{◌≡◌, ◌⊎◌, ℕ, Bool, true, false, Option, Some, None, Result, Ok, Err}
use Rattle.futures.specs.declared.task.Poll.{Poll}
use Rattle.futures.specs.declared.task.Poll.TheVariants.{Ready, Pending}
use Rattle.futures.specs.declared.task.waker.Waker.{Waker}
use Rattle.fi_channels.specs.Oneshot.{can_receive}
use Rattle.fi_channels.specs.Polled.{Answered}
use Rattle.fi_channels.specs.StateBroadcast.{StateMachine, Makes, Polls, LacksClone, TriesReceive, MayLackNewer, newer_than}
use Rattle.fi_parts.specs.Machine.{phase_at}
use Rattle.fi_parts.specs.declared.errors.Fault.{Fault}
use Rattle.fi_parts.specs.declared.errors.Fault.TheVariants.{NoMemory, NoSlot}
use Rattle.fi_sync.specs.Waiting.{SharedFuture, InSomeHold, IsNew, IsUntimedAnswer, PollsOrRefuses}
use Rattle.futures_intrusive.specs.Ends.{Counted, OnState}
use Rattle.futures_intrusive.specs.Readers.{Reader}

-- Its reader, its receive, while one waits, and whether it has answered its end.
pub record Follower : Type 0 where
  pub reader : Reader
  pub receive : Option SharedFuture
  pub has_ended : Bool

-- In some hold of the lock a receive was made under its name, which asks for a state newer than this.
abbrev pub AsksNewer : (T : Type 0) → ℕ → SharedFuture → Type 0
AsksNewer T seen receive = (name : ℕ) × (receive.name ≡ Some name)
    × InSomeHold {S = StateMachine T (Option Waker)} (λ old new. Makes old seen name new)

module _ {T : Type 0} where
  -- A poll of a receive of shared ends is the broadcast's, and leaves the counts as they are.
  abbrev pub PollsSharedState : (T → T → Type 0) → (T → Type 0) → Counted (StateMachine T (Option Waker)) → ℕ → Option Waker
      → Poll (Result (Option (ℕ × T)) Fault) → Counted (StateMachine T (Option Waker)) → Type 0
  PollsSharedState is_clone is_infallible = PollsOrRefuses (λ ends name. can_receive (phase_at ends.state name))
      (λ old name waker answer new. OnState (λ before after.
      Answered (Polls is_clone before name waker) (LacksClone is_infallible before name) answer after) old new)
      (Err NoSlot)

  -- What a receive of a state newer than this is answered at once: a clone of one, or that there is no memory, if the clone can fail; that
  -- none will come, from a closed channel that has none. It has to wait if an open channel has none.
  abbrev pub AnswersAtOnce : (T → T → Type 0) → (T → Type 0) → StateMachine T (Option Waker) → ℕ
      → Poll (Result (Option (ℕ × T)) Fault) → Type 0
  AnswersAtOnce is_clone is_infallible held seen (Ready (Ok (Some state))) = TriesReceive is_clone held seen (Some state)
  AnswersAtOnce is_clone is_infallible held seen (Ready (Ok None)) =
      TriesReceive is_clone held seen None × (held.own.is_open ≡ false)
  AnswersAtOnce is_clone is_infallible held seen (Ready (Err fault)) =
      (fault ≡ NoMemory) × MayLackNewer is_infallible (newer_than held.own seen)
  AnswersAtOnce is_clone is_infallible held seen Pending =
      TriesReceive is_clone held seen None × (held.own.is_open ≡ true)

  -- What a stream gives where it was answered with a state, whose number it remembers; or with none, which is its end.
  abbrev pub GivesState : Reader → Option (ℕ × T) → Option (Result T Fault) → Follower → Type 0
  GivesState reader (Some state) given new = (given ≡ Some (Ok state.1))
      × (new ≡ record { reader = record reader { seen = state.0 }; receive = None; has_ended = false })
  GivesState reader None given new = (given ≡ None) × (new ≡ record { reader = reader; receive = None; has_ended = true })

  -- What it gives of an answer. The receive that was polled, if one was, goes on where it has not ended.
  abbrev pub Gives : Reader → Option SharedFuture → Poll (Result (Option (ℕ × T)) Fault) → Poll (Option (Result T Fault)) → Follower → Type 0
  Gives reader receive (Ready (Ok state)) given new =
      (item : Option (Result T Fault)) × (given ≡ Ready item) × GivesState reader state item new
  Gives reader receive (Ready (Err fault)) given new =
      (given ≡ Ready (Some (Err fault))) × (new ≡ record { reader = reader; receive = receive; has_ended = false })
  Gives reader receive Pending given new =
      (given ≡ Pending) × (new ≡ record { reader = reader; receive = receive; has_ended = false })

  -- It polled this receive, which had not ended, and gives what that answered.
  abbrev pub GivesOfReceive : (T → T → Type 0) → (T → Type 0) → Reader → SharedFuture → Bool → Poll (Option (Result T Fault)) → Follower
      → Type 0
  GivesOfReceive is_clone is_infallible reader receive lacks_waker given new =
      IsNew reader.source receive × (answer : Poll (Result (Option (ℕ × T)) Fault))
      × IsUntimedAnswer (PollsSharedState is_clone is_infallible) (Err NoMemory) receive.name receive.has_ended lacks_waker answer
      × Gives reader (Some receive) answer given new

  -- It gives what its channel answered at once in some hold of the lock.
  abbrev pub GivesAtOnce : (T → T → Type 0) → (T → Type 0) → Reader → Poll (Option (Result T Fault)) → Follower → Type 0
  GivesAtOnce is_clone is_infallible reader given new =
      (answer : Result (Option (ℕ × T)) Fault)
      × ((held : StateMachine T (Option Waker)) × AnswersAtOnce is_clone is_infallible held reader.seen (Ready answer))
      × Gives reader None (Ready answer) given new

  -- It had to wait in some hold of the lock. Then no receive could be made; or one was, and it polled that.
  abbrev pub GivesLater : (T → T → Type 0) → (T → Type 0) → Reader → Bool → Poll (Option (Result T Fault)) → Follower → Type 0
  GivesLater is_clone is_infallible reader lacks_waker given new =
      ((held : StateMachine T (Option Waker)) × AnswersAtOnce is_clone is_infallible held reader.seen Pending)
      × (Gives reader None (Ready (Err NoMemory)) given new
      ⊎ ((receive : SharedFuture) × AsksNewer T reader.seen receive
      × GivesOfReceive is_clone is_infallible reader receive lacks_waker given new))

  -- What a poll of a stream gives, and what it is then. One that has ended answers its end again. Another polls its receive, while one
  -- waits; else it asks for a state newer than the last that it gave.
  abbrev pub PollsStates : (T → T → Type 0) → (T → Type 0) → Follower → Bool → Poll (Option (Result T Fault)) → Follower → Type 0
  PollsStates is_clone is_infallible old lacks_waker given new =
      ((old.has_ended ≡ true) × (given ≡ Ready None) × (new ≡ old))
      ⊎ ((old.has_ended ≡ false)
      × (((receive : SharedFuture) × (old.receive ≡ Some receive)
      × GivesOfReceive is_clone is_infallible old.reader receive lacks_waker given new)
      ⊎ ((old.receive ≡ None)
      × (GivesAtOnce is_clone is_infallible old.reader given new
      ⊎ GivesLater is_clone is_infallible old.reader lacks_waker given new))))
