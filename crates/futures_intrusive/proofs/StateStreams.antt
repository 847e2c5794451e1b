-- What a stream of states gives, from what its channel and its receive answered.
use Rattle.std.proofs.Common.{◌≡◌, ◌⊎◌, ℕ, Bool, false, Option, None, Result, Ok, Err, IfOk, subst, inl, inr}
use Rattle.futures.specs.declared.task.Poll.{Poll}
use Rattle.futures.specs.declared.task.Poll.TheVariants.{Ready, Pending}
use Rattle.futures.specs.declared.task.waker.Waker.{Waker}
use Rattle.fi_channels.specs.StateBroadcast.{StateMachine}
use Rattle.fi_parts.specs.declared.errors.Fault.{Fault}
use Rattle.fi_parts.specs.declared.errors.Fault.TheVariants.{NoMemory}
use Rattle.fi_sync.specs.Waiting.{SharedFuture}
use Rattle.futures_intrusive.specs.Readers.{Reader}
use Rattle.futures_intrusive.specs.StateStreams.{Follower, AnswersAtOnce, AsksNewer, Gives, GivesAtOnce, GivesLater, GivesOfReceive}
use Rattle.futures_intrusive.specs.StateStreams.{PollsStates}

-- What follows from what an answer says of its value.
pub ok_of : {A E : Type 0} {P Q : A → Type 0} (answer : Result A E) → IfOk answer P → ((value : A) → P value → Q value) → IfOk answer Q
ok_of (Ok value) shown follows = follows value shown
ok_of (Err error) shown follows = tt

module _ {T : Type 0} (is_clone : T → T → Type 0) (is_infallible : T → Type 0) (lacks_waker : Bool) (given : Poll (Option (Result T Fault)))
    (new old : Follower) (own : Reader) where
  -- Its channel answered at once.
  pub polls_at_once : (told : Poll (Result (Option (ℕ × T)) Fault)) (answer : Result (Option (ℕ × T)) Fault)
      → own ≡ old.reader → old.has_ended ≡ false → old.receive ≡ None → told ≡ Ready answer
      → ((held : StateMachine T (Option Waker)) × AnswersAtOnce is_clone is_infallible held own.seen told)
      → Gives own None (Ready answer) given new → PollsStates is_clone is_infallible old lacks_waker given new
  polls_at_once told answer same lives alone is_told shown gives =
      inr (
        lives,
        inr (
          alone,
          inl (subst (λ r. GivesAtOnce is_clone is_infallible r given new) same
              (answer, (shown.0, subst (λ a. AnswersAtOnce is_clone is_infallible shown.0 own.seen a) is_told shown.1), gives)),
        ),
      )

  -- It had to wait.
  pub polls_later : (told : Poll (Result (Option (ℕ × T)) Fault))
      → own ≡ old.reader → old.has_ended ≡ false → old.receive ≡ None → told ≡ Pending
      → ((held : StateMachine T (Option Waker)) × AnswersAtOnce is_clone is_infallible held own.seen told)
      → Gives own None (Ready (Err NoMemory)) given new
      ⊎ ((receive : SharedFuture) × AsksNewer T own.seen receive
      × GivesOfReceive is_clone is_infallible own receive lacks_waker given new)
      → PollsStates is_clone is_infallible old lacks_waker given new
  polls_later told same lives alone is_told shown gives =
      inr (
        lives,
        inr (
          alone,
          inr (subst (λ r. GivesLater is_clone is_infallible r lacks_waker given new) same
              ((shown.0, subst (λ a. AnswersAtOnce is_clone is_infallible shown.0 own.seen a) is_told shown.1), gives)),
        ),
      )
