-- What a history of a channel of one value says. A history is a list of calls with their answers, the newest first, since some
-- first state.
use Rattle.std.specs.Prelude.{◌≡◌, ⊤, ◌⊎◌, ℕ, ◌+◌, ◌≤◌, true, false, List, [], ◌∷◌, length}
use Rattle.fi_parts.specs.declared.errors.Fault.TheVariants.{NoMemory, NoSlot}
use Rattle.fi_parts.specs.WakerHistory.{IsIn, KeepsWakers}
use Rattle.fi_channels.specs.declared.oneshot.content.Content.{Content}
use Rattle.fi_channels.specs.declared.oneshot.content.Content.TheVariants.{Empty, Full, Spent}
use Rattle.fi_channels.specs.Oneshot.{OneshotMachine, Giving}
use Rattle.fi_run.specs.declared.answer.Answer.{Answer}
use Rattle.fi_run.specs.declared.answer.Answer.TheVariants.{Item, Done, Newly, Refused}
use Rattle.fi_run.specs.declared.oneshot.OneshotCall.{OneshotCall}
use Rattle.fi_run.specs.declared.oneshot.OneshotCall.TheVariants.{Poll, Cancel, TryReceive, Send, Close}
use Rattle.fi_run.specs.WakerChanges.{Subject, on_wakers}
use Rattle.fi_run.specs.WakerChanges.Subject.{Polling, Cancelling, Other}

module _ {T : Type 0} where
  -- one value was put in and received
  abbrev pub IsTaken : List T → List T → Type 0
  IsTaken sent got = (value : T) × (sent ≡ value ∷ []) × (got ≡ value ∷ [])

  -- one value was put in, and what is given of it was received once
  abbrev pub IsGivenOnce : (T → T → Type 0) → List T → List T → Type 0
  IsGivenOnce gives sent got = (value given : T) × gives value given × (sent ≡ value ∷ []) × (got ≡ given ∷ [])

  -- What a channel that gives its value so holds says which values were put in and received and which closes there were: one that
  -- doesn't keep its value gives it once, and is spent then; one that keeps it is spent only by a close.
  abbrev pub Fits : Giving T → Content T → List T → List T → ℕ → Type 0
  Fits giving Empty sent got closes = (sent ≡ []) × (got ≡ []) × (closes ≡ 0)
  Fits giving (Full value) sent got closes = (sent ≡ value ∷ []) × (giving.keeps ≡ false → got ≡ []) × (closes ≡ 0)
  Fits giving Spent sent got closes =
      ((sent ≡ []) × (got ≡ []) × (closes ≡ 1)) ⊎ ((giving.keeps ≡ false) × IsGivenOnce giving.gives sent got × (closes ≡ 0))

  abbrev pub held : Content T → List T
  held (Full value) = value ∷ []
  held content = []

  abbrev pub closes_before : Content T → ℕ
  closes_before Spent = 1
  closes_before content = 0

module _ {T W : Type 0} where
  abbrev pub accepted_step : OneshotCall T W → Answer T W → List T → List T
  accepted_step call (Refused fault) before = before
  accepted_step (Send value) Done before = value ∷ before
  accepted_step call answer before = before

  -- the values that were put in, the newest first: those of the accepted sends, and what the channel held at first
  abbrev pub accepted : OneshotMachine T W → List (OneshotCall T W × Answer T W) → List T
  accepted first [] = held first.own
  accepted first (entry ∷ history) = accepted_step entry.0 entry.1 (accepted first history)

  abbrev pub received_step : OneshotCall T W → Answer T W → List T → List T
  received_step call (Refused fault) before = before
  received_step (Poll slot waker) (Item value) before = value ∷ before
  received_step TryReceive (Item value) before = value ∷ before
  received_step call answer before = before

  -- the values that receives gave, by a poll or at once, the newest first
  abbrev pub received : List (OneshotCall T W × Answer T W) → List T
  received [] = []
  received (entry ∷ history) = received_step entry.0 entry.1 (received history)

  abbrev pub closes_step : OneshotCall T W → Answer T W → ℕ → ℕ
  closes_step call (Refused fault) n = n
  closes_step Close Newly n = n + 1
  closes_step call answer n = n

  -- how many closes were answered Newly; a channel that was spent at first counts as one
  abbrev pub new_closes : OneshotMachine T W → List (OneshotCall T W × Answer T W) → ℕ
  new_closes first [] = closes_before first.own
  new_closes first (entry ∷ history) = closes_step entry.0 entry.1 (new_closes first history)

  -- whom a call concerns
  abbrev pub subject : OneshotCall T W → Subject W
  subject (Poll slot waker) = Polling slot.0 waker
  subject (Cancel slot) = Cancelling slot.0
  subject call = Other

  -- The waker of a pending receive's last poll is registered, or stands in out beside its name, or was handed out since.
  abbrev pub WakersAreKept : OneshotMachine T W → List (OneshotCall T W × Answer T W) → OneshotMachine T W → Type 0
  WakersAreKept first history state = KeepsWakers (λ entry. on_wakers (subject entry.0) entry.1) first.waiting history state.waiting

  -- At most one receive got a value, and that is the one that was put in.
  abbrev pub GivesOnce : OneshotMachine T W → List (OneshotCall T W × Answer T W) → Type 0
  GivesOnce first history = (received history ≡ []) ⊎ IsTaken (accepted first history) (received history)

  -- At most one value was put in or close was new, and never both.
  abbrev pub IsSettledOnce : OneshotMachine T W → List (OneshotCall T W × Answer T W) → Type 0
  IsSettledOnce first history = length (accepted first history) + new_closes first history ≤ 1

  -- what has left Empty is never Empty again
  abbrev pub NeverEmptyAgain : OneshotMachine T W → OneshotMachine T W → Type 0
  NeverEmptyAgain first now = now.own ≡ Empty → first.own ≡ Empty

  -- a channel that was not empty at first holds the same now
  abbrev pub KeepsContent : OneshotMachine T W → OneshotMachine T W → Type 0
  KeepsContent first now = (first.own ≡ Empty) ⊎ (now.own ≡ first.own)

  abbrev pub ContentFits : Giving T → OneshotMachine T W → List (OneshotCall T W × Answer T W) → Content T → Type 0
  ContentFits giving first history content = Fits giving content (accepted first history) (received history) (new_closes first history)

  -- the channel held this value at first, or a send of it was accepted since
  abbrev pub WasPutIn : OneshotMachine T W → List (OneshotCall T W × Answer T W) → T → Type 0
  WasPutIn first history value = IsIn value (accepted first history)

  -- what is given of this value, or a refusal for want of memory, if that may be lacking
  abbrev pub GivesOf : Giving T → T → Answer T W → Type 0
  GivesOf giving value (Item given) = giving.gives value given
  GivesOf giving value (Refused NoMemory) = giving.may_lack value
  GivesOf giving value answer = ⊥

  -- a call and its answer, once these values were put in
  abbrev pub DeliversAfter : Giving T → List T → OneshotCall T W → Answer T W → Type 0
  DeliversAfter giving [] call answer = ⊤
  DeliversAfter giving (value ∷ earlier) (Poll slot waker) (Refused NoSlot) = ⊤
  DeliversAfter giving (value ∷ earlier) (Poll slot waker) answer = GivesOf giving value answer
  DeliversAfter giving (value ∷ earlier) TryReceive answer = GivesOf giving value answer
  DeliversAfter giving (value ∷ earlier) call answer = ⊤

  -- Once a value was put in every poll, and every receive at once, gives of it, whatever is closed later, or is refused: for want of
  -- memory, or as no receive of the polled name can be polled.
  abbrev pub Delivers : Giving T → OneshotMachine T W → List (OneshotCall T W × Answer T W) → Type 0
  Delivers giving first [] = ⊤
  Delivers giving first (entry ∷ history) = DeliversAfter giving (accepted first history) entry.0 entry.1 × Delivers giving first history

  -- What holds of a first state, the history since, and the state now of a channel that gives its value so. One that keeps its
  -- value keeps what it holds, and delivers.
  pub record HistoryHolds (giving : Giving T) (first : OneshotMachine T W) (history : List (OneshotCall T W × Answer T W))
      (state : OneshotMachine T W) : Type 0 where
    pub content : ContentFits giving first history state.own
    pub left : NeverEmptyAgain first state
    pub kept : giving.keeps ≡ true → KeepsContent first state
    pub deliveries : giving.keeps ≡ true → Delivers giving first history
    pub wakers : WakersAreKept first history state
