-- What the runs of a channel of one value keep.
use Rattle.std.specs.Prelude.{◌≡◌, ◌⊎◌, ℕ, ◌+◌, Bool, true, false, Option, Some, None, Result, Ok, Err, List, [], ◌∷◌, refl}
use Rattle.std.proofs.Common.{sym, ◌∙◌, ap, subst, inl, inr, arith}
use Rattle.std.proofs.lemmas.Bool.{both_ways}
use Rattle.futures.specs.declared.task.Poll as polls
use Rattle.futures.specs.declared.task.Poll.TheVariants as polled
use Rattle.fi_parts.specs.declared.errors.ChannelSendError.{ChannelSendError}
use Rattle.fi_parts.specs.declared.errors.CloseStatus.{CloseStatus}
use Rattle.fi_parts.specs.declared.errors.CloseStatus.TheVariants.{NewlyClosed, AlreadyClosed}
use Rattle.fi_parts.specs.declared.errors.Fault.TheVariants as faults
use Rattle.fi_parts.specs.declared.errors.Fault.TheVariants.{Closed, NoMemory, NoSlot}
use Rattle.fi_parts.specs.declared.phase.Phase.{Phase}
use Rattle.fi_parts.specs.declared.phase.Phase.TheVariants.{Fresh, Registered}
use Rattle.fi_parts.specs.Machine.{phase_at}
use Rattle.fi_parts.specs.MachineTable.{TableLine}
use Rattle.fi_parts.specs.Waiting.{is_registered}
use Rattle.fi_parts.specs.WakerHistory.{IsIn}
use Rattle.fi_parts.proofs.Machines.{line_preserves, unchanged, inserts, removes, pops}
use Rattle.fi_parts.proofs.WakerHistories.{line_keeps_wakers, kept_at_first}
use Rattle.fi_channels.specs.declared.oneshot.content.Content.{Content}
use Rattle.fi_channels.specs.declared.oneshot.content.Content.TheVariants.{Empty, Full, Spent}
use Rattle.fi_channels.specs.Oneshot.{OneshotMachine, Giving, GivesFrom, taking, left_by, can_receive, has_closed, MayLack}
use Rattle.fi_channels.specs.Oneshot.{MayLackFor, FreshPolls, PollsAs, TriesReceive, SendsAt, ClosesAt, IsSound, OwesNoWake}
use Rattle.fi_channels.specs.OneshotLaws as laws
use Rattle.fi_channels.specs.OneshotLaws.{rules, full_empty, spent_empty}
use Rattle.fi_run.specs.declared.answer.Answer.{Answer}
use Rattle.fi_run.specs.declared.answer.Answer.TheVariants.{Made, Pending, Item, Nothing, Done, Newly, Already, Woken, Back, Refused}
use Rattle.fi_run.specs.declared.oneshot.OneshotCall.{OneshotCall}
use Rattle.fi_run.specs.declared.oneshot.OneshotCall.TheVariants.{Receive, Poll, Cancel, TryReceive, Send, Close, NextWake}
use Rattle.fi_run.specs.Outgoing.{TakesOldest, machine_outgoing}
use Rattle.fi_run.specs.OutgoingLaws.{pops_oldest}
use Rattle.fi_run.specs.WakerChanges.{on_wakers}
use Rattle.fi_run.specs.Oneshot.{Step, Opens}
use Rattle.fi_run.specs.OneshotHistory.{subject, accepted, received, new_closes, Fits, ContentFits, GivesOnce, IsSettledOnce}
use Rattle.fi_run.specs.OneshotHistory.{GivesOf, DeliversAfter, WasPutIn, HistoryHolds}

full_spent : {T : Type 0} (value : T) → Full value ≡ Spent → ⊥
full_spent value e = cc

full_same : {T : Type 0} (x y : T) → Full x ≡ Full y → x ≡ y
full_same x y e = cc

module _ {T : Type 0} (giving : Giving T) where
  -- a channel that keeps its value holds each one that was put in
  kept_in : (content : Content T) (sent got : List T) (closes : ℕ) (value : T) → giving.keeps ≡ true → Fits giving content sent got closes →
      IsIn value sent → content ≡ Full value
  kept_in Empty sent got closes value keeps fits put = absurd (subst (IsIn value) fits.0 put)
  kept_in (Full x) sent got closes value keeps fits put =
      elim (subst (IsIn value) fits.0 put) [ inl same ↦ ap (λ (v : T). let c : Content T = Full v in c) same | inr none ↦ absurd none ]
  kept_in Spent sent got closes value keeps fits put = elim fits [
    | inl closed ↦ absurd (subst (IsIn value) closed.0 put)
    | inr given ↦ absurd (both_ways giving.keeps given.0 keeps)
  ]

module _ {T W : Type 0} where
  pub oneshot_starts : (opening : Unit {0}) (state : OneshotMachine T W) → Opens opening state → IsSound state × OwesNoWake state
  oneshot_starts opening state opens =
      subst (λ (s : OneshotMachine T W). IsSound s × OwesNoWake s) (sym opens) (laws.opened_holds {T = T} {W = W})

  -- what a send or a close with this answer did to the content
  abbrev AfterSend : OneshotMachine T W → OneshotMachine T W → T → Result (Unit {0}) (ChannelSendError T) → Type 0
  AfterSend old new value (Ok x) = (old.own ≡ Empty) × (new.own ≡ Full value)
  AfterSend old new value (Err e) = new.own ≡ old.own

  abbrev AfterClose : OneshotMachine T W → OneshotMachine T W → CloseStatus → Type 0
  AfterClose old new NewlyClosed = (old.own ≡ Empty) × (new.own ≡ Spent)
  AfterClose old new AlreadyClosed = new.own ≡ old.own

  module _ (old new : OneshotMachine T W) where
    send_after : (value : T) (answer : Result (Unit {0}) (ChannelSendError T)) (content : Content T) → old.own ≡ content →
        SendsAt content old value answer new → AfterSend old new value answer
    send_after value answer Empty is did = subst (AfterSend old new value) (sym did.0) (is, did.1.0)
    send_after value answer content is did = subst (AfterSend old new value) (sym did.0) did.1.0

    sent_after : (value : T) (answer : Result (Unit {0}) (ChannelSendError T)) → SendsAt old.own old value answer new →
        AfterSend old new value answer
    sent_after value answer did = send_after value answer old.own refl did

    close_after : (status : CloseStatus) (content : Content T) → old.own ≡ content → ClosesAt content old status new →
        AfterClose old new status
    close_after status Empty is did = subst (AfterClose old new) (sym did.0) (is, did.1.0)
    close_after status content is did = subst (AfterClose old new) (sym did.0) did.1.0

    closed_after : (status : CloseStatus) → ClosesAt old.own old status new → AfterClose old new status
    closed_after status did = close_after status old.own refl did

module _ {T W : Type 0} (giving : Giving T) where
  -- Each step is a line of the table.
  is_line : (old : OneshotMachine T W) (call : OneshotCall T W) (answer : Answer T W) (new : OneshotMachine T W) →
      Step giving old call answer new → TableLine rules (on_wakers (subject call) answer) old new
  is_line old call (Refused fault) new did = unchanged rules old new did.1
  is_line old Receive (Made slot) new did = inserts rules slot.0 tt old new did
  is_line old (Poll slot waker) Pending new did = (laws.polled giving old slot.0 waker polled.Pending new did).line
  is_line old (Poll slot waker) (Item value) new did = (laws.polled giving old slot.0 waker (polled.Ready (Some value)) new did).line
  is_line old (Poll slot waker) Nothing new did = (laws.polled giving old slot.0 waker (polled.Ready None) new did).line
  is_line old (Cancel slot) Done new did = removes rules slot.0 old new did
  is_line old TryReceive (Item value) new did = laws.tried old new giving (Ok (Some value)) did
  is_line old TryReceive Nothing new did = laws.tried old new giving (Ok None) did
  is_line old (Send value) Done new did = laws.sent old new value (Ok tt) did
  is_line old (Send value) (Back given Closed) new did = laws.sent old new value (Err (record { 0 = value })) did.1
  is_line old Close Newly new did = laws.closed old new NewlyClosed did
  is_line old Close Already new did = laws.closed old new AlreadyClosed did
  is_line old NextWake (Woken waker) new did = pops rules waker old new did
  is_line old call answer new did = absurd did

  -- what a poll with this answer found, and left
  abbrev AfterPoll : OneshotMachine T W → OneshotMachine T W → polls.Poll (Option T) → Type 0
  AfterPoll old new polled.Pending = (old.own ≡ Empty) × (new.own ≡ old.own)
  AfterPoll old new (polled.Ready None) = (old.own ≡ Spent) × (new.own ≡ old.own)
  AfterPoll old new (polled.Ready (Some given)) =
      (value : T) × (old.own ≡ Full value) × giving.gives value given × (new.own ≡ left_by giving.keeps value)

  module _ (old new : OneshotMachine T W) (name : ℕ) (waker : W) (answer : polls.Poll (Option T)) where
    fresh_after : (content : Content T) → old.own ≡ content → FreshPolls giving content old name waker answer new → AfterPoll old new answer
    fresh_after Empty is did = subst (AfterPoll old new) (sym did.0) (is, did.1.0 ∙ sym is)
    fresh_after (Full value) is did = subst (AfterPoll old new) (sym did.2) (value, is, did.1, did.3.0)
    fresh_after Spent is did = subst (AfterPoll old new) (sym did.0) (is, did.1.0 ∙ sym is)

    poll_as : (phase : Option (Phase W)) → phase_at old name ≡ phase → OwesNoWake old → PollsAs giving phase old name waker answer new →
        AfterPoll old new answer
    poll_as (Some Fresh) is no_wake did = fresh_after old.own refl did
    poll_as (Some (Registered before)) is no_wake did = subst (AfterPoll old new) (sym did.0) (no_wake name (ap is_registered is), did.1.0)
    poll_as phase is no_wake did = absurd did

    poll_after : OwesNoWake old → PollsAs giving (phase_at old name) old name waker answer new → AfterPoll old new answer
    poll_after no_wake did = poll_as (phase_at old name) refl no_wake did

  module _ (old new : OneshotMachine T W) (answer : Option T) where
    try_at : (content left : Content T) → old.own ≡ content → has_closed content ≡ true → GivesFrom giving content answer left →
        new.own ≡ left → AfterPoll old new (polled.Ready answer)
    try_at Empty left is closed gives now = absurd (both_ways false refl closed)
    try_at (Full value) left is closed gives now =
        subst (λ got. AfterPoll old new (polled.Ready got)) (sym gives.2) (value, is, gives.1, now ∙ gives.3)
    try_at Spent left is closed gives now =
        subst (λ got. AfterPoll old new (polled.Ready got)) (sym gives.0) (is, now ∙ gives.1 ∙ sym is)

    -- what a receive at once found, and left: as a poll that is ready
    try_after : TriesReceive giving old (Ok answer) new → AfterPoll old new (polled.Ready answer)
    try_after did = try_at old.own did.1 refl did.0 did.2 did.3.0

  may_lack : (phase : Option (Phase W)) (content : Content T) (value : T) → content ≡ Full value → MayLack giving phase content →
      giving.may_lack value
  may_lack (Some Fresh) (Full held) value is lacks = subst giving.may_lack (full_same held value is) lacks
  may_lack phase content value is lacks = absurd lacks

  module _ (old : OneshotMachine T W) (new : OneshotMachine T W) (no_wake : OwesNoWake old) where
    gives_at : (value given : T) → old.own ≡ Full value → AfterPoll old new (polled.Ready (Some given)) → giving.gives value given
    gives_at value given full now = subst (λ (v : T). giving.gives v given) (full_same now.0 value (sym now.1 ∙ full)) now.2

    -- what each call was answered while the channel held this value
    delivers_after : (value : T) (earlier : List T) (call : OneshotCall T W) (answer : Answer T W) → old.own ≡ Full value →
        Step giving old call answer new → DeliversAfter giving (value ∷ earlier) call answer
    delivers_after value earlier (Poll slot waker) (Item given) full did =
        gives_at value given full (poll_after old new slot.0 waker (polled.Ready (Some given)) no_wake did)
    delivers_after value earlier (Poll slot waker) (Refused NoMemory) full did = may_lack (phase_at old slot.0) old.own value full did.0
    delivers_after value earlier (Poll slot waker) (Refused NoSlot) full did = tt
    delivers_after value earlier (Poll slot waker) (Refused fault) full did = absurd did.0
    delivers_after value earlier (Poll slot waker) Pending full did =
        absurd (full_empty value (sym full ∙ (poll_after old new slot.0 waker polled.Pending no_wake did).0))
    delivers_after value earlier (Poll slot waker) Nothing full did =
        absurd (full_spent value (sym full ∙ (poll_after old new slot.0 waker (polled.Ready None) no_wake did).0))
    delivers_after value earlier (Poll slot waker) answer full did = absurd did
    delivers_after value earlier TryReceive (Item given) full did = gives_at value given full (try_after old new (Some given) did)
    delivers_after value earlier TryReceive (Refused NoMemory) full did = subst (MayLackFor giving) full did.0
    delivers_after value earlier TryReceive (Refused faults.Empty) full did =
        absurd (both_ways (has_closed old.own) did.0 (ap has_closed full))
    delivers_after value earlier TryReceive (Refused fault) full did = absurd did.0
    delivers_after value earlier TryReceive Nothing full did =
        absurd (full_spent value (sym full ∙ (try_after old new None did).0))
    delivers_after value earlier TryReceive answer full did = absurd did
    delivers_after value earlier call answer full did = tt

    -- the same of a poll of a receive that may be polled
    pub gives_of : (value : T) (slot : ℕ) (waker : W) (answer : Answer T W) → old.own ≡ Full value →
        can_receive (phase_at old slot) ≡ true →
        Step giving old (Poll (record { 0 = slot }) waker) answer new → GivesOf giving value answer
    gives_of value slot waker (Refused NoSlot) full can did = absurd (both_ways (can_receive (phase_at old slot)) did.0 can)
    gives_of value slot waker answer full can did = delivers_after value [] (Poll (record { 0 = slot }) waker) answer full did

    delivers : (sent got : List T) (closes : ℕ) (call : OneshotCall T W) (answer : Answer T W) → giving.keeps ≡ true →
        Fits giving old.own sent got closes → Step giving old call answer new → DeliversAfter giving sent call answer
    delivers [] got closes call answer keeps fits did = tt
    delivers (value ∷ earlier) got closes call answer keeps fits did =
        delivers_after value earlier call answer (kept_in giving old.own (value ∷ earlier) got closes value keeps fits (inl refl)) did

  module _ (first : OneshotMachine T W) (history : List (OneshotCall T W × Answer T W)) where
    -- what the content says once these values were put in and received, with so many closes
    abbrev SaysOf : List T → List T → ℕ → Content T → Type 0
    SaysOf sent got closes content = Fits giving content sent got closes × (content ≡ Empty → first.own ≡ Empty)
        × (giving.keeps ≡ true → (first.own ≡ Empty) ⊎ (content ≡ first.own))

    -- what it says after this history
    abbrev Says : List (OneshotCall T W × Answer T W) → Content T → Type 0
    Says now content = SaysOf (accepted first now) (received now) (new_closes first now) content

    -- what it says once a receive, by a poll or at once, was given this besides
    abbrev GaveAfter : T → Content T → Type 0
    GaveAfter given content = SaysOf (accepted first history) (given ∷ received history) (new_closes first history) content

    gave_left : (keeps : Bool) → giving.keeps ≡ keeps → (value given : T) → giving.gives value given → Says history (Full value) →
        GaveAfter given (left_by keeps value)
    gave_left true is value given gives says = (
      (says.0.0, λ away. absurd (both_ways giving.keeps away is), says.0.2),
      λ e. absurd (full_empty value e),
      says.2,
    )
    gave_left false is value given gives says = (
      inr (is, (value, given, gives, says.0.0, ap (λ got. given ∷ got) (says.0.1 is)), says.0.2),
      λ e. absurd (spent_empty e),
      λ keeps. absurd (both_ways giving.keeps is keeps),
    )

    gave_after : (given : T) (old new : OneshotMachine T W) → Says history old.own → AfterPoll old new (polled.Ready (Some given)) →
        GaveAfter given new.own
    gave_after given old new says now = rw now.3 (gave_left giving.keeps refl now.0 given now.2 (subst (Says history) now.1 says))

    content_after : (old : OneshotMachine T W) (call : OneshotCall T W) (answer : Answer T W) (new : OneshotMachine T W) → OwesNoWake old →
        Says history old.own → Step giving old call answer new → Says ((call, answer) ∷ history) new.own
    content_after old call (Refused fault) new no_wake says did = rw (ap (λ (s : OneshotMachine T W). s.own) did.1) says
    content_after old Receive (Made slot) new no_wake says did = rw did.0 says
    content_after old (Poll slot waker) Pending new no_wake says did =
        rw (poll_after old new slot.0 waker polled.Pending no_wake did).1 says
    content_after old (Poll slot waker) (Item given) new no_wake says did =
        gave_after given old new says (poll_after old new slot.0 waker (polled.Ready (Some given)) no_wake did)
    content_after old (Poll slot waker) Nothing new no_wake says did =
        rw (poll_after old new slot.0 waker (polled.Ready None) no_wake did).1 says
    content_after old (Cancel slot) Done new no_wake says did = rw did.0 says
    content_after old TryReceive (Item given) new no_wake says did = gave_after given old new says (try_after old new (Some given) did)
    content_after old TryReceive Nothing new no_wake says did = rw (try_after old new None did).1 says
    content_after old (Send value) Done new no_wake says did =
        let now = sent_after old new value (Ok tt) did in
        let was = subst (Says history) now.0 says in
        rw now.1 (
          (ap (λ sent. value ∷ sent) was.0.0, λ away. was.0.1, was.0.2),
          λ e. absurd (full_empty value e),
          λ keeps. inl (was.1 refl),
        )
    content_after old (Send value) (Back given Closed) new no_wake says did =
        rw (sent_after old new value (Err (record { 0 = value })) did.1) says
    content_after old Close Newly new no_wake says did =
        let now = closed_after old new NewlyClosed did in
        let was = subst (Says history) now.0 says in
        rw now.1 (inl (was.0.0, was.0.1, ap (λ n. n + 1) was.0.2), λ e. absurd (spent_empty e), λ keeps. inl (was.1 refl))
    content_after old Close Already new no_wake says did = rw (closed_after old new AlreadyClosed did) says
    content_after old NextWake (Woken waker) new no_wake says did = rw did.0 says
    content_after old call answer new no_wake says did = absurd did

  -- the trait's laws
  pub oneshot_keeps : (old : OneshotMachine T W) (call : OneshotCall T W) (answer : Answer T W) (new : OneshotMachine T W) →
      IsSound old → OwesNoWake old → Step giving old call answer new → IsSound new × OwesNoWake new
  oneshot_keeps old call answer new sound no_wake did = line_preserves rules old new (is_line old call answer new did) (sound, no_wake)

  fits_first : (content : Content T) (state : OneshotMachine T W) → state.own ≡ content → ContentFits giving state [] state.own
  fits_first Empty state is = rw is (refl, refl, refl)
  fits_first (Full value) state is = rw is (refl, λ away. refl, refl)
  fits_first Spent state is = rw is (inl (refl, refl, refl))

  pub oneshot_history_initial : (state : OneshotMachine T W) → HistoryHolds giving state [] state
  oneshot_history_initial state = record {
    content = fits_first state.own state refl;
    left = λ e. e;
    kept = λ keeps. inr refl;
    deliveries = λ keeps. tt;
    wakers = kept_at_first {E = OneshotCall T W × Answer T W} (λ entry. on_wakers (subject entry.0) entry.1) state.waiting;
  }

  pub oneshot_history_preserved : (first : OneshotMachine T W) (history : List (OneshotCall T W × Answer T W)) (old : OneshotMachine T W)
      (call : OneshotCall T W) (answer : Answer T W) (new : OneshotMachine T W) → IsSound old → OwesNoWake old →
      HistoryHolds giving first history old → Step giving old call answer new → HistoryHolds giving first ((call, answer) ∷ history) new
  oneshot_history_preserved first history old call answer new sound no_wake was did =
      let says = content_after first history old call answer new no_wake (was.content, was.left, was.kept) did in
      record {
        content = says.0;
        left = says.1;
        kept = says.2;
        deliveries = λ keeps. (
          delivers old new no_wake (accepted first history) (received history) (new_closes first history) call answer keeps was.content did,
          was.deliveries keeps,
        );
        wakers = line_keeps_wakers rules (λ entry. on_wakers (subject entry.0) entry.1) first.waiting history (call, answer) old new sound
            (is_line old call answer new did) was.wakers;
      }

  -- what the content says in plain words
  pub settled_by : (content : Content T) (first : OneshotMachine T W) (history : List (OneshotCall T W × Answer T W)) →
      ContentFits giving first history content → IsSettledOnce first history
  settled_by Empty first history fits = rw (fits.0, fits.2) (omega arith)
  settled_by (Full value) first history fits = rw (fits.0, fits.2) (omega arith)
  settled_by Spent first history fits = elim fits [
    | inl closed ↦ rw (closed.0, closed.2) (omega arith)
    | inr given ↦ rw (given.1.3, given.2) (omega arith)
  ]

  pub holds_value : (first now : OneshotMachine T W) (history : List (OneshotCall T W × Answer T W)) (value : T) → giving.keeps ≡ true →
      ContentFits giving first history now.own → WasPutIn first history value → now.own ≡ Full value
  holds_value first now history value keeps fits put =
      kept_in giving now.own (accepted first history) (received history) (new_closes first history) value keeps fits put

module _ {T W : Type 0} where
  pub once_by : (content : Content T) (first : OneshotMachine T W) (history : List (OneshotCall T W × Answer T W)) →
      ContentFits taking first history content → GivesOnce first history
  once_by Empty first history fits = inl fits.1
  once_by (Full value) first history fits = inl (fits.1 refl)
  once_by Spent first history fits = elim fits [
    | inl closed ↦ inl closed.1
    | inr given ↦ inr (given.1.0, given.1.3, given.1.4 ∙ ap (λ (x : T). x ∷ []) given.1.2)
  ]

  -- what is taken needs no memory, so of all calls only the making of a receive lacks it
  pub makings_lack : (old new : OneshotMachine T W) (call : OneshotCall T W) → Step taking old call (Refused NoMemory) new →
      call ≡ Receive
  makings_lack old new Receive did = refl
  makings_lack old new (Poll slot waker) did = absurd (laws.never_lacks (phase_at old slot.0) old.own did.0)
  makings_lack old new TryReceive did = absurd (laws.takes_without old.own did.0)
  makings_lack old new call did = absurd did.0

pub oneshot_takes_oldest : {T W : Type 0} (giving : Giving T) (old : OneshotMachine T W) (answer : Answer T W) (new : OneshotMachine T W)
    → Step giving old NextWake answer new → TakesOldest machine_outgoing (λ waker. Woken waker) old answer new
oneshot_takes_oldest giving old (Woken waker) new did = pops_oldest (λ found. Woken found) old waker new did
oneshot_takes_oldest giving old (Refused fault) new did = absurd did.0
oneshot_takes_oldest giving old answer new did = absurd did
