-- What the runs of a pool keep. To those who wait, each of its steps is a step of the event.
use Rattle.std.specs.Prelude.{◌≡◌, ◌≢◌, Some, ◌<◌, ◌≤◌, ◌+◌, ◌-◌, ◌==◌, ◌&&◌, ◌++◌, not, ℕ, Bool, true, false, refl}
use Rattle.std.specs.Prelude.{List, [], ◌∷◌, length}
use Rattle.std.proofs.Common.{sym, ◌∙◌, ap, subst, arith, append_assoc, length-append}
use Rattle.std.proofs.lemmas.List.{append-nil}
use Rattle.fi_parts.specs.Buffer.{Fits, popped, empty}
use Rattle.fi_parts.specs.MachineTable.{TableLine}
use Rattle.fi_parts.specs.WakerHistory.WakerChange.{NoEffect}
use Rattle.fi_parts.proofs.Machines.{line_preserves, unchanged}
use Rattle.fi_parts.proofs.WakerHistories.{line_keeps_wakers, kept_at_first}
use Rattle.fi_channels.specs.ChannelWords.{Buffered, with_buffer, closed}
use Rattle.fi_channels.specs.Event as event
use Rattle.fi_channels.specs.Event.{EventMachine}
use Rattle.fi_channels.specs.EventLaws.{rules, was_set, opened_holds}
use Rattle.fi_run.specs.declared.answer.Answer.{Answer}
use Rattle.fi_run.specs.declared.answer.Answer.TheVariants.{Made, Pending, Ready, Item, Nothing, Done, Newly, Already, Woken, Back, Refused}
use Rattle.fi_run.specs.declared.event.EventCall.TheVariants as waits
use Rattle.fi_desk.specs.declared.pool.PoolCall.{PoolCall}
use Rattle.fi_desk.specs.declared.pool.PoolCall.TheVariants.{Submit, Start, Finish, Shutdown, Wait, Poll, Cancel, NextWake}
use Rattle.fi_run.specs.declared.script.row.Row.{Row}
use Rattle.fi_run.specs.EventLaws.{event_is_line, flag_after_step}
use Rattle.fi_run.specs.Outgoing.{TakesOldest}
use Rattle.fi_run.specs.OutgoingLaws.{pops_oldest}
use Rattle.fi_run.specs.WakerChanges.{on_wakers}
use Rattle.fi_desk.specs.Pool.{PoolMachine, is_drained, is_none_left, opened, SetsIf, Accepts, Starts, Finishes, Shuts}
use Rattle.fi_desk.specs.Pool.{KeepsJobs, Step}
use Rattle.fi_desk.specs.Pool.{Opens, IsSound, OwesNoWake, pool_outgoing}
use Rattle.fi_desk.specs.PoolHistory.{accepted_step, started_step, finished_step, accepted_jobs, started_jobs, finished_count}
use Rattle.fi_desk.specs.PoolHistory.{subject, HistoryHolds}
use Rattle.fi_desk.specs.PoolRows.{pool_call}

-- No line of a script asks for the oldest waker.
pub pool_hides : (row : Row) → pool_call row ≢ Some NextWake
pool_hides row e = grind arith

both_off : (one other : Bool) → (one && (other && false)) ≡ false
both_off false other = refl
both_off true false = refl
both_off true true = refl

first_off : (one : Bool) → (one && false) ≡ false
first_off false = refl
first_off true = refl

above_zero : (n : ℕ) → 0 < n → (n == 0) ≡ false
above_zero n some = grind (arith, some)

module _ {W : Type 0} where
  -- A pool is not drained while it is open, while a job runs, and while one waits.
  pub open_is_not_drained : (pool : PoolMachine W) → pool.jobs.is_open ≡ true → is_drained pool ≡ false
  open_is_not_drained pool is =
      ap (λ (is_open : Bool). not is_open && (is_none_left pool.jobs.buffer.items && pool.running == 0)) is

  pub running_is_not_drained : (pool : PoolMachine W) → 0 < pool.running → is_drained pool ≡ false
  running_is_not_drained pool some =
      ap (λ (none : Bool). not pool.jobs.is_open && (is_none_left pool.jobs.buffer.items && none)) (above_zero pool.running some)
      ∙ both_off (not pool.jobs.is_open) (is_none_left pool.jobs.buffer.items)

  pub waiting_is_not_drained : (pool : PoolMachine W) (job : ℕ) (left : List ℕ) → pool.jobs.buffer.items ≡ job ∷ left →
      is_drained pool ≡ false
  waiting_is_not_drained pool job left is =
      ap (λ (items : List ℕ). not pool.jobs.is_open && (is_none_left items && pool.running == 0)) is
      ∙ first_off (not pool.jobs.is_open)

  -- the flag of a reset event afterwards
  pub set_by : (test : Bool) (old new : EventMachine W) → old.own ≡ false → SetsIf test old new → new.own ≡ test
  set_by false old new was did = ap (λ (e : EventMachine W). e.own) did ∙ was
  set_by true old new was did = (subst (λ (flag : Bool). event.SetsFrom flag old new) was did).0

  -- What holds of a pool beside its waits.
  pub record IsBalanced (pool : PoolMachine W) : Type 0 where
    pub set : pool.drained.own ≡ is_drained pool
    pub within : pool.running ≤ pool.limit
    pub fits : Fits pool.jobs.buffer

  same_pool : (old new : PoolMachine W) → new ≡ old → IsBalanced old → IsBalanced new
  same_pool old new same was = subst (λ (p : PoolMachine W). IsBalanced p) (sym same) was

  same_jobs : (old new : PoolMachine W) → new.drained.own ≡ old.drained.own → KeepsJobs old new → IsBalanced old → IsBalanced new
  same_jobs old new flag same was =
      let is : IsBalanced (record old { drained = new.drained }) =
      record { set = flag ∙ was.set; within = was.within; fits = was.fits } in
      same_pool (record old { drained = new.drained }) new same is

  accepts_balanced : (old : PoolMachine W) (job : ℕ) (new : PoolMachine W) → Accepts old job new → IsBalanced old → IsBalanced new
  accepts_balanced old job new did was =
      let jobs = did.2 in
      let stored = did.3 in
      let is_open : jobs.is_open ≡ true = ap (λ (b : Buffered ℕ). b.is_open) stored.4 ∙ did.0 in
      let after = record old { jobs = jobs } in
      let is : IsBalanced after = record {
        set = was.set ∙ open_is_not_drained old did.0 ∙ sym (open_is_not_drained after is_open);
        within = was.within;
        fits = subst (λ (b : Buffered ℕ). Fits b.buffer) (sym stored.4) stored.2;
      } in
      same_pool after new did.4 is

  starts_balanced : (old : PoolMachine W) (job : ℕ) (new : PoolMachine W) → Starts old job new → IsBalanced old → IsBalanced new
  starts_balanced old job new did was =
      let left = did.1 in
      let after = record old { jobs = with_buffer old.jobs (popped old.jobs.buffer left); running = old.running + 1 } in
      let many : length old.jobs.buffer.items ≡ length left + 1 = ap length did.2 ∙ omega arith in
      let is : IsBalanced after = record {
        set = was.set ∙ waiting_is_not_drained old job left did.2 ∙ sym (running_is_not_drained after (omega arith));
        within = omega (arith, did.0);
        fits = (omega (arith, many, was.fits.0), was.fits.1);
      } in
      same_pool after new did.3 is

  finishes_balanced : (old new : PoolMachine W) → Finishes old new → IsBalanced old → IsBalanced new
  finishes_balanced old new did was =
      let after = record old { running = old.running - 1; drained = new.drained } in
      let flag = set_by (is_drained new) old.drained new.drained (was.set ∙ running_is_not_drained old did.0) did.2 in
      let is : IsBalanced after = record {
        set = flag ∙ ap (λ (p : PoolMachine W). is_drained p) did.1;
        within = omega (arith, was.within);
        fits = was.fits;
      } in
      same_pool after new did.1 is

  shuts_balanced : (old new : PoolMachine W) → Shuts old new → IsBalanced old → IsBalanced new
  shuts_balanced old new did was =
      let after = record old { jobs = closed old.jobs; drained = new.drained } in
      let flag = set_by (is_drained new) old.drained new.drained (was.set ∙ open_is_not_drained old did.0) did.2 in
      let is : IsBalanced after = record {
        set = flag ∙ ap (λ (p : PoolMachine W). is_drained p) did.1;
        within = was.within;
        fits = was.fits;
      } in
      same_pool after new did.1 is

  stays_balanced : (old : PoolMachine W) (call : PoolCall W) (answer : Answer ℕ W) (new : PoolMachine W) →
      event.IsSound old.drained → IsBalanced old → Step old call answer new → IsBalanced new
  stays_balanced old call (Refused fault) new sound was did = same_pool old new did.1 was
  stays_balanced old (Submit job) Done new sound was did = accepts_balanced old job new did was
  stays_balanced old (Submit job) (Back given fault) new sound was did = same_pool old new did.2 was
  stays_balanced old Start (Item job) new sound was did = starts_balanced old job new did was
  stays_balanced old Start Nothing new sound was did = same_pool old new did.1 was
  stays_balanced old Finish Done new sound was did = finishes_balanced old new did was
  stays_balanced old Shutdown Newly new sound was did = shuts_balanced old new did was
  stays_balanced old Shutdown Already new sound was did = same_pool old new did.1 was
  stays_balanced old Wait (Made slot) new sound was did =
      same_jobs old new (sym (flag_after_step old.drained waits.Wait (Made slot) new.drained sound did.0)) did.1 was
  stays_balanced old (Poll slot waker) Ready new sound was did =
      same_jobs old new (sym (flag_after_step old.drained (waits.Poll slot waker) Ready new.drained sound did.0)) did.1 was
  stays_balanced old (Poll slot waker) Pending new sound was did =
      same_jobs old new (sym (flag_after_step old.drained (waits.Poll slot waker) Pending new.drained sound did.0)) did.1 was
  stays_balanced old (Cancel slot) Done new sound was did =
      same_jobs old new (sym (flag_after_step old.drained (waits.Cancel slot) Done new.drained sound did.0)) did.1 was
  stays_balanced old NextWake (Woken waker) new sound was did =
      same_jobs old new (sym (flag_after_step old.drained waits.NextWake (Woken waker) new.drained sound did.0)) did.1 was
  stays_balanced old call answer new sound was did = absurd did

  -- the event of a pool that went on to this one
  same_event : (old new : PoolMachine W) (is : PoolMachine W) → new ≡ is → is.drained ≡ old.drained →
      TableLine rules NoEffect old.drained new.drained
  same_event old new is now same = unchanged rules old.drained new.drained (ap (λ (p : PoolMachine W). p.drained) now ∙ same)

  set_if : (test : Bool) (old new : EventMachine W) → SetsIf test old new → TableLine rules NoEffect old new
  set_if true old new did = was_set old new did
  set_if false old new did = unchanged rules old new did

  -- Each step is a line of the event's table.
  is_line : (old : PoolMachine W) (call : PoolCall W) (answer : Answer ℕ W) (new : PoolMachine W) → Step old call answer new →
      TableLine rules (on_wakers (subject call) answer) old.drained new.drained
  is_line old call (Refused fault) new did = same_event old new old did.1 refl
  is_line old (Submit job) Done new did = same_event old new _ did.4 refl
  is_line old (Submit job) (Back given fault) new did = same_event old new old did.2 refl
  is_line old Start (Item job) new did = same_event old new _ did.3 refl
  is_line old Start Nothing new did = same_event old new old did.1 refl
  is_line old Finish Done new did = set_if (is_drained new) old.drained new.drained did.2
  is_line old Shutdown Newly new did = set_if (is_drained new) old.drained new.drained did.2
  is_line old Shutdown Already new did = same_event old new old did.1 refl
  is_line old Wait (Made slot) new did = event_is_line old.drained waits.Wait (Made slot) new.drained did.0
  is_line old (Poll slot waker) Ready new did = event_is_line old.drained (waits.Poll slot waker) Ready new.drained did.0
  is_line old (Poll slot waker) Pending new did = event_is_line old.drained (waits.Poll slot waker) Pending new.drained did.0
  is_line old (Cancel slot) Done new did = event_is_line old.drained (waits.Cancel slot) Done new.drained did.0
  is_line old NextWake (Woken waker) new did = event_is_line old.drained waits.NextWake (Woken waker) new.drained did.0
  is_line old call answer new did = absurd did

  -- the order of the jobs, after each step
  module _ (first accepted begun : List ℕ) (old new : PoolMachine W) (was : first ++ accepted ≡ begun ++ old.jobs.buffer.items) where
    same_order : new.jobs ≡ old.jobs → first ++ accepted ≡ begun ++ new.jobs.buffer.items
    same_order same = was ∙ ap (λ (b : Buffered ℕ). begun ++ b.buffer.items) (sym same)

    jobs_of : (is : PoolMachine W) → new ≡ is → is.jobs ≡ old.jobs → first ++ accepted ≡ begun ++ new.jobs.buffer.items
    jobs_of is now same = same_order (ap (λ (p : PoolMachine W). p.jobs) now ∙ same)

    accepted_last : (job : ℕ) → Accepts old job new → first ++ (accepted ++ job ∷ []) ≡ begun ++ new.jobs.buffer.items
    accepted_last job did =
        let items : new.jobs.buffer.items ≡ old.jobs.buffer.items ++ job ∷ [] =
        ap (λ (p : PoolMachine W). p.jobs.buffer.items) did.4 ∙ ap (λ (b : Buffered ℕ). b.buffer.items) did.3.4 in
        sym (append_assoc first accepted (job ∷ [])) ∙ ap (λ (jobs : List ℕ). jobs ++ job ∷ []) was
        ∙ append_assoc begun old.jobs.buffer.items (job ∷ []) ∙ ap (λ (jobs : List ℕ). begun ++ jobs) (sym items)

    started_first : (job : ℕ) → Starts old job new → first ++ accepted ≡ (begun ++ job ∷ []) ++ new.jobs.buffer.items
    started_first job did =
        let items : new.jobs.buffer.items ≡ did.1 = ap (λ (p : PoolMachine W). p.jobs.buffer.items) did.3 in
        was ∙ ap (λ (jobs : List ℕ). begun ++ jobs) (did.2 ∙ ap (λ (jobs : List ℕ). job ∷ jobs) (sym items))
        ∙ sym (append_assoc begun (job ∷ []) new.jobs.buffer.items)

    order_after : (call : PoolCall W) (answer : Answer ℕ W) → Step old call answer new →
        first ++ accepted_step call answer accepted ≡ started_step call answer begun ++ new.jobs.buffer.items
    order_after call (Refused fault) did = jobs_of old did.1 refl
    order_after (Submit job) Done did = accepted_last job did
    order_after (Submit job) (Back given fault) did = jobs_of old did.2 refl
    order_after Start (Item job) did = started_first job did
    order_after Start Nothing did = jobs_of old did.1 refl
    order_after Finish Done did = jobs_of _ did.1 refl
    order_after Shutdown Newly did = was ∙ ap (λ (p : PoolMachine W). begun ++ p.jobs.buffer.items) (sym did.1)
    order_after Shutdown Already did = jobs_of old did.1 refl
    order_after Wait (Made slot) did = jobs_of _ did.1 refl
    order_after (Poll slot waker) Ready did = jobs_of _ did.1 refl
    order_after (Poll slot waker) Pending did = jobs_of _ did.1 refl
    order_after (Cancel slot) Done did = jobs_of _ did.1 refl
    order_after NextWake (Woken waker) did = jobs_of _ did.1 refl
    order_after call answer did = absurd did

  -- how many run, after each step
  module _ (first : ℕ) (begun : List ℕ) (done : ℕ) (old new : PoolMachine W) (was : first + length begun ≡ done + old.running) where
    as_many : (is : PoolMachine W) → new ≡ is → is.running ≡ old.running → first + length begun ≡ done + new.running
    as_many is now same = was ∙ ap (λ (n : ℕ). done + n) (sym (ap (λ (p : PoolMachine W). p.running) now ∙ same))

    one_more : (job : ℕ) → Starts old job new → first + length (begun ++ job ∷ []) ≡ done + new.running
    one_more job did =
        let running : new.running ≡ old.running + 1 = ap (λ (p : PoolMachine W). p.running) did.3 in
        let many : length (begun ++ job ∷ []) ≡ length begun + 1 = length-append begun (job ∷ []) in
        omega (arith, running, many, was)

    one_less : Finishes old new → first + length begun ≡ (done + 1) + new.running
    one_less did =
        let running : new.running ≡ old.running - 1 = ap (λ (p : PoolMachine W). p.running) did.1 in
        omega (arith, running, did.0, was)

    count_after : (call : PoolCall W) (answer : Answer ℕ W) → Step old call answer new →
        first + length (started_step call answer begun) ≡ finished_step call answer done + new.running
    count_after call (Refused fault) did = as_many old did.1 refl
    count_after (Submit job) Done did = as_many _ did.4 refl
    count_after (Submit job) (Back given fault) did = as_many old did.2 refl
    count_after Start (Item job) did = one_more job did
    count_after Start Nothing did = as_many old did.1 refl
    count_after Finish Done did = one_less did
    count_after Shutdown Newly did = as_many _ did.1 refl
    count_after Shutdown Already did = as_many old did.1 refl
    count_after Wait (Made slot) did = as_many _ did.1 refl
    count_after (Poll slot waker) Ready did = as_many _ did.1 refl
    count_after (Poll slot waker) Pending did = as_many _ did.1 refl
    count_after (Cancel slot) Done did = as_many _ did.1 refl
    count_after NextWake (Woken waker) did = as_many _ did.1 refl
    count_after call answer did = absurd did

  -- the trait's laws
  opened_balanced : (limit capacity reserved : ℕ) → reserved ≤ capacity → IsBalanced (opened {W = W} limit (empty capacity reserved))
  opened_balanced limit capacity reserved fits = record { set = refl; within = omega arith; fits = (omega arith, fits) }

  pub pool_starts : (opening : ℕ × ℕ) (state : PoolMachine W) → Opens opening state → IsSound state × OwesNoWake state
  pool_starts opening state opens =
      let at : IsBalanced state = subst (λ (p : PoolMachine W). IsBalanced p) (sym opens.0)
      (opened_balanced opening.0 opening.1 state.jobs.buffer.reserved
      (subst (λ (p : PoolMachine W). p.jobs.buffer.reserved ≤ p.jobs.buffer.capacity) opens.0 opens.1.1)) in
      let waits : event.IsSound state.drained × event.OwesNoWake state.drained =
      subst (λ (p : PoolMachine W). event.IsSound p.drained × event.OwesNoWake p.drained) (sym opens.0) (opened_holds false) in
      (record { waits = waits.0; set = at.set; within = at.within; fits = at.fits }, waits.1)

  pub pool_keeps : (old : PoolMachine W) (call : PoolCall W) (answer : Answer ℕ W) (new : PoolMachine W) →
      IsSound old → OwesNoWake old → Step old call answer new → IsSound new × OwesNoWake new
  pool_keeps old call answer new sound no_wake did =
      let waits = line_preserves rules old.drained new.drained (is_line old call answer new did) (sound.waits, no_wake) in
      let now = stays_balanced old call answer new sound.waits
      (record { set = sound.set; within = sound.within; fits = sound.fits }) did in
      (record { waits = waits.0; set = now.set; within = now.within; fits = now.fits }, waits.1)

  pub pool_takes_oldest : (old : PoolMachine W) (answer : Answer ℕ W) (new : PoolMachine W) → Step old NextWake answer new →
      TakesOldest pool_outgoing (λ waker. Woken waker) old answer new
  pool_takes_oldest old (Woken waker) new did =
      let popped = pops_oldest (λ found. Woken found) old.drained waker new.drained did.0 in (
        popped.0,
        popped.1,
        ap (λ (p : PoolMachine W). pool_outgoing.without_wakers p) did.1
            ∙ ap (λ (e : EventMachine W). record old { drained = e }) popped.2,
      )
  pool_takes_oldest old (Refused fault) new did = absurd did.0
  pool_takes_oldest old answer new did = absurd did

  pub pool_history_initial : (state : PoolMachine W) → HistoryHolds state [] state
  pool_history_initial state = record {
    order = append-nil state.jobs.buffer.items;
    count = omega arith;
    wakers = kept_at_first {E = PoolCall W × Answer ℕ W} (λ entry. on_wakers (subject entry.0) entry.1) state.drained.waiting;
  }

  pub pool_history_preserved : (first : PoolMachine W) (history : List (PoolCall W × Answer ℕ W)) (old : PoolMachine W)
      (call : PoolCall W) (answer : Answer ℕ W) (new : PoolMachine W) →
      IsSound old → OwesNoWake old → HistoryHolds first history old → Step old call answer new →
      HistoryHolds first ((call, answer) ∷ history) new
  pool_history_preserved first history old call answer new sound no_wake was did = record {
    order = order_after first.jobs.buffer.items (accepted_jobs history) (started_jobs history) old new was.order call answer did;
    count = count_after first.running (started_jobs history) (finished_count history) old new was.count call answer did;
    wakers = line_keeps_wakers rules (λ entry. on_wakers (subject entry.0) entry.1) first.drained.waiting history (call, answer)
        old.drained new.drained sound.waits (is_line old call answer new did) was.wakers;
  }
