-- What ties a pool's states, after its calls.
use Rattle.std.specs.Prelude.{◌≡◌, ◌≤◌, ◌+◌, ◌-◌, ◌∷◌, ℕ, Bool, true, false, [], Option, length, Ok}
use Rattle.std.proofs.Common.{sym, ◌∙◌, ap, subst, arith, length-append}
use Rattle.fi_parts.specs.declared.errors.CloseStatus.TheVariants.{NewlyClosed}
use Rattle.fi_channels.specs.declared.channel.fields.ReceiveKind.{ReceiveKind}
use Rattle.fi_channels.specs.Channel.{TriesSend, TriesReceive, Closes}
use Rattle.fi_channels.specs.ChannelWords.{Buffered, ChannelMachine, tells_oldest}
use Rattle.fi_channels.specs.TwoSidedEffects.{TakesTwoSided}
use Rattle.fi_channels.specs.TwoSidesModel.{TwoSidesModel}
use Rattle.fi_locks.specs.declared.semaphore.Permits.{Permits}
use Rattle.fi_locks.specs.Semaphore.{SemaphoreMachine, GivesBack, TriesAcquire}
use Rattle.fi_desk.specs.declared.pool.state.PoolFields.{PoolFields}
use Rattle.fi_desk.specs.Pool.{is_drained, SetsIf}
use Rattle.fi_desk.specs.PoolFields.{machine_of, AreTied, IsPool}
use Rattle.fi_desk.specs.PoolLaws.{open_is_not_drained, running_is_not_drained, waiting_is_not_drained, set_by}
use Rattle.fi_desk.proofs.PoolIdle.{tells_nobody, took, shut, gave_back, acquired}

module _ {W : Type 0} where
  -- the channel was left as it was
  pub same_jobs : (old : PoolFields W) (jobs : ChannelMachine ℕ W) → jobs ≡ old.jobs → IsPool old → IsPool (record old { jobs = jobs })
  same_jobs old jobs same was = subst (λ (j : ChannelMachine ℕ W). IsPool (record old { jobs = j })) (sym same) was

  -- a job was accepted
  pub accepts : (old : PoolFields W) (jobs : ChannelMachine ℕ W) (job : ℕ) → IsPool old → TriesSend old.jobs job (Ok tt) jobs →
      IsPool (record old { jobs = jobs; waiting = old.waiting + 1 })
  accepts old jobs job was did =
      let now : jobs.own ≡ did.2 = did.4.0 in
      let stored : jobs.own ≡ _ = now ∙ did.3.4 in
      let is_open : jobs.own.is_open ≡ true = ap (λ (o : Buffered ℕ). o.is_open) stored ∙ did.0 in
      let new = record old { jobs = jobs; waiting = old.waiting + 1 } in
      record {
        tied = record {
          no_sends = tells_nobody jobs.waiting (subst (λ (w : TwoSidesModel (Option ℕ) ReceiveKind W).
              TakesTwoSided tells_oldest w jobs.waiting) was.tied.no_sends did.4.1);
          no_acquires = was.tied.no_acquires;
          unfair = was.tied.unfair;
          is_open = was.tied.is_open ∙ did.0 ∙ sym is_open;
          counted = ap (λ (n : ℕ). n + 1) was.tied.counted ∙ sym (length-append old.jobs.own.buffer.items (job ∷ []))
              ∙ sym (ap (λ (o : Buffered ℕ). length o.buffer.items) stored);
          capacity = was.tied.capacity ∙ sym (ap (λ (o : Buffered ℕ). o.buffer.capacity) stored);
        };
        set = was.set ∙ open_is_not_drained (machine_of old) did.0 ∙ sym (open_is_not_drained (machine_of new) is_open);
      }

  -- a job was started
  pub starts : (old : PoolFields W) (jobs : ChannelMachine ℕ W) (job : ℕ) (granting : Bool) (permits : SemaphoreMachine W) → IsPool old →
      1 ≤ old.permits.own.free → TriesReceive old.jobs (Ok job) jobs → TriesAcquire old.permits 1 granting permits →
      IsPool (record old { jobs = jobs; permits = permits; waiting = old.waiting - 1 })
  starts old jobs job granting permits was some did got =
      let taken = took old.jobs jobs was.tied.no_sends job did in
      let held = acquired old.permits granting permits was.tied.unfair some got in
      let new = record old { jobs = jobs; permits = permits; waiting = old.waiting - 1 } in
      let runs : permits.own.held ≡ old.permits.own.held + 1 = ap (λ (p : Permits). p.held) held.1 in
      let many : length old.jobs.own.buffer.items ≡ length taken.left + 1 = ap length taken.items ∙ omega arith in
      let left : length jobs.own.buffer.items ≡ length taken.left = ap (λ (o : Buffered ℕ). length o.buffer.items) taken.own in
      record {
        tied = record {
          no_sends = taken.idle;
          no_acquires = held.0 ∙ was.tied.no_acquires;
          unfair = ap (λ (p : Permits). p.is_fair) held.1 ∙ was.tied.unfair;
          is_open = was.tied.is_open ∙ sym (ap (λ (o : Buffered ℕ). o.is_open) taken.own);
          counted = omega (arith, was.tied.counted, many, left);
          capacity = was.tied.capacity ∙ sym (ap (λ (o : Buffered ℕ). o.buffer.capacity) taken.own);
        };
        set = was.set ∙ waiting_is_not_drained (machine_of old) job taken.left taken.items
            ∙ sym (running_is_not_drained (machine_of new) (omega (arith, runs)));
      }

  -- a permit was given back
  pub returns : (old : PoolFields W) (permits : SemaphoreMachine W) → AreTied old → GivesBack old.permits 1 permits →
      AreTied (record old { permits = permits })
  returns old permits was did =
      let back = gave_back old.permits permits was.no_acquires was.unfair did in
      record {
        no_sends = was.no_sends;
        no_acquires = back.0;
        unfair = ap (λ (p : Permits). p.is_fair) back.1 ∙ was.unfair;
        is_open = was.is_open;
        counted = was.counted;
        capacity = was.capacity;
      }

  -- the channel was closed
  pub closes : (old : PoolFields W) (jobs : ChannelMachine ℕ W) → AreTied old → Closes old.jobs NewlyClosed jobs →
      AreTied (record old { jobs = jobs; is_open = false })
  closes old jobs was did =
      let now = shut old.jobs jobs was.no_sends did in
      record {
        no_sends = now.0;
        no_acquires = was.no_acquires;
        unfair = was.unfair;
        is_open = sym (ap (λ (o : Buffered ℕ). o.is_open) now.1);
        counted = was.counted ∙ sym (ap (λ (o : Buffered ℕ). length o.buffer.items) now.1);
        capacity = was.capacity ∙ sym (ap (λ (o : Buffered ℕ). o.buffer.capacity) now.1);
      }

  -- the event was set if the pool is drained now
  pub settles : (old new : PoolFields W) → AreTied old → old.drained.own ≡ false →
      SetsIf (is_drained (machine_of old)) old.drained new.drained → new ≡ record old { drained = new.drained } → IsPool new
  settles old new was reset did rest =
      let flag = set_by (is_drained (machine_of old)) old.drained new.drained reset did in
      let after : PoolFields W = record old { drained = new.drained } in
      let is : IsPool after = record {
        tied = record {
          no_sends = was.no_sends;
          no_acquires = was.no_acquires;
          unfair = was.unfair;
          is_open = was.is_open;
          counted = was.counted;
          capacity = was.capacity;
        };
        set = flag;
      } in
      subst (λ (fields : PoolFields W). IsPool fields) (sym rest) is
