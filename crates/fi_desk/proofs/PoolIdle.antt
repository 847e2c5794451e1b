-- What calls do to a channel and to a semaphore at which nobody waits.
use Rattle.std.specs.Prelude.{◌≡◌, ◌≤◌, ◌+◌, ◌-◌, ◌++◌, ◌∷◌, ◌&&◌, ◌||◌, not, ℕ, Bool, true, false, List, [], refl}
use Rattle.std.specs.Prelude.{Option, Some, None, Result, Ok, Err, if◌then◌else◌}
use Rattle.std.specs.Option.{option_flatten}
use Rattle.std.proofs.Common.{sym, ◌∙◌, ap, subst}
use Rattle.std.proofs.lemmas.Bool.{both_ways, le-leb}
use Rattle.fi_parts.specs.declared.errors.CloseStatus.TheVariants.{NewlyClosed, AlreadyClosed}
use Rattle.fi_parts.specs.declared.phase.Notice.TheVariants.{Renew}
use Rattle.fi_parts.specs.Buffer.{Bounded, popped}
use Rattle.fi_parts.specs.Closed.{is_newly_closed}
use Rattle.fi_parts.specs.Effects.{nobody, completes_first}
use Rattle.fi_parts.specs.Effects.WaiterEffect.{NoChange, NotifiesAll}
use Rattle.fi_parts.specs.Oldest.{asks_of_oldest}
use Rattle.fi_parts.specs.Waiting.{Waiting, front_told}
use Rattle.fi_parts.specs.Waiting as waiting
use Rattle.fi_channels.specs.declared.channel.errors.TryReceiveError.{TryReceiveError}
use Rattle.fi_channels.specs.declared.channel.fields.ReceiveKind.{ReceiveKind}
use Rattle.fi_channels.specs.Channel.{TriesNext, TriesReceive, Closes, ClosesAt}
use Rattle.fi_channels.specs.ChannelWords.{ChannelMachine, tells_oldest, closed, next_value, next_of, with_buffer}
use Rattle.fi_channels.specs.TwoSidedEffects.{TakesTwoSided}
use Rattle.fi_channels.specs.TwoSidedEffects.TwoSidedEffect.{OnReceives, OnSends, Then}
use Rattle.fi_channels.specs.TwoSidesModel.{TwoSidesModel, no_waiters}
use Rattle.fi_locks.specs.Semaphore.{SemaphoreMachine, GivesBack, TriesAcquire, can_take, granted, is_empty}
use Rattle.fi_desk.specs.Pool.{is_none_left}

abbrev is_taken : Result ℕ TryReceiveError → Bool
is_taken (Ok job) = true
is_taken (Err error) = false

abbrev taken_job : Result ℕ TryReceiveError → ℕ
taken_job (Ok job) = job
taken_job (Err error) = 0

module _ {W : Type 0} where
  -- an accepted value tells nobody
  pub tells_nobody : (new : TwoSidesModel (Option ℕ) ReceiveKind W) → TakesTwoSided tells_oldest no_waiters new → new ≡ no_waiters
  tells_nobody new did i = record { sends = did.1 i; receives = did.0.0 i; out = did.0.1 i }

  completes_nobody : (new : TwoSidesModel (Option ℕ) ReceiveKind W) → TakesTwoSided (OnSends NoChange) no_waiters new → new ≡ no_waiters
  completes_nobody new did i = record { sends = did.0.0 i; receives = did.1 i; out = did.0.1 i }

  closes_sends : (new : TwoSidesModel (Option ℕ) ReceiveKind W) → TakesTwoSided (OnSends (NotifiesAll Renew)) no_waiters new →
      new ≡ no_waiters
  unfolding waiting.with_phases waiting.named
  closes_sends new did i = record { sends = did.0.0 i; receives = did.1 i; out = did.0.1 i }

  -- a close tells nobody
  closes_nobody : (new : TwoSidesModel (Option ℕ) ReceiveKind W) →
      TakesTwoSided (Then (OnReceives (NotifiesAll Renew)) (OnSends (NotifiesAll Renew))) no_waiters new → new ≡ no_waiters
  unfolding waiting.with_phases waiting.named
  closes_nobody new (mid, one, other) =
      let at : mid ≡ no_waiters = λ i. record { sends = one.1 i; receives = one.0.0 i; out = one.0.1 i } in
      closes_sends new (subst (λ m. TakesTwoSided (OnSends (NotifiesAll Renew)) m new) at other)

  -- What a receive at once took: the value at the front.
  pub record Took (old : ChannelMachine ℕ W) (job : ℕ) (new : ChannelMachine ℕ W) : Type 0 where
    pub left : List ℕ
    pub items : old.own.buffer.items ≡ job ∷ left
    pub own : new.own ≡ with_buffer old.own (popped old.own.buffer left)
    pub idle : new.waiting ≡ no_waiters

  module _ (old new : ChannelMachine ℕ W) (idle : old.waiting ≡ no_waiters) where
    took_at : (job : ℕ) (items : List ℕ) (is_open : Bool) → old.own.buffer.items ≡ items →
        TriesNext (next_value old.own.buffer items None) is_open old (Ok job) new → Took old job new
    took_at job [] true is did = absurd (both_ways true (ap is_taken did.0) refl)
    took_at job [] false is did = absurd (both_ways true (ap is_taken did.0) refl)
    took_at job (value ∷ left) is_open is did = record {
      left = left;
      items = is ∙ ap (λ (v : ℕ). v ∷ left) (sym (ap taken_job did.0));
      own = did.1.0;
      idle = completes_nobody new.waiting (subst (λ (w : TwoSidesModel (Option ℕ) ReceiveKind W).
          TakesTwoSided (OnSends (completes_first None w.sends.queue)) w new.waiting) idle did.1.1);
    }

    next_is : next_of old ≡ next_value old.own.buffer old.own.buffer.items None
    next_is = ap (λ (w : TwoSidesModel (Option ℕ) ReceiveKind W). next_value old.own.buffer old.own.buffer.items
        (option_flatten (asks_of_oldest w.sends))) idle

    pub took : (job : ℕ) → TriesReceive old (Ok job) new → Took old job new
    took job did = took_at job old.own.buffer.items old.own.is_open refl
        (subst (λ (next : Option (ℕ × Bounded ℕ)). TriesNext next old.own.is_open old (Ok job) new) next_is did)

    -- a refused one changed nothing
    not_taken : (next : Option (ℕ × Bounded ℕ)) (is_open : Bool) (error : TryReceiveError) →
        TriesNext next is_open old (Err error) new → new ≡ old
    not_taken (Some next) is_open error did = absurd (both_ways true (sym (ap is_taken did.0)) refl)
    not_taken None true error did = did.1
    not_taken None false error did = did.1

    pub took_none : (error : TryReceiveError) → TriesReceive old (Err error) new → new ≡ old
    took_none error did = not_taken (next_of old) old.own.is_open error did

    shut_at : (is_open : Bool) → ClosesAt is_open old NewlyClosed new → (new.waiting ≡ no_waiters) × (new.own ≡ closed old.own)
    shut_at true did = (
      closes_nobody new.waiting (subst (λ (w : TwoSidesModel (Option ℕ) ReceiveKind W).
          TakesTwoSided (Then (OnReceives (NotifiesAll Renew)) (OnSends (NotifiesAll Renew))) w new.waiting) idle did.1.1),
      did.1.0,
    )
    shut_at false did = absurd (both_ways true (ap is_newly_closed did.0) refl)

    open_at : (is_open : Bool) → ClosesAt is_open old NewlyClosed new → is_open ≡ true
    open_at true did = refl
    open_at false did = absurd (both_ways true (ap is_newly_closed did.0) refl)

    pub was_open : Closes old NewlyClosed new → old.own.is_open ≡ true
    was_open did = open_at old.own.is_open did

    -- the first close only closes
    pub shut : Closes old NewlyClosed new → (new.waiting ≡ no_waiters) × (new.own ≡ closed old.own)
    shut did = shut_at old.own.is_open did

    -- the others change nothing
    stays_at : (is_open : Bool) → ClosesAt is_open old AlreadyClosed new → new ≡ old
    stays_at true did = absurd (both_ways true (sym (ap is_newly_closed did.0)) refl)
    stays_at false did = did.1

    pub stays_shut : Closes old AlreadyClosed new → new ≡ old
    stays_shut did = stays_at old.own.is_open did

module _ {W : Type 0} where
  -- a telling round at nobody tells nobody
  round_at_nobody : (front rest : List ℕ) (new : Waiting ℕ W) → [] ≡ front ++ rest → new ≡ front_told false nobody front rest →
      new ≡ nobody
  unfolding waiting.with_phases waiting.named
  round_at_nobody [] [] new empty is = is
  round_at_nobody [] (name ∷ rest) new empty is = absurd (both_ways true (ap is_none_left empty) refl)
  round_at_nobody (name ∷ front) rest new empty is = absurd (both_ways true (ap is_none_left empty) refl)

  -- An unfair semaphore at which nobody waits, whose permit was given back.
  pub gave_back : (old new : SemaphoreMachine W) → old.waiting ≡ nobody → old.own.is_fair ≡ false → GivesBack old 1 new →
      (new.waiting ≡ nobody) × (new.own ≡ record old.own { free = old.own.free + 1; held = old.own.held - 1 })
  gave_back old new idle unfair did =
      let told = did.1.2 in
      let mid : did.1.0 ≡ nobody = did.1.1 ∙ idle in (
        round_at_nobody told.0 told.2.1.0 new.waiting
            (sym (ap (λ (w : Waiting ℕ W). w.side.queue) mid) ∙ told.2.1.1)
            (told.2.1.2 ∙ (λ i. front_told (unfair i) (mid i) told.0 told.2.1.0)),
        told.2.0,
      )

  -- One that has a free permit grants it.
  pub acquired : (old : SemaphoreMachine W) (granting : Bool) (new : SemaphoreMachine W) → old.own.is_fair ≡ false → 1 ≤ old.own.free →
      TriesAcquire old 1 granting new → (new.waiting ≡ old.waiting) × (new.own ≡ granted old.own 1)
  acquired old granting new unfair some did =
      let can : can_take old.own old.waiting.side.queue 1 ≡ true =
      ap (λ (fits : Bool). fits && (not old.own.is_fair || (is_empty old.waiting.side.queue || false))) (le-leb 1 old.own.free some)
      ∙ ap (λ (fair : Bool). not fair || (is_empty old.waiting.side.queue || false)) unfair in
      (did.1.1, did.1.0 ∙ ap (λ (g : Bool). if g then granted old.own 1 else old.own) (did.0 ∙ can))
