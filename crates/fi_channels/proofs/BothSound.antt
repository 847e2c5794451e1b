-- What keeps both sides of a store sound: each change of one side.
use Rattle.std.proofs.Common.{◌≡◌, ℕ, Bool, true, List, ◌++◌, Option, Some, None, sym, subst}
use Rattle.fi_parts.specs.NamedPairs.{without_by}
use Rattle.fi_parts.specs.Pairs.{without_pair}
use Rattle.fi_channels.specs.TwoSidesModel.{TwoSidesModel, no_waiters, notify_receives, AreBothSound}
use Rattle.fi_channels.specs.Waiter.{same_waiter, of_receives, sends_in, receives_in}
use Rattle.fi_parts.specs.Waiting.{Waiters, may_be_named, without_future, clear_queue, named_all, AreSound}
use Rattle.fi_parts.specs.declared.phase.Phase.{Phase}
use Rattle.fi_channels.specs.declared.channel.two_sides.Waiter.{Waiter}
use Rattle.fi_channels.specs.declared.channel.two_sides.Waiter.TheVariants.{Receive}
use Rattle.fi_channels.proofs.Sides.{sends-without_receive, receives-without, sends-and_receives}
use Rattle.fi_channels.specs.SideLaws.{receives-and_receives}
use Rattle.fi_parts.proofs.Sound.{sound-empty, sound-without_pair, sound-forgotten, sound-emptied}

module _ {D E W : Type 0} (sending receiving : Option (Phase W) → Bool) where
  pub both_sound-new : sending None ≡ true → receiving None ≡ true →
      AreBothSound sending receiving (no_waiters {D = D} {E = E})
  both_sound-new s r = record { sends = sound-empty sending s; receives = sound-empty receiving r }

  receives_changed : (both : TwoSidesModel D E W) (receives : Waiters E W) (out : List (Waiter × W))
      (pairs : List (ℕ × W)) →
      AreBothSound sending receiving both → receives_in out ≡ pairs → sends_in out ≡ sends_in both.out →
      AreSound receiving receives pairs → AreBothSound sending receiving
      (record both { receives = receives; out = out })
  receives_changed both receives out pairs was own other now = record {
    sends = subst (λ (ps : List (ℕ × W)). AreSound sending both.sends ps) (sym other) was.sends;
    receives = subst (λ (ps : List (ℕ × W)). AreSound receiving receives ps) (sym own) now;
  }

  pub both_sound-take_out_receive : (both : TwoSidesModel D E W) (n : ℕ) → AreBothSound sending receiving both →
      AreBothSound sending receiving (record both { out = without_by same_waiter (Receive n) both.out })
  both_sound-take_out_receive both n was =
      receives_changed both both.receives (without_by same_waiter (Receive n) both.out)
      (without_pair n (receives_in both.out)) was
      (receives-without n both.out) (sends-without_receive n both.out)
      (sound-without_pair receiving both.receives (receives_in both.out) n was.receives)

  pub both_sound-remove_receive : (both : TwoSidesModel D E W) (n : ℕ) → receiving None ≡ true →
      AreBothSound sending receiving both →
      AreBothSound sending receiving
      (record both { receives = without_future both.receives n; out = without_by same_waiter (Receive n) both.out })
  both_sound-remove_receive both n is was =
      receives_changed both (without_future both.receives n) (without_by same_waiter (Receive n) both.out)
      (without_pair n (receives_in both.out)) was
      (receives-without n both.out) (sends-without_receive n both.out)
      (sound-forgotten receiving both.receives (receives_in both.out) n is was.receives)

  -- all queued receives were named, and have this phase
  pub both_sound-notify_receives : (both : TwoSidesModel D E W) (phase : Phase W) → receiving (Some phase) ≡ true →
      may_be_named (Some phase) ≡ true → AreBothSound sending receiving both →
      AreBothSound sending receiving (notify_receives phase both)
  both_sound-notify_receives both phase is may was =
      let named = named_all both.receives in
      receives_changed both (clear_queue phase both.receives) (both.out ++ of_receives named)
      (receives_in both.out ++ named) was
      (receives-and_receives both.out named) (sends-and_receives both.out named)
      (sound-emptied receiving phase both.receives (receives_in both.out) is may was.receives)
