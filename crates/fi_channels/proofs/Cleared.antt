-- A channel that is closed and cleared is sound, owes no wake, and has no send that waits.
use Rattle.std.proofs.Common.{◌≡◌, Bool, true, false, sym, ap, subst, refl, ◌∙◌, arith}
use Rattle.std.proofs.lemmas.Bool.{both_ways}
use Rattle.fi_parts.specs.declared.errors.CloseStatus.{CloseStatus}
use Rattle.fi_parts.specs.Buffer.{Bounded, empty}
use Rattle.fi_parts.specs.Waiting.{is_registered}
use Rattle.fi_channels.specs.Channel.{ClosesAt, Closes, IsSound, OwesNoWake}
use Rattle.fi_channels.specs.ChannelWords.{ChannelMachine, Buffered, with_buffer, send_phase}
use Rattle.fi_channels.specs.Cleared.{ClosesAndClears, NoSendWaits}
use Rattle.fi_channels.proofs.ChannelLaws.{closes}
use Rattle.fi_channels.proofs.ToldReceives.{fewer_told}

module _ {T W : Type 0} where
  abbrev Holds : ChannelMachine T W → Type 0
  Holds state = IsSound state × OwesNoWake state

  closed_by_close : (old new : ChannelMachine T W) (status : CloseStatus) → Closes old status new → new.own.is_open ≡ false
  closed_by_close old new status did = at old.own.is_open refl did
    where
      at : (is_open : Bool) → old.own.is_open ≡ is_open → ClosesAt is_open old status new → new.own.is_open ≡ false
      at true is did = ap (λ (own : Buffered T). own.is_open) did.1.0
      at false is did = ap (λ (m : ChannelMachine T W). m.own.is_open) did.1 ∙ is

  abbrev with_contents : ChannelMachine T W → Bounded T → ChannelMachine T W
  with_contents state buffer = record state { own = with_buffer state.own buffer }

  empty_holds : (state : ChannelMachine T W) → state.own.is_open ≡ false → Holds state
      → Holds (with_contents state (empty state.own.buffer.capacity 0))
  empty_holds state shut was = (
    record { waiters = was.0.waiters; owned = was.0.owned; buffer = (omega arith, omega arith) },
    record {
      receives = λ name now. fewer_told state.waiting.receives _ _ (omega arith) (was.1.receives name now);
      sends = λ name now. absurd (both_ways state.own.is_open shut (was.1.sends name now).0);
    },
  )

  module _ {B : Type 0} (bounded : B → Bounded T) (old new : ChannelMachine T W) (taken : B) where
    pub cleared_holds : ClosesAndClears bounded old taken new → Holds old → Holds new
    cleared_holds did was = subst Holds (sym did.4)
        (empty_holds did.0 (closed_by_close old did.0 did.1 did.2) (closes old did.0 did.1 did.2 was).1)

    pub no_send_waits : ClosesAndClears bounded old taken new → Holds new → NoSendWaits new
    no_send_waits did now name = at (is_registered (send_phase new name)) refl
      where
        shut : new.own.is_open ≡ false
        shut = ap (λ (m : ChannelMachine T W). m.own.is_open) did.4 ∙ closed_by_close old did.0 did.1 did.2

        at : (waits : Bool) → is_registered (send_phase new name) ≡ waits → waits ≡ false
        at false is = refl
        at true is = absurd (both_ways new.own.is_open shut (now.1.sends name is).0)
