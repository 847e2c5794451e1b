-- Which sends, receives and streams of a channel are as fit after a call as before it.
use Rattle.std.specs.Prelude.{◌≡◌, ◌≢◌, ⊤, ℕ, true, is_some}
use Rattle.fi_channels.specs.ChannelWords.{ChannelMachine, can_send, can_receive, can_stream, send_phase, receive_phase, kind_of}

module _ {T W : Type 0} where
  -- Of these sends and these receives, whoever lives stays live, and whoever can be polled can still be polled.
  pub record TheseStay (sends receives : ℕ → Type 0) (old new : ChannelMachine T W) : Type 0 where
    pub sends_live : (name : ℕ) → sends name → is_some (send_phase old name) ≡ true → is_some (send_phase new name) ≡ true
    pub sends_pollable : (name : ℕ) → sends name → can_send (send_phase old name) ≡ true → can_send (send_phase new name) ≡ true
    pub receives_live : (name : ℕ) → receives name → is_some (receive_phase old name) ≡ true → is_some (receive_phase new name) ≡ true
    pub receives_pollable : (name : ℕ) → receives name → can_receive (kind_of old name) (receive_phase old name) ≡ true →
        can_receive (kind_of new name) (receive_phase new name) ≡ true
    pub streams_pollable : (name : ℕ) → receives name → can_stream (kind_of old name) (receive_phase old name) ≡ true →
        can_stream (kind_of new name) (receive_phase new name) ≡ true

  -- All sends and receives.
  abbrev pub AllStay : ChannelMachine T W → ChannelMachine T W → Type 0
  AllStay = TheseStay (λ name. ⊤) (λ name. ⊤)

  -- All but this send.
  abbrev pub OtherSendsStay : ℕ → ChannelMachine T W → ChannelMachine T W → Type 0
  OtherSendsStay send = TheseStay (λ name. name ≢ send) (λ name. ⊤)

  -- All but this receive.
  abbrev pub OtherReceivesStay : ℕ → ChannelMachine T W → ChannelMachine T W → Type 0
  OtherReceivesStay receive = TheseStay (λ name. ⊤) (λ name. name ≢ receive)

  -- Whichever send lives has another name than this, and whichever receive.
  abbrev pub IsApartFromSends : ℕ → ChannelMachine T W → Type 0
  IsApartFromSends name machine = (other : ℕ) → is_some (send_phase machine other) ≡ true → other ≢ name

  abbrev pub IsApartFromReceives : ℕ → ChannelMachine T W → Type 0
  IsApartFromReceives name machine = (other : ℕ) → is_some (receive_phase machine other) ≡ true → other ≢ name
