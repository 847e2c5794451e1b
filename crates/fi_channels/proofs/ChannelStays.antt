-- Which sends, receives and streams of a channel stay fit: all but the one that a call ends or removes.
use Rattle.std.specs.Prelude.{◌≡◌, ◌≢◌, ⊤, ℕ, true, false, Option, Some, None, is_some, Result, Ok, Err, IfOk, OnErr, refl}
use Rattle.std.proofs.Common.{ap, sym, ◌∙◌}
use Rattle.std.proofs.lemmas.Bool.{both_ways}
use Rattle.futures.specs.Poll.{OnPending}
use Rattle.futures.specs.declared.task.Poll.{Poll}
use Rattle.futures.specs.declared.task.Poll.TheVariants.{Ready, Pending}
use Rattle.fi_parts.specs.declared.phase.Phase.{Phase}
use Rattle.fi_parts.specs.MachineTable.{poll_change}
use Rattle.fi_parts.specs.WakerHistory.{WakerChange}
use Rattle.fi_parts.specs.WakerHistory.WakerChange.{Leaves, NoEffect}
use Rattle.fi_parts.proofs.Effects.{AreFit, SparedBy, are_live}
use Rattle.fi_channels.specs.declared.channel.errors.SendFault.{SendFault}
use Rattle.fi_channels.specs.declared.channel.errors.SendFault.TheVariants as send_fault
use Rattle.fi_channels.specs.declared.channel.fields.ReceiveKind.{ReceiveKind}
use Rattle.fi_channels.specs.declared.channel.fields.ReceiveKind.TheVariants.{Single, Stream}
use Rattle.fi_channels.specs.Channel.{MakesSend, MakesReceive}
use Rattle.fi_channels.specs.ChannelWords.{ChannelMachine, rules, is_send_phase, is_receive_phase, can_send, can_take}
use Rattle.fi_channels.specs.ChannelWords.{can_receive, can_stream, send_phase, receive_phase, kind_of}
use Rattle.fi_channels.specs.ChannelStays.{TheseStay, AllStay, OtherSendsStay, OtherReceivesStay, IsApartFromSends, IsApartFromReceives}
use Rattle.fi_channels.proofs.ChannelLaws.{Holds, Goes, sent_change, makes_send, makes_receive, unchanged}
use Rattle.fi_channels.proofs.Results.{either, of_made}
use Rattle.fi_channels.proofs.TwoSidedMachines.{line_steps, line_kinds_stay}

module _ {W : Type 0} where
  sends_are_fit : AreFit (is_send_phase {W = W}) can_send
  sends_are_fit = record { fresh = refl; registered = λ waker. refl; told = λ is. absurd (both_ways false refl is); complete = λ is. refl }

  receives_are_fit : AreFit (is_receive_phase {W = W}) can_take
  receives_are_fit = record {
    fresh = refl;
    registered = λ waker. refl;
    told = λ is. refl;
    complete = λ is. absurd (both_ways false refl is);
  }

  send_lives : (phase : Option (Phase W)) → can_send phase ≡ true → is_some phase ≡ true
  send_lives None can = can
  send_lives (Some phase) can = refl

  receive_lives : (kind : Option ReceiveKind) (phase : Option (Phase W)) → can_receive kind phase ≡ true → is_some phase ≡ true
  receive_lives (Some Single) (Some phase) can = refl
  receive_lives (Some Single) None can = can
  receive_lives kind phase can = absurd (both_ways false refl can)

  stream_lives : (kind : Option ReceiveKind) (phase : Option (Phase W)) → can_stream kind phase ≡ true → is_some phase ≡ true
  stream_lives (Some Stream) phase can = can
  stream_lives kind phase can = absurd (both_ways false refl can)

  still_received : (kind : Option ReceiveKind) (before after : Option (Phase W)) → (can_take before ≡ true → can_take after ≡ true) →
      can_receive kind before ≡ true → can_receive kind after ≡ true
  still_received (Some Single) before after stays can = stays can
  still_received kind before after stays can = absurd (both_ways false refl can)

  still_streamed : (kind : Option ReceiveKind) (before after : Option (Phase W)) → (is_some before ≡ true → is_some after ≡ true) →
      can_stream kind before ≡ true → can_stream kind after ≡ true
  still_streamed (Some Stream) before after stays can = stays can
  still_streamed kind before after stays can = absurd (both_ways false refl can)

module _ {T W : Type 0} (old new : ChannelMachine T W) (was : Holds old) where
  module _ {on_send on_receive : WakerChange W} (did : Goes old new on_send on_receive) (sends receives : ℕ → Type 0)
      (send_spared : (q : ℕ) → sends q → is_some (send_phase old q) ≡ true → SparedBy on_send q)
      (receive_spared : (q : ℕ) → receives q → is_some (receive_phase old q) ≡ true → SparedBy on_receive q) where
    these_stay : TheseStay sends receives old new
    these_stay = record {
      sends_live = λ q of lives.
          (line_steps rules old new did.0 was.0.waiters).0.fits is_some (are_live is_send_phase) q (send_spared q of lives) lives;
      sends_pollable = λ q of can.
          (line_steps rules old new did.0 was.0.waiters).0.fits can_send sends_are_fit q
          (send_spared q of (send_lives (send_phase old q) can)) can;
      receives_live = λ q of lives.
          (line_steps rules old new did.0 was.0.waiters).1.fits is_some (are_live is_receive_phase) q (receive_spared q of lives) lives;
      receives_pollable = λ q of can.
          let spared = receive_spared q of (receive_lives (kind_of old q) (receive_phase old q) can) in
          rw (line_kinds_stay rules old new did.0 was.0.waiters q spared)
          (still_received (kind_of old q) (receive_phase old q) (receive_phase new q)
          ((line_steps rules old new did.0 was.0.waiters).1.fits can_take receives_are_fit q spared) can);
      streams_pollable = λ q of can.
          let spared = receive_spared q of (stream_lives (kind_of old q) (receive_phase old q) can) in
          rw (line_kinds_stay rules old new did.0 was.0.waiters q spared)
          (still_streamed (kind_of old q) (receive_phase old q) (receive_phase new q)
          ((line_steps rules old new did.0 was.0.waiters).1.fits is_some (are_live is_receive_phase) q spared) can);
    }

  -- a call that is nothing to the wakers
  pub all_stay : Goes old new NoEffect NoEffect → AllStay old new
  all_stay did = these_stay did (λ q. ⊤) (λ q. ⊤) (λ q of lives. tt) (λ q of lives. tt)

  -- a call that was refused
  pub same_stay : (sends receives : ℕ → Type 0) → new ≡ old → TheseStay sends receives old new
  same_stay sends receives same =
      these_stay (unchanged old new same was) sends receives (λ q of lives. tt) (λ q of lives. tt)

  -- a cancel
  pub other_sends_stay : (name : ℕ) → Goes old new (Leaves name) NoEffect → OtherSendsStay name old new
  other_sends_stay name did = these_stay did (λ q. q ≢ name) (λ q. ⊤) (λ q ne lives. ne) (λ q of lives. tt)

  pub other_receives_stay : (name : ℕ) → Goes old new NoEffect (Leaves name) → OtherReceivesStay name old new
  other_receives_stay name did = these_stay did (λ q. ⊤) (λ q. q ≢ name) (λ q of lives. tt) (λ q ne lives. ne)

  -- a making
  made_apart : (name q : ℕ) (phase : ℕ → Option (Phase W)) → phase name ≡ None → is_some (phase q) ≡ true → q ≢ name
  made_apart name q phase none lives same = both_ways false refl (sym (ap is_some none) ∙ ap (λ n. is_some (phase n)) (sym same) ∙ lives)

  pub claimed_send_stays : {A E : Type 0} (result : Result A E) (name : A → ℕ) (value : T) →
      IfOk result (λ x. MakesSend old value (name x) new) → OnErr result (new ≡ old) → AllStay old new
  claimed_send_stays result name value made refused =
      either result _ _ (AllStay old new) made refused
      (λ x did. these_stay (makes_send old new value (name x) did was) (λ q. ⊤) (λ q. ⊤)
      (λ q of lives. made_apart (name x) q (send_phase old) did.1.0.0 lives) (λ q of lives. tt))
      (λ same. all_stay (unchanged old new same was))

  pub claimed_receive_stays : {A E : Type 0} (result : Result A E) (name : A → ℕ) (kind : ReceiveKind) →
      IfOk result (λ x. MakesReceive old kind (name x) new) → OnErr result (new ≡ old) → AllStay old new
  claimed_receive_stays result name kind made refused =
      either result _ _ (AllStay old new) made refused
      (λ x did. these_stay (makes_receive old new kind (name x) did was) (λ q. ⊤) (λ q. ⊤) (λ q of lives. tt)
      (λ q of lives. made_apart (name x) q (receive_phase old) did.1.0.0 lives))
      (λ same. all_stay (unchanged old new same was))

  pub claimed_send_apart : {A E : Type 0} (result : Result A E) (name : A → ℕ) (value : T) →
      IfOk result (λ x. MakesSend old value (name x) new) → IfOk result (λ x. IsApartFromSends (name x) old)
  claimed_send_apart result name value made =
      of_made result _ (λ x. IsApartFromSends (name x) old) made
      (λ x did q lives. made_apart (name x) q (send_phase old) did.1.0.0 lives)

  pub claimed_receive_apart : {A E : Type 0} (result : Result A E) (name : A → ℕ) (kind : ReceiveKind) →
      IfOk result (λ x. MakesReceive old kind (name x) new) → IfOk result (λ x. IsApartFromReceives (name x) old)
  claimed_receive_apart result name kind made =
      of_made result _ (λ x. IsApartFromReceives (name x) old) made
      (λ x did q lives. made_apart (name x) q (receive_phase old) did.1.0.0 lives)

  -- a poll of a receive
  receive_poll_spares : {A : Type 0} (name : ℕ) (waker : W) (answer : Poll A) (q : ℕ) → q ≢ name →
      SparedBy (poll_change name waker answer) q
  receive_poll_spares name waker Pending q ne = tt
  receive_poll_spares name waker (Ready x) q ne = ne

  pub polled_receive_stays : {A : Type 0} (name : ℕ) (waker : W) (answer : Poll A) → Goes old new NoEffect (poll_change name waker answer) →
      OtherReceivesStay name old new
  polled_receive_stays name waker answer did =
      these_stay did (λ q. ⊤) (λ q. q ≢ name) (λ q of lives. tt) (λ q ne lives. receive_poll_spares name waker answer q ne)

  pub pending_receive : {A : Type 0} (name : ℕ) (waker : W) (answer : Poll A) → Goes old new NoEffect (poll_change name waker answer) →
      kind_of new name ≡ kind_of old name → can_receive (kind_of old name) (receive_phase old name) ≡ true →
      OnPending answer (can_receive (kind_of new name) (receive_phase new name) ≡ true)
  pending_receive name waker (Ready x) did same can = tt
  pending_receive name waker Pending did same can =
      rw same (still_received (kind_of old name) (receive_phase old name) (receive_phase new name)
      (λ could. (line_steps rules old new did.0 was.0.waiters).1.pends can_take receives_are_fit) can)

  -- a poll of a send
  send_poll_spares : (name : ℕ) (waker : W) (answer : Poll (Result (Unit {0}) (SendFault T))) (q : ℕ) → q ≢ name →
      SparedBy (sent_change name waker answer) q
  send_poll_spares name waker Pending q ne = tt
  send_poll_spares name waker (Ready (Ok x)) q ne = ne
  send_poll_spares name waker (Ready (Err (send_fault.Closed value))) q ne = ne
  send_poll_spares name waker (Ready (Err (send_fault.Fault fault))) q ne = tt

  pub polled_send_stays : (name : ℕ) (waker : W) (answer : Poll (Result (Unit {0}) (SendFault T))) →
      Goes old new (sent_change name waker answer) NoEffect → OtherSendsStay name old new
  polled_send_stays name waker answer did =
      these_stay did (λ q. q ≢ name) (λ q. ⊤) (λ q ne lives. send_poll_spares name waker answer q ne) (λ q of lives. tt)

  pub pending_send : (name : ℕ) (waker : W) (answer : Poll (Result (Unit {0}) (SendFault T))) →
      Goes old new (sent_change name waker answer) NoEffect → OnPending answer (can_send (send_phase new name) ≡ true)
  pending_send name waker (Ready x) did = tt
  pending_send name waker Pending did = (line_steps rules old new did.0 was.0.waiters).0.pends can_send sends_are_fit
