-- What a call with its answer is to the wakers, whichever primitive it is made on.
use Rattle.std.specs.Prelude.{ℕ}
use Rattle.fi_parts.specs.WakerHistory.{WakerChange, gives}
use Rattle.fi_parts.specs.WakerHistory.WakerChange.{Pends, Leaves, NoEffect}
use Rattle.fi_run.specs.declared.answer.Answer.{Answer}
use Rattle.fi_run.specs.declared.answer.Answer.TheVariants.{Made, Pending, Woken, Refused}

-- A poll of this name with this waker, a cancel of this name, or another call.
pub data Subject (W : Type 0) : Type 0 where
  Polling : ℕ → W → Subject W
  Cancelling : ℕ → Subject W
  Other : Subject W

abbrev pub on_wakers : {T W : Type 0} → Subject W → Answer T W → WakerChange W
on_wakers subject (Refused fault) = NoEffect
on_wakers subject (Made slot) = Leaves slot.0
on_wakers subject (Woken waker) = gives waker
on_wakers (Polling name waker) Pending = Pends name waker
on_wakers (Polling name waker) answer = Leaves name
on_wakers (Cancelling name) answer = Leaves name
on_wakers Other answer = NoEffect
