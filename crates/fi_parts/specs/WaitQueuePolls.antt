-- A poll of an entry of a wait queue's list.
use Rattle.std.specs.Prelude.{◌≡◌, ℕ, Bool, true, Option, Some}
use Rattle.std.specs.Option.{option_map}
use Rattle.std.specs.FinMap as map
use Rattle.fi_parts.specs.declared.wait_queue.Ticketed.{Ticketed}
use Rattle.fi_parts.specs.declared.phase.Phase.{Phase}
use Rattle.fi_parts.specs.declared.phase.PollStep.{PollStep}
use Rattle.fi_parts.specs.WaitQueueModel.{future_of}
use Rattle.fi_parts.specs.ListModel.{ListModel, item, with_live}
use Rattle.fi_parts.specs.Polled.{can_be_polled}
use Rattle.fi_parts.specs.Waiting.{phase_in}
use Rattle.fi_parts.specs.WaiterPolls.{phase_after_poll, poll_step}

module _ {D W : Type 0} where
  -- the phase of an entry's future
  abbrev pub phase_in_entry : Option (Ticketed D W) → Option (Phase W)
  phase_in_entry entry = phase_in (option_map future_of entry)

  -- One lives under this name that can be polled. Its phase is what this poll makes of it, and all else is as before.
  pub record PollsEntry (old : ListModel (Ticketed D W)) (name : ℕ) (waker : W) (ends : Bool) (step : PollStep W)
      (new : ListModel (Ticketed D W)) : Type 0 where
    pub entry : Ticketed D W
    pub was : item old name ≡ Some entry
    pub live : can_be_polled (Some entry.future.phase) ≡ true
    pub step_is : step ≡ poll_step ends entry.future.phase waker
    pub after : new ≡ with_live old (map.insert old.live name
        (record entry { future = record entry.future { phase = phase_after_poll ends entry.future.phase waker } }))
