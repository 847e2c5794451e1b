-- Sends and receives that wait, over one outbox.
use Rattle.std.specs.Prelude.{Bool, Option, List, [], ◌++◌}
use Rattle.fi_channels.specs.Waiter.{of_sends, of_receives, sends_in, receives_in}
use Rattle.fi_parts.specs.Waiting.{Waiters, no_futures, clear_queue, named_all, AreSound}
use Rattle.fi_parts.specs.declared.phase.Phase.{Phase}
use Rattle.fi_channels.specs.declared.channel.two_sides.Waiter.{Waiter}

-- The sends, the receives, and who is to be woken with which waker, oldest first.
pub record TwoSidesModel (D E W : Type 0) : Type 0 where
  pub sends : Waiters D W
  pub receives : Waiters E W
  pub out : List (Waiter × W)

module _ {D E W : Type 0} where
  -- nobody waits
  abbrev pub no_waiters : TwoSidesModel D E W
  no_waiters = record { sends = no_futures; receives = no_futures; out = [] }

  -- all queued sends, or receives, leave the queue with this phase and are named, in order
  abbrev pub notify_sends : Phase W → TwoSidesModel D E W → TwoSidesModel D E W
  notify_sends phase both = record both {
    sends = clear_queue phase both.sends;
    out = both.out ++ of_sends (named_all both.sends);
  }

  abbrev pub notify_receives : Phase W → TwoSidesModel D E W → TwoSidesModel D E W
  notify_receives phase both = record both {
    receives = clear_queue phase both.receives;
    out = both.out ++ of_receives (named_all both.receives);
  }

  -- On each side only its phases occur, and its queue and its pairs are in order.
  pub record AreBothSound (sending receiving : Option (Phase W) → Bool) (both : TwoSidesModel D E W) : Type 0 where
    pub sends : AreSound sending both.sends (sends_in both.out)
    pub receives : AreSound receiving both.receives (receives_in both.out)
