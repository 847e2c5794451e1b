-- What the states' machines have in common: futures that wait in a queue, and wakers that are named to be woken.
use Rattle.std.specs.Prelude.{◌≡◌, ℕ, Bool, true, false, Option, Some, None, List, [], ◌∷◌, ◌++◌, IsSome, if◌then◌else◌}
use Rattle.std.specs.Ordering.{nat_cmp}
use Rattle.std.specs.FinMap as map
use Rattle.fi_parts.specs.Order.{holds, Apart}
use Rattle.fi_parts.specs.Order.{without}
use Rattle.fi_parts.specs.Pairs.{has, waker_of, PairsApart}
use Rattle.fi_parts.specs.declared.phase.Phase.{Phase}
use Rattle.fi_parts.specs.declared.phase.Phase.TheVariants.{Fresh, Registered, Told, Ended}
use Rattle.fi_parts.specs.declared.phase.LiveFuture.{LiveFuture}

-- The live futures of one store by name, and the queue: the names of those with a place in it, oldest first.
pub record Waiters (D W : Type 0) : Type 0 where
  pub live : map.FinMap nat_cmp (LiveFuture D W)
  pub queue : List ℕ

-- Futures, and the names to be woken with their wakers, oldest first.
pub record Waiting (D W : Type 0) : Type 0 where
  pub side : Waiters D W
  pub out : List (ℕ × W)

module _ {W : Type 0} where
  abbrev pub is_registered : Option (Phase W) → Bool
  is_registered (Some (Registered waker)) = true
  is_registered phase = false

  -- It has a place in the queue: it is registered, or it is told and told futures keep their places.
  abbrev pub is_queued : Bool → Option (Phase W) → Bool
  is_queued keeps (Some (Registered waker)) = true
  is_queued keeps (Some Told) = keeps
  is_queued keeps phase = false

  abbrev pub waker_in : Phase W → Option W
  waker_in (Registered waker) = Some waker
  waker_in phase = None

  -- the waker of one in this phase, or else this
  abbrev pub waker_or : Phase W → Option W → Option W
  waker_or (Registered waker) pending = Some waker
  waker_or phase pending = pending

  abbrev pub displaced_from : Option (Phase W) → Option W → Option W
  displaced_from None pending = pending
  displaced_from (Some phase) pending = waker_or phase pending

  abbrev pub pair_of : ℕ → Option (Phase W) → List (ℕ × W)
  pair_of name (Some (Registered waker)) = (name, waker) ∷ []
  pair_of name phase = []

  -- it lives, and is not registered
  abbrev pub may_be_named : Option (Phase W) → Bool
  may_be_named None = false
  may_be_named (Some (Registered waker)) = false
  may_be_named (Some phase) = true

module _ {D W : Type 0} where
  abbrev pub phase_in : Option (LiveFuture D W) → Option (Phase W)
  phase_in None = None
  phase_in (Some future) = Some future.phase

  -- the phase of this name; None: it is not live
  abbrev pub phase_of : Waiters D W → ℕ → Option (Phase W)
  phase_of side name = phase_in (map.get side.live name)

  abbrev pub asks_in : Option (LiveFuture D W) → Option D
  asks_in None = None
  asks_in (Some future) = Some future.asks

  -- what this name asks for
  abbrev pub asks_of : Waiters D W → ℕ → Option D
  asks_of side name = asks_in (map.get side.live name)

  abbrev pub IsLive : Waiters D W → ℕ → Type 0
  IsLive side name = IsSome (map.get side.live name)

  abbrev pub rephased : map.FinMap nat_cmp (LiveFuture D W) → ℕ → Phase W → Option (LiveFuture D W) →
      map.FinMap nat_cmp (LiveFuture D W)
  rephased live name phase None = live
  rephased live name phase (Some future) = map.insert live name (record future { phase = phase })

  -- the live futures, this one with that phase
  unfoldable pub with_phase : map.FinMap nat_cmp (LiveFuture D W) → ℕ → Phase W → map.FinMap nat_cmp (LiveFuture D W)
  with_phase live name phase = rephased live name phase (map.get live name)

  abbrev pub with_asks_in : map.FinMap nat_cmp (LiveFuture D W) → ℕ → D → Option (LiveFuture D W) →
      map.FinMap nat_cmp (LiveFuture D W)
  with_asks_in live name asks None = live
  with_asks_in live name asks (Some future) = map.insert live name (record future { asks = asks })

  -- the live futures, this one asking for that
  unfoldable pub with_asks : map.FinMap nat_cmp (LiveFuture D W) → ℕ → D → map.FinMap nat_cmp (LiveFuture D W)
  with_asks live name asks = with_asks_in live name asks (map.get live name)

  -- this one asks for that
  abbrev pub exchange : Waiters D W → ℕ → D → Waiters D W
  exchange side name asks = record side { live = with_asks side.live name asks }

  -- nothing lives here
  abbrev pub no_futures : Waiters D W
  no_futures = record { live = map.empty; queue = [] }

  -- a new future under this name, which asks for that
  abbrev pub insert_fresh : Waiters D W → ℕ → D → Waiters D W
  insert_fresh side name asks = record side { live = map.insert side.live name (record { asks = asks; phase = Fresh }) }

  -- it has this waker, and goes to the end of the queue
  abbrev pub registered : Waiters D W → ℕ → W → Waiters D W
  registered side name waker = record {
    live = with_phase side.live name (Registered waker);
    queue = side.queue ++ name ∷ [];
  }

  -- it has this waker, and keeps its place
  abbrev pub stays : Waiters D W → ℕ → W → Waiters D W
  stays side name waker = record side { live = with_phase side.live name (Registered waker) }

  abbrev pub ended : Waiters D W → ℕ → Waiters D W
  ended side name = record side { live = with_phase side.live name Ended }

  -- it lives no longer
  abbrev pub without_future : Waiters D W → ℕ → Waiters D W
  without_future side name = record { live = map.remove side.live name; queue = without name side.queue }

  -- it gets this phase, and the others stay in the queue
  abbrev pub noticed : Phase W → Waiters D W → ℕ → List ℕ → Waiters D W
  noticed phase side name others = record { live = with_phase side.live name phase; queue = others }

  -- the live futures, each of these with that phase
  unfoldable pub with_phases : map.FinMap nat_cmp (LiveFuture D W) → List ℕ → Phase W → map.FinMap nat_cmp (LiveFuture D W)
  with_phases live [] phase = live
  with_phases live (name ∷ names) phase = with_phases (with_phase live name phase) names phase

  -- each of the queue gets this phase, and nothing is left of it
  abbrev pub clear_queue : Phase W → Waiters D W → Waiters D W
  clear_queue phase side = record { live = with_phases side.live side.queue phase; queue = [] }

  -- the pair of this name and its waker
  abbrev pub pair : Waiters D W → ℕ → List (ℕ × W)
  pair side name = pair_of name (phase_of side name)

  -- the pairs of these names, in order
  unfoldable pub named : map.FinMap nat_cmp (LiveFuture D W) → List ℕ → List (ℕ × W)
  named live [] = []
  named live (name ∷ names) = pair_of name (phase_in (map.get live name)) ++ named live names

  -- the pairs of the whole queue, in order
  abbrev pub named_all : Waiters D W → List (ℕ × W)
  named_all side = named side.live side.queue

  -- the whole queue is named, in order, and each gets this phase
  abbrev pub notify_all : Phase W → Waiting D W → Waiting D W
  notify_all phase waiting = record { side = clear_queue phase waiting.side; out = waiting.out ++ named_all waiting.side }

  -- The waker that this name has: the registered one, or that of its pair. A poll or a cancel displaces it.
  abbrev pub displaced : Waiters D W → List (ℕ × W) → ℕ → Option W
  displaced side out name = displaced_from (phase_of side name) (waker_of name out)

  -- The queue holds exactly the futures whose phase has a place in it, none twice. Each pair is that of a live future
  -- that is not registered, and no future has two.
  pub record IsOrderedBy (place : Option (Phase W) → Bool) (side : Waiters D W) (out : List (ℕ × W)) : Type 0 where
    pub queued : (name : ℕ) → holds name side.queue ≡ place (phase_of side name)
    pub once : Apart side.queue
    pub named : (name : ℕ) → has name out ≡ true → may_be_named (phase_of side name) ≡ true
    pub named_once : PairsApart out

  -- The same where the registered futures alone have a place in the queue.
  abbrev pub IsOrdered : Waiters D W → List (ℕ × W) → Type 0
  IsOrdered side out = IsOrderedBy is_registered side out

  -- Only these phases occur, and the queue and out are in order.
  pub record AreSoundBy (place allowed : Option (Phase W) → Bool) (side : Waiters D W) (out : List (ℕ × W)) : Type 0 where
    pub ordered : IsOrderedBy place side out
    pub only : (name : ℕ) → allowed (phase_of side name) ≡ true

  -- The same where the registered futures alone have a place in the queue.
  abbrev pub AreSound : (Option (Phase W) → Bool) → Waiters D W → List (ℕ × W) → Type 0
  AreSound allowed side out = AreSoundBy is_registered allowed side out

  -- it has this phase, and no place in the queue
  abbrev pub without_place : Phase W → Waiters D W → ℕ → Waiters D W
  without_place phase side name = record { live = with_phase side.live name phase; queue = without name side.queue }

  -- A future of the queue is told, and named if it was registered. It keeps its place, or else leaves the queue.
  abbrev pub told_one : Bool → Waiting D W → ℕ → Waiting D W
  told_one keeps w name = record {
    side = record {
      live = with_phase w.side.live name Told;
      queue = if keeps then w.side.queue else without name w.side.queue;
    };
    out = w.out ++ pair w.side name;
  }

  -- Each future of this front of the queue is told, and named if it was registered. They keep their places, or else
  -- leave the queue to the rest.
  abbrev pub front_told : Bool → Waiting D W → List ℕ → List ℕ → Waiting D W
  front_told keeps w front rest = record {
    side = record { live = with_phases w.side.live front Told; queue = if keeps then w.side.queue else rest };
    out = w.out ++ named w.side.live front;
  }
