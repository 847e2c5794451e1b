-- What becomes of the oldest future of a queue.
use Rattle.std.specs.Prelude.{ℕ, Option, None, List, [], ◌∷◌}
use Rattle.fi_parts.specs.declared.phase.Phase.{Phase}
use Rattle.fi_parts.specs.declared.phase.Phase.TheVariants.{Complete}
use Rattle.fi_parts.specs.Waiting.{Waiters, exchange, noticed, pair, asks_of}

module _ {D W : Type 0} where
  abbrev pub pop_first : Phase W → Waiters D W → List ℕ → Waiters D W
  pop_first phase side [] = side
  pop_first phase side (name ∷ others) = noticed phase side name others

  -- the oldest leaves the queue and has this phase, if there is one
  abbrev pub pop_oldest : Phase W → Waiters D W → Waiters D W
  pop_oldest phase side = pop_first phase side side.queue

  abbrev pub complete_first : D → Waiters D W → List ℕ → Waiters D W
  complete_first left side [] = side
  complete_first left side (name ∷ others) = noticed Complete (exchange side name left) name others

  -- the oldest leaves the queue and is complete, if there is one; this is left for it to ask for
  abbrev pub complete_oldest : D → Waiters D W → Waiters D W
  complete_oldest left side = complete_first left side side.queue

  abbrev pub pair_of_first : Waiters D W → List ℕ → List (ℕ × W)
  pair_of_first side [] = []
  pair_of_first side (name ∷ others) = pair side name

  -- the pair of the oldest, and what it asks for
  abbrev pub pair_of_oldest : Waiters D W → List (ℕ × W)
  pair_of_oldest side = pair_of_first side side.queue

  abbrev pub asks_of_first : Waiters D W → List ℕ → Option D
  asks_of_first side [] = None
  asks_of_first side (name ∷ others) = asks_of side name

  abbrev pub asks_of_oldest : Waiters D W → Option D
  asks_of_oldest side = asks_of_first side side.queue
