-- What a call does to the futures that wait.
use Rattle.std.specs.Prelude.{◌≡◌, ℕ, Bool, true, Option, None, List, [], ◌∷◌, ◌++◌, drop, if◌then◌else◌}
use Rattle.fi_parts.specs.declared.phase.Phase.{Phase}
use Rattle.fi_parts.specs.declared.phase.Phase.TheVariants.{Fresh, Told, Complete, Ended}
use Rattle.fi_parts.specs.declared.phase.Notice.{Notice}
use Rattle.fi_parts.specs.Noticed.{phase_after}
use Rattle.fi_parts.specs.Order.{holds, Apart}
use Rattle.fi_parts.specs.Oldest.{pop_oldest, pair_of_oldest}
use Rattle.fi_parts.specs.Pairs.{without_pair, oldest}
use Rattle.fi_parts.specs.Waiting.{Waiters, Waiting, phase_of, is_registered, may_be_named}
use Rattle.fi_parts.specs.Waiting.{IsLive, no_futures, insert_fresh, registered, stays, ended}
use Rattle.fi_parts.specs.Waiting.{without_future, exchange, with_phase, noticed, pair, named, named_all, with_phases, without_place}
use Rattle.fi_parts.specs.Waiting.{clear_queue}

-- Names are slots, D is what a future asks for, W a waker.
pub data WaiterEffect (D W : Type 0) : Type 0 where
  -- nothing
  NoChange : WaiterEffect D W
  -- a fresh future is there under this name, which was not live, and asks for that
  Inserts : ℕ → D → WaiterEffect D W
  -- it has this waker, and goes to the end of the queue
  Registers : ℕ → W → WaiterEffect D W
  -- it has this waker, and gets no place in the queue
  RegistersApart : ℕ → W → WaiterEffect D W
  -- it is registered, has this newer waker, and keeps its place
  KeepsWaiting : ℕ → W → WaiterEffect D W
  -- it ends; it was not registered
  Ends : ℕ → WaiterEffect D W
  -- it ends, whatever its phase is, and leaves the queue if it has a place there
  EndsPlaced : ℕ → WaiterEffect D W
  -- it is fresh again; it was not registered
  Renews : ℕ → WaiterEffect D W
  -- it asks for this now
  Asks : ℕ → D → WaiterEffect D W
  -- it is removed, with its place in the queue
  Removes : ℕ → WaiterEffect D W
  -- the oldest of the queue, if there is one, is named and leaves the queue
  NotifiesOldest : Notice → WaiterEffect D W
  -- the whole queue is named, in order, and emptied
  NotifiesAll : Notice → WaiterEffect D W
  -- these registered futures are named, in this order; the queue stays
  NotifiesListed : Notice → List ℕ → WaiterEffect D W
  -- This front of the queue is told; whoever of it was registered is named, in order. They keep their places, or else leave the queue.
  NotifiesFront : Bool → List ℕ → WaiterEffect D W
  -- this is the oldest of the queue; it is complete, asks for that now, is named and leaves the queue
  CompletesOldest : ℕ → D → WaiterEffect D W
  -- the front pair is taken out, and its waker handed out
  PopsOldest : Option W → WaiterEffect D W
  -- one after the other
  AndThen : WaiterEffect D W → WaiterEffect D W → WaiterEffect D W

-- What an effect does to the pairs that name who is to be woken.
pub data PairsChange (W : Type 0) : Type 0 where
  -- nothing
  Keep : PairsChange W
  -- the pair of this name is taken out, if it has one
  TakeOut : ℕ → PairsChange W
  -- these are appended
  Append : List (ℕ × W) → PairsChange W

-- the pairs after this change
abbrev pub pairs_after : {W : Type 0} → PairsChange W → List (ℕ × W) → List (ℕ × W)
pairs_after Keep out = out
pairs_after (TakeOut name) out = without_pair name out
pairs_after (Append pairs) out = out ++ pairs

-- the first of these, if there is one
abbrev pub first_of : List ℕ → List ℕ
first_of [] = []
first_of (name ∷ others) = name ∷ []

module _ {D W : Type 0} where
  -- it is fresh
  abbrev pub renewed : Waiters D W → ℕ → Waiters D W
  renewed side name = record side { live = with_phase side.live name Fresh }

  -- Each of these has this phase now; whoever of them was registered is named, in order. This is the queue then.
  abbrev pub notified : Phase W → List ℕ → List ℕ → Waiting D W → Waiting D W
  notified phase names queue old = record {
    side = record { live = with_phases old.side.live names phase; queue = queue };
    out = old.out ++ named old.side.live names;
  }

  -- each of these is registered, and none stands twice
  pub record AreRegistered (side : Waiters D W) (names : List ℕ) : Type 0 where
    pub registered : (name : ℕ) → holds name names ≡ true → is_registered (phase_of side name) ≡ true
    pub once : Apart names

  -- The effect may happen to these waiters, and `Now` holds of the waiters and of the change of the pairs that it leads to. A poll or a
  -- cancel takes out the future's pair. The popping of a pair, and one effect after the other, stand in TakesEffect.
  abbrev pub LeadsTo : WaiterEffect D W → Waiters D W → (Waiters D W → PairsChange W → Type 0) → Type 0
  LeadsTo NoChange side Now = Now side Keep
  LeadsTo (Inserts name asks) side Now = (phase_of side name ≡ None) × Now (insert_fresh side name asks) Keep
  LeadsTo (Registers name waker) side Now =
      (may_be_named (phase_of side name) ≡ true) × Now (registered side name waker) (TakeOut name)
  LeadsTo (RegistersApart name waker) side Now =
      (may_be_named (phase_of side name) ≡ true) × Now (stays side name waker) (TakeOut name)
  LeadsTo (KeepsWaiting name waker) side Now =
      (is_registered (phase_of side name) ≡ true) × Now (stays side name waker) (TakeOut name)
  LeadsTo (Ends name) side Now = (may_be_named (phase_of side name) ≡ true) × Now (ended side name) (TakeOut name)
  LeadsTo (EndsPlaced name) side Now = IsLive side name × Now (without_place Ended side name) (TakeOut name)
  LeadsTo (Renews name) side Now = (may_be_named (phase_of side name) ≡ true) × Now (renewed side name) (TakeOut name)
  LeadsTo (Asks name asks) side Now = IsLive side name × Now (exchange side name asks) Keep
  LeadsTo (Removes name) side Now = IsLive side name × Now (without_future side name) (TakeOut name)
  LeadsTo (NotifiesOldest notice) side Now = Now (pop_oldest (phase_after notice) side) (Append (pair_of_oldest side))
  LeadsTo (NotifiesAll notice) side Now = Now (clear_queue (phase_after notice) side) (Append (named_all side))
  LeadsTo (NotifiesListed notice names) side Now = AreRegistered side names
      × Now (record side { live = with_phases side.live names (phase_after notice) }) (Append (named side.live names))
  LeadsTo (NotifiesFront keeps front) side Now = (rest : List ℕ) × (side.queue ≡ front ++ rest)
      × Now (record { live = with_phases side.live front Told; queue = if keeps then side.queue else rest })
      (Append (named side.live front))
  LeadsTo (CompletesOldest name asks) side Now = (others : List ℕ) × (side.queue ≡ name ∷ others) × IsLive side name
      × Now (noticed Complete (exchange side name asks) name others) (Append (pair side name))
  LeadsTo effect side Now = ⊥

  -- This effect led from old to new.
  abbrev pub TakesEffect : WaiterEffect D W → Waiting D W → Waiting D W → Type 0
  TakesEffect (PopsOldest waker) old new = (waker ≡ oldest old.out) × (new ≡ record old { out = drop 1 old.out })
  TakesEffect (AndThen one other) old new = (mid : Waiting D W) × TakesEffect one old mid × TakesEffect other mid new
  TakesEffect effect old new = LeadsTo effect old.side (λ side change. new ≡ record { side = side; out = pairs_after change old.out })

  -- the oldest of this queue completes, if there is one
  abbrev pub completes_first : D → List ℕ → WaiterEffect D W
  completes_first asks [] = NoChange
  completes_first asks (name ∷ others) = CompletesOldest name asks

  -- nothing lives, and nobody is to be woken
  abbrev pub nobody : Waiting D W
  nobody = record { side = no_futures; out = [] }
