-- What becomes of a side whose oldest future is named, and of one whose future asks for something else.
use Rattle.std.proofs.Common.{◌≡◌, ◌≢◌, ℕ, Bool, false, List, [], ◌∷◌, ◌++◌, Option, Some, None, map, refl, sym, ap, append_assoc, ◌∙◌}
use Rattle.std.proofs.Common.{arith}
use Rattle.std.proofs.lemmas.Bool.{cases_eq, both_ways}
use Rattle.std.proofs.lemmas.List.{append-nil, map-append}
use Rattle.std.specs.Option.{IsSome}
use Rattle.std.specs.Ordering.{nat_cmp}
use Rattle.std.specs.FinMap as finmap
use Rattle.fi_parts.specs.declared.phase.Phase.{Phase}
use Rattle.fi_parts.specs.declared.phase.LiveFuture.{LiveFuture}
use Rattle.fi_parts.specs.Waiting.{Waiters, Waiting, phase_in, asks_in, may_be_named, with_asks_in, with_asks, exchange, noticed, pair}
use Rattle.fi_parts.specs.Waiting.{clear_queue, named_all, IsOrdered, AreSoundBy}
use Rattle.fi_parts.proofs.Placed.{some_of}
use Rattle.fi_parts.proofs.FiniteMaps.{get-insert_same, get-insert_other}
use Rattle.fi_parts.proofs.Waiting.{all_noticed-step, all_noticed-none}

module _ {D W : Type 0} where
  -- only what this name asks for has changed
  pub get-with_asks : (live : finmap.FinMap nat_cmp (LiveFuture D W)) (n : ℕ) (d : D) (f : LiveFuture D W) →
      finmap.get live n ≡ Some f → finmap.get (with_asks live n d) n ≡ Some (record f { asks = d })
  unfolding with_asks
  get-with_asks live n d f is =
      ap (λ o. finmap.get (with_asks_in live n d o) n) is ∙ get-insert_same live n (record f { asks = d })

  pub get-with_asks_other : (live : finmap.FinMap nat_cmp (LiveFuture D W)) (n : ℕ) (d : D) (q : ℕ) → q ≢ n →
      finmap.get (with_asks live n d) q ≡ finmap.get live q
  unfolding with_asks
  get-with_asks_other live n d q ne = each (finmap.get live n)
    where
      each : (o : Option (LiveFuture D W)) → finmap.get (with_asks_in live n d o) q ≡ finmap.get live q
      each None = refl
      each (Some f) = get-insert_other live n (record f { asks = d }) q ne

  pub phase-with_asks : (live : finmap.FinMap nat_cmp (LiveFuture D W)) (n : ℕ) (d : D) (q : ℕ) →
      phase_in (finmap.get (with_asks live n d) q) ≡ phase_in (finmap.get live q)
  unfolding with_asks
  phase-with_asks live n d q = each (finmap.get live n) refl
    where
      each : (o : Option (LiveFuture D W)) → finmap.get live n ≡ o →
          phase_in (finmap.get (with_asks_in live n d o) q) ≡ phase_in (finmap.get live q)
      each None is = refl
      each (Some f) is =
          grind (arith, cases_eq q n, get-insert_same live n (record f { asks = d }), get-insert_other live n (record f { asks = d }) q, is)

  pub asks-with_asks : (live : finmap.FinMap nat_cmp (LiveFuture D W)) (n : ℕ) (d : D) → IsSome (finmap.get live n) →
      asks_in (finmap.get (with_asks live n d) n) ≡ Some d
  asks-with_asks live n d lives =
      let f = some_of (finmap.get live n) lives in ap asks_in (get-with_asks live n d f.0 f.1)

  pub sound_by-exchange : (place allowed : Option (Phase W) → Bool) (side : Waiters D W) (out : List (ℕ × W)) (n : ℕ) (d : D) →
      AreSoundBy place allowed side out → AreSoundBy place allowed (exchange side n d) out
  sound_by-exchange place allowed side out n d was = record {
    ordered = record {
      queued = λ q. was.ordered.queued q ∙ ap place (sym (phase-with_asks side.live n d q));
      once = was.ordered.once;
      named = λ q at. ap may_be_named (phase-with_asks side.live n d q) ∙ was.ordered.named q at;
      named_once = was.ordered.named_once;
    };
    only = λ q. ap allowed (phase-with_asks side.live n d q) ∙ was.only q;
  }

  pub asks-with_asks_other : (live : finmap.FinMap nat_cmp (LiveFuture D W)) (n : ℕ) (d : D) (q : ℕ) → q ≢ n →
      asks_in (finmap.get (with_asks live n d) q) ≡ asks_in (finmap.get live q)
  asks-with_asks_other live n d q ne = ap asks_in (get-with_asks_other live n d q ne)

  -- the same queue, with nobody named
  unnamed : (side : Waiters D W) (out : List (ℕ × W)) → IsOrdered side out → IsOrdered side []
  unnamed side out was = record {
    queued = was.queued;
    once = was.once;
    named = λ q at. absurd (both_ways false refl at);
    named_once = tt;
  }

  -- to name the oldest and then the rest is to name all: the side, and its pairs
  pub emptied-step : (phase : Phase W) (side : Waiters D W) (out : List (ℕ × W)) (n : ℕ) (others : List ℕ) →
      IsOrdered side out →
      side.queue ≡ n ∷ others → clear_queue phase (noticed phase side n others) ≡ clear_queue phase side
  emptied-step phase side out n others was queue =
      ap (λ (v : Waiting D W). v.side)
      (all_noticed-step phase (record { side = side; out = [] }) n others (unnamed side out was) queue)

  pub emptied-none : (phase : Phase W) (side : Waiters D W) → side.queue ≡ [] → clear_queue phase side ≡ side
  emptied-none phase side none =
      ap (λ (v : Waiting D W). v.side) (all_noticed-none phase (record { side = side; out = [] }) none)

-- The same for an outbox of pairs that are marked with their side.
module _ {D W X : Type 0} (mark : ℕ × W → X) where
  pub marked-step : (phase : Phase W) (side : Waiters D W) (pairs : List (ℕ × W)) (out : List X) (n : ℕ)
      (others : List ℕ) →
      IsOrdered side pairs → side.queue ≡ n ∷ others →
      (out ++ map mark (pair side n)) ++ map mark (named_all (noticed phase side n others)) ≡ out ++ map mark
      (named_all side)
  marked-step phase side pairs out n others was queue =
      append_assoc out (map mark (pair side n)) (map mark (named_all (noticed phase side n others)))
      ∙ ap (λ ps. out ++ ps) (sym (map-append mark (pair side n) (named_all (noticed phase side n others)))
      ∙ ap (λ (v : Waiting D W). map mark v.out)
      (all_noticed-step phase (record { side = side; out = [] }) n others (unnamed side pairs was) queue))

  pub marked-none : (phase : Phase W) (side : Waiters D W) (out : List X) → side.queue ≡ [] →
      out ++ map mark (named_all side) ≡ out
  marked-none phase side out none =
      ap (λ (v : Waiting D W). out ++ map mark v.out) (all_noticed-none phase (record { side = side; out = [] }) none) ∙ append-nil out
