-- The futures of a timer without their seats, and that each change keeps futures and seats together.
use Rattle.std.proofs.Common.{◌≡◌, ◌≢◌, ◌<◌, ◌-◌, arith, ℕ, true, false, List, [], ◌∷◌, ◌++◌, Option, Some, None, IsSome, option_map}
use Rattle.std.proofs.Common.{is_some, cond, map, refl, sym, ap, ◌∙◌, inl, inr}
use Rattle.std.proofs.lemmas.Bool.{both_ways, cases_eq}
use Rattle.std.proofs.lemmas.Option.{same_Some, none-some}
use Rattle.std.specs.Ordering.{nat_cmp}
use Rattle.std.specs.Cmp.{nat_cmp_total}
use Rattle.std.specs.FinMap as finmap
use Rattle.std.specs.FinSet as set
use Rattle.fi_parts.specs.declared.phase.Phase.{Phase}
use Rattle.fi_parts.specs.declared.phase.LiveFuture.{LiveFuture}
use Rattle.fi_parts.specs.HeapModel.{HeapModel, value_under, with_values}
use Rattle.fi_parts.specs.Waiting.{Waiting, phase_in, asks_in, is_registered, rephased, with_phase, insert_fresh, without_future, pair}
use Rattle.fi_parts.specs.Waiting.{pair_of}
use Rattle.fi_parts.specs.declared.phase.Phase.TheVariants.{Fresh, Registered, Told}
use Rattle.fi_parts.specs.Pairs.{without_pair}
use Rattle.fi_parts.proofs.Picked.{contains-insert_same, contains-insert_other, contains-remove_same, contains-remove_other}
use Rattle.fi_parts.proofs.Waiting.{get-with_phase, get-with_phase_other}
use Rattle.fi_parts.proofs.Placed.{some_of}
use Rattle.fi_parts.proofs.FiniteMaps.{get-insert_same, get-insert_other, get-remove_same, get-remove_other}
use Rattle.fi_parts.specs.declared.deadlines.Deadline.{Deadline}
use Rattle.fi_parts.specs.declared.deadlines.Due.{Due}
use Rattle.fi_parts.specs.Deadlines.{told_due}
use Rattle.fi_parts.specs.Seats.{unseated, unseated_all, deadlines_of, due_of, AreSeated}

-- the futures of a timer, with their seats
abbrev pub Live : Type 0 → Type 0
Live W = finmap.FinMap nat_cmp (LiveFuture Deadline W)

abbrev name_in : Option Due → ℕ
name_in None = 0
name_in (Some due) = due.name

module _ {W : Type 0} where
  abbrev pub unseated_in : Option (LiveFuture Deadline W) → Option (LiveFuture ℕ W)
  unseated_in None = None
  unseated_in (Some future) = Some (unseated future)

  pub unseated_in-map : (o : Option (LiveFuture Deadline W)) → option_map unseated o ≡ unseated_in o
  unseated_in-map None = refl
  unseated_in-map (Some future) = refl

  find-unseated : (q : ℕ) (es : List (ℕ × LiveFuture Deadline W)) → finmap.find nat_cmp q (map (λ e. (e.0, unseated e.1)) es) ≡
      unseated_in (finmap.find nat_cmp q es)
  find-unseated q [] = refl
  find-unseated q (e ∷ es) = grind (arith, find-unseated q es)

  pub get-unseated : (live : Live W) (q : ℕ) → finmap.get (unseated_all live) q ≡ unseated_in (finmap.get live q)
  unfolding unseated_all
  get-unseated live q = finmap.get-from_entries nat_cmp_total (map (λ e. (e.0, unseated e.1)) (finmap.entries live)) q ∙
      find-unseated q (finmap.entries live) ∙ ap unseated_in (sym (finmap.get-entries live q))

  same_unseated : (live : Live W) (others : finmap.FinMap nat_cmp (LiveFuture ℕ W)) →
      ((q : ℕ) → unseated_in (finmap.get live q) ≡ finmap.get others q) → unseated_all live ≡ others
  same_unseated live others same = finmap.same_map nat_cmp_total finmap.nat_cmp-IsAntisymmetric _ _ (λ q. get-unseated live q ∙ same q)

  pub unseated-empty : unseated_all (finmap.empty {X = LiveFuture Deadline W} {R = nat_cmp}) ≡ finmap.empty
  unseated-empty = same_unseated _ _ (λ q. ap unseated_in (finmap.get-empty nat_cmp q) ∙ sym (finmap.get-empty nat_cmp q))

  pub unseated-insert : (live : Live W) (n : ℕ) (f : LiveFuture Deadline W) →
      unseated_all (finmap.insert live n f) ≡ finmap.insert (unseated_all live) n (unseated f)
  unseated-insert live n f = same_unseated _ _
      (λ q. grind (arith, cases_eq q n, get-unseated live q, get-insert_same, get-insert_other))

  pub unseated-remove : (live : Live W) (n : ℕ) → unseated_all (finmap.remove live n) ≡ finmap.remove (unseated_all live) n
  unseated-remove live n = same_unseated _ _
      (λ q. grind (arith, cases_eq q n, get-unseated live q, get-remove_same, get-remove_other))

  pub unseated-with_phase : (live : Live W) (n : ℕ) (phase : Phase W) →
      unseated_all (with_phase live n phase) ≡ with_phase (unseated_all live) n phase
  unfolding with_phase
  unseated-with_phase live n phase = each (finmap.get live n) ∙ sym (ap (rephased (unseated_all live) n phase) (get-unseated live n))
    where
      each : (o : Option (LiveFuture Deadline W)) →
          unseated_all (rephased live n phase o) ≡ rephased (unseated_all live) n phase (unseated_in o)
      each None = refl
      each (Some f) = unseated-insert live n (record f { phase = phase })

  pub phase-unseated : (live : Live W) (q : ℕ) → phase_in (finmap.get (unseated_all live) q) ≡ phase_in (finmap.get live q)
  phase-unseated live q = ap phase_in (get-unseated live q)
      ∙ elim (finmap.get live q) as (λ o. phase_in (unseated_in o) ≡ phase_in o) [ None ↦ refl | Some f ↦ refl ]

  module _ (live : Live W) (heap : HeapModel Due) (was : AreSeated live heap) where
    -- two names have two seats
    pub own_seat : (n q : ℕ) (f g : LiveFuture Deadline W) → finmap.get live n ≡ Some f → finmap.get live q ≡ Some g → g.asks.seat.0 ≡
        f.asks.seat.0 → q ≡ n
    own_seat n q f g here there same = ap name_in (sym (was.seated q g there) ∙ ap (value_under heap) same ∙ was.seated n f here)

    module _ (n : ℕ) (f : LiveFuture Deadline W) (here : finmap.get live n ≡ Some f) where
      -- One future stands otherwise, and only its seat may be taken or left.
      pub seated-by : (new : Live W) (heap' : HeapModel Due) (g : LiveFuture Deadline W) → finmap.get new n ≡ Some g → g.asks ≡ f.asks
          → ((q : ℕ) → q ≢ n → finmap.get new q ≡ finmap.get live q) → heap'.live ≡ heap.live → set.contains heap'.members f.asks.seat.0
          ≡ is_registered (Some g.phase) → ((k : ℕ) → k ≢ f.asks.seat.0 → set.contains heap'.members k ≡ set.contains heap.members k)
          → AreSeated new heap'
      seated-by new heap' g now asks others values taken elsewhere = record {
        seated = λ q h is.
            grind (arith, cases_eq q n, now, asks, others q, ap finmap.get values, was.seated n f here, was.seated q h, is);
        owned = λ k due is.
            let before = was.owned k due (ap (λ l. finmap.get l k) (sym values) ∙ is) in
            elim (cases_eq due.name n) [
              | inl same ↦
                  let e : f ≡ before.0 = same_Some f before.0 (sym here ∙ ap (finmap.get live) (sym same) ∙ before.1) in (
                    g,
                    ap (finmap.get new) same ∙ now,
                    ap (λ (a : Deadline). a.seat.0) asks ∙ ap (λ (h : LiveFuture Deadline W). h.asks.seat.0) e ∙
                        before.2,
                  )
              | inr ne ↦ (before.0, others due.name ne ∙ before.1, before.2)
            ];
        taken = λ q h is.
            grind (arith, cases_eq q n, others q, was.taken q h, elsewhere h.asks.seat.0, own_seat n q f h here);
      }

      -- One future is gone, and its seat.
      pub seated-without : (heap' : HeapModel Due) → heap'.live ≡ finmap.remove heap.live f.asks.seat.0 →
          ((k : ℕ) → k ≢ f.asks.seat.0 → set.contains heap'.members k ≡ set.contains heap.members k) →
          AreSeated (finmap.remove live n) heap'
      seated-without heap' values elsewhere = record {
        seated = λ q h is. let before = still q h is in
            grind (arith, values, get-remove_other heap.live, left q h is, own_seat n q f h here before, was.seated q h before);
        owned = λ k due is.
            let apart : k ≢ f.asks.seat.0 = λ same. none-some due (sym (get-remove_same heap.live f.asks.seat.0) ∙
            ap (finmap.get (finmap.remove heap.live f.asks.seat.0)) (sym same) ∙ ap (λ l. finmap.get l k) (sym values) ∙ is) in
            let before = was.owned k due (sym (get-remove_other heap.live f.asks.seat.0 k apart) ∙
            ap (λ l. finmap.get l k) (sym values) ∙ is) in (
              before.0,
              get-remove_other live n due.name (λ same. apart (sym before.2 ∙
                  ap (λ (h : LiveFuture Deadline W). h.asks.seat.0) (same_Some before.0 f (sym before.1 ∙ ap (finmap.get live) same ∙
                  here)))) ∙
                  before.1,
              before.2,
            );
        taken = λ q h is. let before = still q h is in
            grind (arith, elsewhere h.asks.seat.0, left q h is, own_seat n q f h here before, was.taken q h before);
      }
        where
          left : (q : ℕ) (h : LiveFuture Deadline W) → finmap.get (finmap.remove live n) q ≡ Some h → q ≢ n
          left q h is same = none-some h (sym (get-remove_same live n) ∙ ap (finmap.get (finmap.remove live n)) (sym same) ∙ is)

          still : (q : ℕ) (h : LiveFuture Deadline W) → finmap.get (finmap.remove live n) q ≡ Some h → finmap.get live q ≡ Some h
          still q h is = sym (get-remove_other live n q (left q h is)) ∙ is

    -- One future is new, with a seat that was not there.
    pub seated-made : (n : ℕ) (g : LiveFuture Deadline W) (heap' : HeapModel Due) → finmap.get live n ≡ None →
        value_under heap g.asks.seat.0 ≡
        None → value_under heap' g.asks.seat.0 ≡ Some (due_of g n) →
        ((k : ℕ) → k ≢ g.asks.seat.0 → value_under heap' k ≡ value_under heap k) → heap'.members ≡ heap.members →
        set.contains heap.members g.asks.seat.0 ≡ is_registered (Some g.phase) → AreSeated (finmap.insert live n g) heap'
    seated-made n g heap' free unclaimed claimed elsewhere members taken = record {
      seated = λ q h is.
          grind (arith, cases_eq q n, new_one q h, get-insert_other live n g q, elsewhere h.asks.seat.0, was.seated q h);
      owned = λ k due is. elim (cases_eq k g.asks.seat.0) [
        | inl same ↦
            let e : due.name ≡ n = ap (λ (d : Due). d.name) (same_Some due (due_of g n) (sym is ∙ ap (value_under heap') same ∙ claimed)) in
            (g, ap (finmap.get (finmap.insert live n g)) e ∙ get-insert_same live n g, sym same)
        | inr ne ↦
            let before = was.owned k due (sym (elsewhere k ne) ∙ is) in (
              before.0,
              get-insert_other live n g due.name (λ same. none-some before.0 (sym free ∙ ap (finmap.get live) (sym same) ∙
                  before.1)) ∙ before.1,
              before.2,
            )
      ];
      taken = λ q h is. grind (arith, members, cases_eq q n, new_one q h, taken, get-insert_other live n g q, was.taken q h, is);
    }
      where
        new_one : (q : ℕ) (h : LiveFuture Deadline W) → q ≡ n → finmap.get (finmap.insert live n g) q ≡ Some h → h ≡ g
        new_one q h same is = same_Some h g (sym is ∙ ap (finmap.get (finmap.insert live n g)) same ∙ get-insert_same live n g)

  asks_here : (live : Live W) (n : ℕ) (asks : Deadline) → asks_in (finmap.get live n) ≡ Some asks →
      (f : LiveFuture Deadline W) × (finmap.get live n ≡ Some f) × (f.asks ≡ asks)
  asks_here live n asks is = each (finmap.get live n) refl is
    where
      each : (o : Option (LiveFuture Deadline W)) → finmap.get live n ≡ o → asks_in o ≡ Some asks → (f : LiveFuture Deadline W) ×
          (finmap.get live n ≡ Some f) × (f.asks ≡ asks)
      each None at e = absurd (none-some asks e)
      each (Some f) at e = (f, at, same_Some f.asks asks e)

  pub asks_live : (live : Live W) (n : ℕ) → IsSome (finmap.get live n) → IsSome (asks_in (finmap.get live n))
  asks_live live n lives =
      elim (finmap.get live n) as (λ o. IsSome o → IsSome (asks_in o)) [ None ↦ λ h. h | Some f ↦ λ h. refl ] lives

  pub future_here : (live : Live W) (n : ℕ) → IsSome (finmap.get live n) → (f : LiveFuture Deadline W) × (finmap.get live n ≡ Some f)
  future_here live n lives = some_of (finmap.get live n) lives

  -- a future stands otherwise, and is registered exactly if it was
  pub kept-stand : (live : Live W) (heap : HeapModel Due) (n : ℕ) (phase : Phase W) → AreSeated live heap → IsSome (finmap.get live n)
      → is_registered (Some phase) ≡ is_registered (phase_in (finmap.get live n)) → AreSeated (with_phase live n phase) heap
  kept-stand live heap n phase was lives same =
      let f = future_here live n lives in
      seated-by live heap was n f.0 f.1 (with_phase live n phase) heap (record f.0 { phase = phase })
      (get-with_phase live n phase f.0 f.1) refl (λ q ne. get-with_phase_other live n phase q ne)
      refl (was.taken n f.0 f.1 ∙ sym (same ∙ ap (λ o. is_registered (phase_in o)) f.1)) (λ k ne. refl)

  -- a future is registered, and takes its seat
  pub kept-registered : (live : Live W) (heap heap' : HeapModel Due) (n : ℕ) (waker : W) (asks : Deadline) → AreSeated live heap
      → asks_in (finmap.get live n) ≡ Some asks → heap'.live ≡ heap.live → heap'.members ≡ set.insert heap.members asks.seat.0
      → AreSeated (with_phase live n (Registered waker)) heap'
  kept-registered live heap heap' n waker asks was is values members =
      let f = asks_here live n asks is in
      let members' : heap'.members ≡ set.insert heap.members f.0.asks.seat.0 = rw f.2 members in
      seated-by live heap was n f.0 f.1 (with_phase live n (Registered waker)) heap' (record f.0 { phase = Registered waker })
      (get-with_phase live n (Registered waker) f.0 f.1) refl (λ q ne. get-with_phase_other live n (Registered waker) q ne)
      values (ap (λ m. set.contains m f.0.asks.seat.0) members' ∙ contains-insert_same heap.members f.0.asks.seat.0)
      (λ k ne. ap (λ m. set.contains m k) members' ∙ contains-insert_other heap.members f.0.asks.seat.0 k ne)

  -- who is not registered has not taken its seat
  pub seat_free : (live : Live W) (heap : HeapModel Due) (n : ℕ) (asks : Deadline) → AreSeated live heap → asks_in (finmap.get live n)
      ≡ Some asks → is_registered (phase_in (finmap.get live n)) ≡ false → set.contains heap.members asks.seat.0 ≡ false
  seat_free live heap n asks was is apart =
      let f = asks_here live n asks is in
      ap (λ (a : Deadline). set.contains heap.members a.seat.0) (sym f.2) ∙ was.taken n f.0 f.1 ∙
      ap (λ o. is_registered (phase_in o)) (sym f.1) ∙ apart

  pub kept-told : (live : Live W) (heap heap' : HeapModel Due) (n seat : ℕ) (phase : Phase W) (f : LiveFuture Deadline W)
      → AreSeated live heap → finmap.get live n ≡ Some f → f.asks.seat.0 ≡ seat → is_registered (Some phase) ≡ false → heap'.live
      ≡ heap.live → heap'.members ≡ set.remove heap.members seat → AreSeated (with_phase live n phase) heap'
  kept-told live heap heap' n seat phase f was here same apart values members =
      let members' : heap'.members ≡ set.remove heap.members f.asks.seat.0 = rw same members in
      seated-by live heap was n f here (with_phase live n phase) heap' (record f { phase = phase }) (get-with_phase live n phase f here)
      refl (λ q ne. get-with_phase_other live n phase q ne)
      values (ap (λ m. set.contains m f.asks.seat.0) members' ∙ contains-remove_same heap.members f.asks.seat.0 ∙ sym apart)
      (λ k ne. ap (λ m. set.contains m k) members' ∙ contains-remove_other heap.members f.asks.seat.0 k ne)

  pub kept-forgotten : (live : Live W) (heap heap' : HeapModel Due) (n : ℕ) (asks : Deadline) →
      AreSeated live heap → asks_in (finmap.get live n) ≡ Some asks → heap'.live ≡ finmap.remove heap.live asks.seat.0 →
      ((k : ℕ) → k ≢ asks.seat.0 → set.contains heap'.members k ≡ set.contains heap.members k) → AreSeated (finmap.remove live n) heap'
  kept-forgotten live heap heap' n asks was is values elsewhere =
      let f = asks_here live n asks is in
      let values' : heap'.live ≡ finmap.remove heap.live f.0.asks.seat.0 = rw f.2 values in
      seated-without live heap was n f.0 f.1 heap' values'
      (λ k ne. elsewhere k (λ same. ne (same ∙ ap (λ (a : Deadline). a.seat.0) (sym f.2))))

  abbrev fresh : ℕ → ℕ → LiveFuture Deadline W
  fresh expiry seat = record { asks = record { expiry = expiry; seat = record { 0 = seat } }; phase = Fresh }

  none_here : (o : Option (LiveFuture Deadline W)) → phase_in o ≡ None → o ≡ None
  none_here None h = refl
  none_here (Some f) h = absurd (none-some f.phase (sym h))

  -- a future is made: its seat was claimed, and then got its name
  pub kept-made : (live : Live W) (heap mid heap' : HeapModel Due) (n expiry seat : ℕ) (claimed : Due) → AreSeated live heap
      → phase_in (finmap.get live n) ≡ None → value_under heap seat ≡ None → mid ≡ with_values heap (finmap.insert heap.live seat claimed)
      → set.contains mid.members seat ≡ false → heap' ≡ with_values mid (finmap.insert mid.live seat (due_of (fresh expiry seat) n))
      → AreSeated (finmap.insert live n (fresh expiry seat)) heap'
  kept-made live heap mid heap' n expiry seat claimed was free unclaimed is apart named =
      let members : heap'.members ≡ heap.members = ap (λ (h : HeapModel Due). h.members) named ∙ ap (λ (h : HeapModel Due). h.members) is in
      let values : heap'.live ≡ finmap.insert mid.live seat (due_of (fresh expiry seat) n) = ap (λ (h : HeapModel Due). h.live) named in
      let before : mid.live ≡ finmap.insert heap.live seat claimed = ap (λ (h : HeapModel Due). h.live) is in
      seated-made live heap was n (fresh expiry seat) heap' (none_here (finmap.get live n) free) unclaimed
      (ap (λ l. finmap.get l seat) values ∙ get-insert_same mid.live seat _)
      (λ k ne. ap (λ l. finmap.get l k) values ∙ get-insert_other mid.live seat _ k ne ∙ ap (λ l. finmap.get l k) before ∙
      get-insert_other heap.live seat claimed k ne)
      members (ap (λ (h : HeapModel Due). set.contains h.members seat) (sym is) ∙ apart)

  -- a seat that was claimed and ended again
  pub kept-refused : (live after : Live W) (heap mid heap' : HeapModel Due) (seat : ℕ) (claimed : Due) → AreSeated live heap → after ≡ live
      → value_under heap seat ≡ None → mid ≡ with_values heap (finmap.insert heap.live seat claimed) → heap'
      ≡ with_values mid (finmap.remove mid.live seat) → AreSeated after heap'
  kept-refused live after heap mid heap' seat claimed was same unclaimed is back =
      let values : finmap.remove (finmap.insert heap.live seat claimed) seat ≡ heap.live =
      finmap.same_map nat_cmp_total finmap.nat_cmp-IsAntisymmetric _ _
      (λ q. grind (arith, cases_eq q seat, get-remove_same, get-remove_other, get-insert_other, unclaimed)) in
      let whole : heap' ≡ heap = back ∙ ap (λ (h : HeapModel Due).
      let k : HeapModel Due = with_values h (finmap.remove h.live seat) in k) is ∙
      ap (with_values heap) values in
      rw (same, whole) was

  -- what a caller sees after each change
  module _ (w : Waiting Deadline W) (n : ℕ) where
    pub lives_inside : IsSome (finmap.get (unseated_all w.side.live) n) → IsSome (finmap.get w.side.live n)
    lives_inside lives = each (finmap.get w.side.live n) (sym (ap is_some (get-unseated w.side.live n)) ∙ lives)
      where
        each : (o : Option (LiveFuture Deadline W)) → IsSome (unseated_in o) → IsSome o
        each None h = h
        each (Some f) h = refl

    pub seen-phase : (w' : Waiting Deadline W) (phase : Phase W) → w'
        ≡ record w { side = record w.side { live = with_phase w.side.live n phase } } → deadlines_of w' ≡ record (deadlines_of w) {
          side = record (deadlines_of w).side {
            live =
                with_phase (unseated_all w.side.live) n phase;
          };
        }
    seen-phase w' phase is = rw is (λ i. record {
      side = record { live = unseated-with_phase w.side.live n phase i; queue = [] };
      out =
          w.out;
    })

    pub seen-told : (w' : Waiting Deadline W) → w' ≡ record {
      side = record w.side { live = with_phase w.side.live n Told };
      out =
          w.out ++ pair w.side n;
    } → deadlines_of w' ≡ told_due (deadlines_of w) n
    seen-told w' is = rw is (λ i. record {
      side = record { live = unseated-with_phase w.side.live n Told i; queue = [] };
      out =
          w.out ++ pair_of n (sym (phase-unseated w.side.live n) i);
    })

    pub seen-made : (w' : Waiting Deadline W) (asks : Deadline) → w' ≡ record w { side = insert_fresh w.side n asks } → deadlines_of w' ≡
        record (deadlines_of w) { side = insert_fresh (deadlines_of w).side n asks.expiry }
    seen-made w' asks is = rw is (λ i. record {
      side =
          record { live = unseated-insert w.side.live n (record { asks = asks; phase = Fresh }) i; queue = [] };
      out = w.out;
    })

    pub seen-forgotten : (w' : Waiting Deadline W) → w' ≡ record { side = without_future w.side n; out = without_pair n w.out } →
        deadlines_of w' ≡ record { side = without_future (deadlines_of w).side n; out = without_pair n w.out }
    seen-forgotten w' is = rw is (λ i. record {
      side = record { live = unseated-remove w.side.live n i; queue = [] };
      out =
          without_pair n w.out;
    })

pub seated-empty : (W : Type 0) → AreSeated {W = W} finmap.empty (record { live = finmap.empty; members = set.empty })
seated-empty W = record {
  seated = λ q h is. absurd (none-some h (sym (finmap.get-empty nat_cmp q) ∙ is));
  owned = λ k due is. absurd (none-some due (sym (finmap.get-empty nat_cmp k) ∙ is));
  taken = λ q h is. absurd (none-some h (sym (finmap.get-empty nat_cmp q) ∙ is));
}

-- one seat fewer is taken
pub fewer_seats : (members : set.FinSet nat_cmp) (seat : ℕ) → set.contains members seat ≡ true →
    set.len (set.remove members seat) < set.len members
fewer_seats members seat member =
    let less : set.len (set.remove members seat) ≡ set.len members - 1 = set.len-remove nat_cmp_total members seat ∙
    ap (λ b. cond b (set.len members - 1) (set.len members)) member in
    let some : set.len members ≢ 0 = λ none. both_ways _ (ap (λ m. set.contains m seat) (set.empty_of_len members none) ∙
    set.contains-empty nat_cmp seat) member in
    omega arith
