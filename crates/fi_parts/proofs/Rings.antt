-- What a push and a pop leave of a ring.
use Rattle.std.proofs.Common.{◌≡◌, ℕ, ◌+◌, ◌-◌, ◌<◌, ◌≤◌, List, [], ◌∷◌, ◌++◌, length, set, slice_get, get_or, replicate, Option}
use Rattle.std.proofs.Common.{Some, None, refl, sym, ap, ◌∙◌, subst, inl, inr, arith, length-append, length-set}
use Rattle.std.proofs.lemmas.List.{length-replicate}
use Rattle.std.proofs.lemmas.Option.{slice_get_past}
use Rattle.circular_buffer.specs.Places.{Wraps, somes, filled}
use Rattle.circular_buffer.proofs.Places.{below_or_not, cut_front, slice_get-tail, slice_get-last, slice_get-push, Holds}
use Rattle.circular_buffer.proofs.Places.{Holds-from_laid, laid-from_Holds, somes-filled, Holds-written, Holds-empty}
use Rattle.fi_parts.specs.Rings.{ring_items, IsRing}

module _ {T : Type 0} where
  -- what each slot of a ring holds
  holds : (slots : List (Option T)) (start count : ℕ) → IsRing slots start count
      → Holds slots start (length slots) (slice_get (ring_items start slots))
  holds slots start count h = Holds-from_laid slots start (length slots) (ring_items start slots) refl h.first.0 h.laid

  -- Slots that hold the items in order are a ring of them.
  IsRing-from_Holds : (slots : List (Option T)) (start count n : ℕ) (xs : List T) → length slots ≡ n → (start ≤ n) × (0 < n → start < n)
      → count ≤ n → count ≡ length xs → Holds slots start n (slice_get xs) → IsRing slots start count × (ring_items start slots ≡ xs)
  unfolding ring_items
  IsRing-from_Holds slots start count n xs long first fits counted h =
      let laid = laid-from_Holds slots start n xs long first.0 first.1 (omega arith) h in
      let is : ring_items start slots ≡ xs = ap somes laid ∙ somes-filled xs n in (
        record {
          first = (omega (arith, first.0), λ some. omega (arith, first.1 (omega arith)));
          fits = omega arith;
          counted = counted ∙ sym (ap length is);
          laid = laid ∙ ap (filled xs) (sym long) ∙ ap (λ l. filled l (length slots)) (sym is);
        },
        is,
      )

  -- Empty slots are a ring of nothing.
  pub IsRing-empty : (slots : List (Option T)) (n : ℕ) → slots ≡ replicate n None → IsRing slots 0 0 × (ring_items 0 slots ≡ [])
      × (length slots ≡ n)
  IsRing-empty slots n empty =
      let long : length slots ≡ n = ap length empty ∙ length-replicate n None in
      let made = IsRing-from_Holds slots 0 0 n [] long (omega arith, λ some. some) (omega arith) refl
      (subst (λ l. Holds l 0 n (slice_get [])) (sym empty) (Holds-empty n 0)) in
      (made.0, made.1, long)

  -- A ring holds no more items than it has slots.
  pub IsRing-within : (slots : List (Option T)) (start count : ℕ) → IsRing slots start count
      → length (ring_items start slots) ≤ length slots
  IsRing-within slots start count h = let counted = h.counted in let fits = h.fits in omega arith

  -- An item is written to the slot behind the last.
  pub IsRing-pushed : (slots : List (Option T)) (start count n back : ℕ) (item : T) → IsRing slots start count → n ≡ length slots
      → Wraps start count n back → count < length slots → IsRing (set slots back (Some item)) start (count + 1)
      × (ring_items start (set slots back (Some item)) ≡ ring_items start slots ++ item ∷ [])
  IsRing-pushed slots start count m back item h long counts room =
      let n = length slots in let at = subst (λ k. Wraps start count k back) long counts in let xs = ring_items start slots in let ys =
      xs ++ item ∷ [] in let counted = h.counted in
      let within : start < n = h.first.1 (omega arith) in
      IsRing-from_Holds (set slots back (Some item)) start (count + 1) n ys (length-set slots back (Some item)) h.first (omega arith)
      (omega (arith, length-append xs (item ∷ [])))
      (Holds-written slots start n (slice_get xs) (slice_get ys) count back (Some item) 0 start refl within room (inl (omega arith))
      (holds slots start count h) at (within, inl (omega arith))
      (λ i j lt is below. let same : j ≡ i = elim is [ inl e ↦ omega arith | inr e ↦ omega arith ] in
      (λ e. slice_get-last xs item i (omega arith), λ ne. slice_get-push xs item i (λ e. ne (omega arith)) ∙ ap (slice_get xs) (sym same))))

  -- the oldest item of a ring, the slot that holds it, and the others
  pub ring_oldest : (slots : List (Option T)) (start count : ℕ) → IsRing slots start count → 0 < count
      → (x : T) × (left : List T) × (ring_items start slots ≡ x ∷ left) × (get_or slots start None ≡ Some x) × (start < length slots)
  ring_oldest slots start count h some =
      let xs = ring_items start slots in let counted = h.counted in let fits = h.fits in let within : start < length slots =
      h.first.1 (omega arith) in
      let e = cut_front xs (omega arith) in
      (e.0, e.1, e.2, holds slots start count h 0 start (omega arith) (within, inl (omega arith)) ∙ ap (λ l. slice_get l 0) e.2, within)

  -- The oldest item is taken out of its slot.
  pub IsRing-popped : (slots : List (Option T)) (start count n next : ℕ) (x : T) (left : List T) → IsRing slots start count → n
      ≡ length slots → Wraps start 1 n next → ring_items start slots ≡ x ∷ left
      → IsRing (set slots start None) next (count - 1) × (ring_items next (set slots start None) ≡ left)
  IsRing-popped slots start count m next x left h long counts is =
      let n = length slots in let moved = subst (λ k. Wraps start 1 k next) long counts in let xs =
      ring_items start slots in let counted = h.counted in let fits = h.fits in let more = ap length is in
      let within : start < n = h.first.1 (omega arith) in
      IsRing-from_Holds (set slots start None) next (count - 1) n left (length-set slots start None)
      (omega (arith, moved.0), λ _. moved.0) (omega arith) (omega arith)
      (Holds-written slots start n (slice_get xs) (slice_get left) 0 start None 1 next refl within (omega arith)
      (elim (below_or_not 1 n) [ inl f ↦ inl f | inr f ↦ inr (omega arith) ])
      (holds slots start count h) (within, inl (omega arith)) moved
      (λ i j lt at below. (
        λ f. slice_get_past left i (elim at [ inl k ↦ omega arith | inr k ↦ omega arith ]),
        λ ne. sym (ap (λ l. slice_get l j) is ∙ slice_get-tail x left i j
            (elim at [ inl k ↦ omega arith | inr k ↦ absurd (ne (omega arith)) ])),
      )))
