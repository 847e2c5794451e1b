-- Matching a history with the receipts of its seats, from the last entry on.
use Rattle.std.proofs.Common.{◌≡◌, ◌<◌, ◌+◌, ℕ, zero, suc, List, [], ◌∷◌, ◌++◌, length}
use Rattle.std.proofs.Common.{length-append, append_assoc}
use Rattle.std.proofs.Common.{◌≤◌, Some, take, drop, slice_index_or, slice_set, refl, sym, ap, subst, ◌∙◌, arith, append-nil}
use Rattle.std.proofs.lemmas.Bool.{eq-eqb, ne_eqb}
use Rattle.std.proofs.lemmas.List.{drop_more, length-take, take-append-drop}
use Rattle.std.proofs.lemmas.List.Recursion.{is_sum_by}
use Rattle.std.proofs.lemmas.List.Sorted.{sum_by-IsPermutation}
use Rattle.std.specs.List.{slice_get, All}
use Rattle.std.specs.List.Sorted.{IsPermutation}
use Rattle.fi_desk.specs.declared.journal.Entry.{Entry}
use Rattle.fi_desk.specs.Journal.{ReceiptModel, receipt_of}
use Rattle.fi_desk.specs.Desk.{SeatModel, AreNumbered, Matches, FirstMissing, LacksLast, receipt_count, receipts_of, with_receipt}

module _ {O C A : Type 0} where
  -- Without one receipt there is one less.
  pub count_without : (lefts : List (SeatModel O C A)) (i : ℕ) (taken : SeatModel O C A) (receipt : ReceiptModel O C A) → i < length lefts →
      slice_index_or lefts i taken ≡ with_receipt taken receipt → receipt_count lefts ≡ 1 + receipt_count (slice_set lefts i taken)
  count_without [] i taken receipt below was = absurd (omega arith)
  count_without (left ∷ lefts) zero taken receipt below was =
      let one_more : length left.receipts ≡ length (taken.receipts ++ receipt ∷ []) = ap (λ s. length s.receipts) was in
      omega (arith, length-append taken.receipts (receipt ∷ []))
  count_without (left ∷ lefts) (suc i) taken receipt below was =
      let later = count_without lefts i taken receipt (omega arith) was in omega arith

  pub count_of_none : (lefts : List (SeatModel O C A)) → All (λ left. left.receipts ≡ []) lefts → receipt_count lefts ≡ 0
  count_of_none [] empty = refl
  count_of_none (left ∷ lefts) empty =
      let none : length left.receipts ≡ 0 = ap length (empty 0 left (omega arith)) in
      let later = count_of_none lefts (λ k d below. empty (suc k) d (omega arith)) in omega arith

  -- In another order there are as many.
  pub count_ordered : (seats ordered : List (SeatModel O C A)) → IsPermutation seats ordered → receipt_count seats ≡ receipt_count ordered
  count_ordered seats ordered same =
      is_sum_by receipt_count (λ seat. length seat.receipts) refl (λ seat seats. refl) seats
      ∙ sym (sum_by-IsPermutation (λ seat. length seat.receipts) seats ordered same)
      ∙ sym (is_sum_by receipt_count (λ seat. length seat.receipts) refl (λ seat seats. refl) ordered)

module _ {O C A : Type 0} (opening : O) where
  -- Of no entries nothing is taken.
  pub nothing_taken : (number place : ℕ) (seats : List (SeatModel O C A)) → Matches opening number [] place seats seats
  nothing_taken number place [] = tt
  nothing_taken number place (seat ∷ seats) = (refl, sym (append-nil seat.receipts), nothing_taken number (1 + place) seats)

  pub same_length : (number : ℕ) (entries : List (Entry C A)) (place : ℕ) (seats lefts : List (SeatModel O C A)) →
      Matches opening number entries place seats lefts → length seats ≡ length lefts
  same_length number entries place [] [] matched = refl
  same_length number entries place [] (left ∷ lefts) matched = absurd matched
  same_length number entries place (seat ∷ seats) [] matched = absurd matched
  same_length number entries place (seat ∷ seats) (left ∷ lefts) matched =
      ap suc (same_length number entries (1 + place) seats lefts matched.2)

  own : (number : ℕ) (entry : Entry C A) (later : List (Entry C A)) (place : ℕ) → entry.seat ≡ place →
      receipts_of opening place number (entry ∷ later) ≡ receipt_of opening number entry ∷ receipts_of opening place (1 + number) later
  own number entry later place is = rw (eq-eqb entry.seat place is) refl

  others : (number : ℕ) (entry : Entry C A) (later : List (Entry C A)) (place : ℕ) → (entry.seat ≡ place → ⊥) →
      receipts_of opening place number (entry ∷ later) ≡ receipts_of opening place (1 + number) later
  others number entry later place isnt = rw (ne_eqb entry.seat place isnt) refl

  -- An entry of an earlier seat takes nothing from these.
  passes : (number : ℕ) (entry : Entry C A) (later : List (Entry C A)) (place : ℕ) (seats lefts : List (SeatModel O C A))
      → entry.seat < place →
      Matches opening (1 + number) later place seats lefts → Matches opening number (entry ∷ later) place seats lefts
  passes number entry later place [] [] before matched = tt
  passes number entry later place [] (left ∷ lefts) before matched = absurd matched
  passes number entry later place (seat ∷ seats) [] before matched = absurd matched
  passes number entry later place (seat ∷ seats) (left ∷ lefts) before matched = (
    matched.0,
    matched.1 ∙ ap (λ rs. left.receipts ++ rs) (sym (others number entry later place (λ is. omega arith))),
    passes number entry later (1 + place) seats lefts (omega arith) matched.2,
  )

  -- An entry takes the last receipt from its seat.
  pub takes : (number : ℕ) (entry : Entry C A) (later : List (Entry C A)) (i place : ℕ) (seats lefts : List (SeatModel O C A))
      (taken : SeatModel O C A) →
      entry.seat ≡ place + i → i < length lefts → slice_index_or lefts i taken ≡ with_receipt taken (receipt_of opening number entry) →
      Matches opening (1 + number) later place seats lefts → Matches opening number (entry ∷ later) place seats (slice_set lefts i taken)
  takes number entry later i place [] [] taken is below was matched = tt
  takes number entry later i place [] (left ∷ lefts) taken is below was matched = absurd matched
  takes number entry later i place (seat ∷ seats) [] taken is below was matched = absurd matched
  takes number entry later zero place (seat ∷ seats) (left ∷ lefts) taken is below was matched = (
    matched.0 ∙ ap (λ s. s.number) was,
    matched.1 ∙ ap (λ s. s.receipts ++ receipts_of opening place (1 + number) later) was
        ∙ append_assoc taken.receipts (receipt_of opening number entry ∷ []) (receipts_of opening place (1 + number) later)
        ∙ ap (λ rs. taken.receipts ++ rs) (sym (own number entry later place (omega arith))),
    passes number entry later (1 + place) seats lefts (omega arith) matched.2,
  )
  takes number entry later (suc i) place (seat ∷ seats) (left ∷ lefts) taken is below was matched = (
    matched.0,
    matched.1 ∙ ap (λ rs. left.receipts ++ rs) (sym (others number entry later place (λ same. omega arith))),
    takes number entry later i (1 + place) seats lefts taken (omega arith) (omega arith) was matched.2,
  )

  -- the loop's steps, at the entry of the greatest number below left
  entry_at : (history : List (Entry C A)) (left number : ℕ) (entry : Entry C A) → left ≡ 1 + number → left ≤ length history →
      slice_index_or history number entry ≡ entry → drop number history ≡ entry ∷ drop left history
  entry_at history left number entry is below at =
      drop_more history number entry (omega arith) ∙ ap (λ e. e ∷ drop (number + 1) history) at ∙ ap (λ n. entry ∷ drop n history)
      (omega arith)

  pub taken_at : (history : List (Entry C A)) (left number : ℕ) (entry : Entry C A) (seats lefts : List (SeatModel O C A))
      (taken : SeatModel O C A) →
      left ≡ 1 + number → left ≤ length history → slice_index_or history number entry ≡ entry → entry.seat < length lefts →
      slice_index_or lefts entry.seat taken ≡ with_receipt taken (receipt_of opening number entry) →
      Matches opening left (drop left history) 0 seats lefts → Matches opening number (drop number history) 0 seats
      (slice_set lefts entry.seat taken)
  taken_at history left number entry seats lefts taken is below at seated was matched =
      subst (λ entries. Matches opening number entries 0 seats (slice_set lefts entry.seat taken))
      (sym (entry_at history left number entry is below at))
      (takes number entry (drop left history) entry.seat 0 seats lefts taken (omega arith) seated was
      (subst (λ n. Matches opening n (drop left history) 0 seats lefts) is matched))

  pub missing_at : (history : List (Entry C A)) (left number : ℕ) (entry : Entry C A) (seats lefts : List (SeatModel O C A)) →
      left ≡ 1 + number → left ≤ length history → slice_index_or history number entry ≡ entry →
      ((seat : SeatModel O C A) → slice_get lefts entry.seat ≡ Some seat → LacksLast seat (receipt_of opening number entry)) →
      Matches opening left (drop left history) 0 seats lefts → FirstMissing opening history seats number
  missing_at history left number entry seats lefts is below at missing matched = record {
    earlier = take number history;
    entry = entry;
    later = drop left history;
    left = lefts;
    split = sym (take-append-drop number history) ∙ ap (λ (entries : List (Entry C A)). take number history ++ entries)
        (entry_at history left number entry is below at);
    count = omega (arith, length-take number history);
    matched = subst (λ n. Matches opening n (drop left history) 0 seats lefts) is matched;
    missing = missing;
  }

  matched_at : (number : ℕ) (entries : List (Entry C A)) (k place : ℕ) (seats lefts : List (SeatModel O C A)) (d : SeatModel O C A)
      → k < length seats →
      Matches opening number entries place seats lefts →
      (slice_index_or seats k d).receipts ≡ (slice_index_or lefts k d).receipts ++ receipts_of opening (place + k) number entries
  matched_at number entries k place [] lefts d below matched = absurd (omega arith)
  matched_at number entries k place (seat ∷ seats) [] d below matched = absurd matched
  matched_at number entries zero place (seat ∷ seats) (left ∷ lefts) d below matched =
      subst (λ p. seat.receipts ≡ left.receipts ++ receipts_of opening p number entries) (omega arith) matched.1
  matched_at number entries (suc k) place (seat ∷ seats) (left ∷ lefts) d below matched =
      subst (λ p. (slice_index_or seats k d).receipts ≡ (slice_index_or lefts k d).receipts ++ receipts_of opening p number entries)
      (omega arith)
      (matched_at number entries k (1 + place) seats lefts d (omega arith) matched.2)

  -- Where all receipts are taken, each seat's receipts were those of its entries.
  pub all_taken : (history : List (Entry C A)) (seats lefts : List (SeatModel O C A)) → AreNumbered seats
      → Matches opening 0 history 0 seats lefts →
      All (λ left. left.receipts ≡ []) lefts → All (λ seat. seat.receipts ≡ receipts_of opening seat.number 0 history) seats
  all_taken history seats lefts numbered matched empty k d below =
      matched_at 0 history k 0 seats lefts d below matched
      ∙ ap (λ rs. rs ++ receipts_of opening (0 + k) 0 history) (empty k d
      (subst (λ n. k < n) (same_length 0 history 0 seats lefts matched) below))
      ∙ ap (λ place. receipts_of opening place 0 history) (omega arith ∙ sym (numbered k d below))
