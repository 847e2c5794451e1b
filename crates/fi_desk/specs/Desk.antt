-- Seats, and what it means that a history is settled with their receipts.
use Rattle.std.specs.Prelude.{◌≡◌, ◌≢◌, ◌⊎◌, ℕ, ◌+◌, ◌<◌, ◌≤◌, ◌==◌, if◌then◌else◌, List, [], ◌∷◌, ◌++◌, length}
use Rattle.std.specs.Prelude.{All, IsPermutation, Some, slice_get, slice_index_or}
use Rattle.std.specs.List.Sorted.{IsNonDecreasingBy}
use Rattle.fi_desk.specs.declared.journal.Entry.{Entry}
use Rattle.fi_desk.specs.declared.desk.Mismatch.{Mismatch}
use Rattle.fi_desk.specs.declared.desk.Mismatch.TheVariants.{Seats, Entry as missing_entry}
use Rattle.fi_desk.specs.Journal.{ReceiptModel, Replays, receipt_of}

-- a seat as callers see it
pub record SeatModel (O C A : Type 0) : Type 0 where
  pub number : ℕ
  pub receipts : List (ReceiptModel O C A)

-- Each entry is of one of so many seats.
abbrev pub AreOf : {C A : Type 0} → ℕ → List (Entry C A) → Type 0
AreOf seats entries = All (λ entry. entry.seat < seats) entries

module _ {O C A : Type 0} where
  -- the seat with one more receipt
  abbrev pub with_receipt : SeatModel O C A → ReceiptModel O C A → SeatModel O C A
  with_receipt seat receipt = record seat { receipts = seat.receipts ++ receipt ∷ [] }

  -- the receipts of a seat's entries, in the order of the history, whose first entry has this number
  abbrev pub receipts_of : O → ℕ → ℕ → List (Entry C A) → List (ReceiptModel O C A)
  receipts_of opening seat number [] = []
  receipts_of opening seat number (entry ∷ entries) = if entry.seat == seat
      then receipt_of opening number entry ∷ receipts_of opening seat (1 + number) entries
      else receipts_of opening seat (1 + number) entries

  -- how many receipts seats have together
  abbrev pub receipt_count : List (SeatModel O C A) → ℕ
  receipt_count [] = 0
  receipt_count (seat ∷ seats) = length seat.receipts + receipt_count seats

  -- The seats are numbered from 0, in their order.
  abbrev pub AreNumbered : List (SeatModel O C A) → Type 0
  AreNumbered seats = (place : ℕ) (d : SeatModel O C A) → place < length seats → (slice_index_or seats place d).number ≡ place

  -- The receipts of these entries, the first of this number, stand last at their seats; without them the seats are those left.
  abbrev pub Matches : O → ℕ → List (Entry C A) → ℕ → List (SeatModel O C A) → List (SeatModel O C A) → Type 0
  Matches opening number entries place [] [] = Unit {0}
  Matches opening number entries place [] (left ∷ lefts) = ⊥
  Matches opening number entries place (seat ∷ seats) [] = ⊥
  Matches opening number entries place (seat ∷ seats) (left ∷ lefts) = (seat.number ≡ left.number)
      × (seat.receipts ≡ left.receipts ++ receipts_of opening place number entries)
      × Matches opening number entries (1 + place) seats lefts

  -- This receipt is not the seat's last.
  abbrev pub LacksLast : SeatModel O C A → ReceiptModel O C A → Type 0
  LacksLast seat receipt = (earlier : List (ReceiptModel O C A)) → seat.receipts ≢ earlier ++ receipt ∷ []

-- In the order of their numbers the seats are numbered from 0; each entry is of one of them; and each seat's receipts are those of its
-- entries, in the order of the history.
pub record Settles {O C A : Type 0} (opening : O) (history : List (Entry C A)) (seats : List (SeatModel O C A)) : Type 0 where
  pub ordered : List (SeatModel O C A)
  pub same : IsPermutation seats ordered
  pub numbered : AreNumbered ordered
  pub seated : AreOf (length seats) history
  pub receipts : All (λ seat. seat.receipts ≡ receipts_of opening seat.number 0 history) ordered

-- From this entry on: the receipts of all later ones stand last at their seats, and its own does not stand before them, or its seat was
-- not given. The seats are in the order of their numbers.
pub record FirstMissing {O C A : Type 0} (opening : O) (history : List (Entry C A)) (seats : List (SeatModel O C A))
    (number : ℕ) : Type 0 where
  pub earlier : List (Entry C A)
  pub entry : Entry C A
  pub later : List (Entry C A)
  pub left : List (SeatModel O C A)
  pub split : history ≡ earlier ++ entry ∷ later
  pub count : number ≡ length earlier
  pub matched : Matches opening (1 + number) later 0 seats left
  pub missing : (seat : SeatModel O C A) → slice_get left entry.seat ≡ Some seat → LacksLast seat (receipt_of opening number entry)

-- The mismatch names such an entry.
abbrev pub IsMissing : {O C A : Type 0} → O → List (Entry C A) → List (SeatModel O C A) → Mismatch → Type 0
IsMissing opening history seats Seats = ⊥
IsMissing opening history seats (missing_entry number) = FirstMissing opening history seats number

-- why a desk that made so many seats and has this history is not settled
abbrev pub IsDue : {O C A : Type 0} → ℕ → O → List (Entry C A) → List (SeatModel O C A) → Mismatch → Type 0
IsDue {O} {C} {A} made opening history seats Seats =
    (length seats < made) ⊎ ((ordered : List (SeatModel O C A)) × IsPermutation seats ordered
    × IsNonDecreasingBy (λ seat. seat.number) ordered × (AreNumbered ordered → ⊥))
IsDue {O} {C} {A} made opening history seats (missing_entry number) =
    (made ≤ length seats) × (ordered : List (SeatModel O C A)) × IsPermutation seats ordered × AreNumbered ordered
    × FirstMissing opening history ordered number

-- Some desk of this primitive, which made at most so many seats and whose history replays, is not settled with these seats for this
-- reason.
pub record Unsettled {O S C A : Type 0} (opens : O → S → Type 0) (step : S → C → A → S → Type 0)
    (most : ℕ) (seats : List (SeatModel O C A)) (mismatch : Mismatch) : Type 0 where
  pub made : ℕ
  pub bounded : made ≤ most
  pub opening : O
  pub history : List (Entry C A)
  pub state : S
  pub replays : ∥ (Replays opens step opening history state) ∥₁
  pub due : IsDue made opening history seats mismatch
