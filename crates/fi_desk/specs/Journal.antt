-- Journals: a state with its history, and the receipts of its calls.
use Rattle.std.specs.Prelude.{◌≡◌, ℕ, List, [], ◌∷◌, ◌++◌, map, length}
use Rattle.fi_run.specs.Run.{IsRun}
use Rattle.fi_desk.specs.declared.journal.Entry.{Entry}

-- a journal as callers see it
pub record JournalModel (O C A S : Type 0) : Type 0 where
  pub opening : O
  pub history : List (Entry C A)
  pub state : S

-- a receipt: the opening of the journal, how many entries were before this one, the call and its answer
pub record ReceiptModel (O C A : Type 0) : Type 0 where
  pub opening : O
  pub number : ℕ
  pub call : C
  pub answer : A

-- the calls of a history with their answers
abbrev pub calls_of : {C A : Type 0} → List (Entry C A) → List (C × A)
calls_of history = map (λ entry. (entry.call, entry.answer)) history

module _ {O S C A : Type 0} where
  -- The history is a run from a state that the opening makes to the state now.
  abbrev pub Replays : (O → S → Type 0) → (S → C → A → S → Type 0) → O → List (Entry C A) → S → Type 0
  Replays opens step opening history state = (first : S) × opens opening first × IsRun step first (calls_of history) state

  -- One entry was added: the seat's call with an answer that is a step to the state now.
  abbrev pub Records : (S → C → A → S → Type 0) → JournalModel O C A S → ℕ → C → A → JournalModel O C A S → Type 0
  Records step old seat call answer new = (new.opening ≡ old.opening)
      × (new.history ≡ old.history ++ (record { seat = seat; call = call; answer = answer }) ∷ [])
      × step old.state call answer new.state

  -- the receipt of a call that is answered next
  abbrev pub next_receipt : JournalModel O C A S → C → A → ReceiptModel O C A
  next_receipt journal call answer = record { opening = journal.opening; number = length journal.history; call = call; answer = answer }

-- the receipt of the entry of this number
abbrev pub receipt_of : {O C A : Type 0} → O → ℕ → Entry C A → ReceiptModel O C A
receipt_of opening number entry = record { opening = opening; number = number; call = entry.call; answer = entry.answer }

-- A run of number + 1 entries leads from a state that the receipt's opening makes to some state; the last entry is the receipt's call
-- and answer.
pub record ReceiptReplays {O S C A : Type 0} (opens : O → S → Type 0) (step : S → C → A → S → Type 0)
    (receipt : ReceiptModel O C A) : Type 0 where
  pub first : S
  pub earlier : List (C × A)
  pub now : S
  pub opened : opens receipt.opening first
  pub count : length earlier ≡ receipt.number
  pub run : IsRun step first (earlier ++ (receipt.call, receipt.answer) ∷ []) now
