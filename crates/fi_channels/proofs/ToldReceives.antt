-- How many receives are told, and that they stay enough.
use Rattle.std.proofs.Common.{◌≡◌, ◌≢◌, ◌≤◌, ℕ, zero, suc, true, false, List, [], ◌∷◌, Option}
use Rattle.std.proofs.Common.{Some, None, length, refl, sym, ap, ◌∙◌, arith}
use Rattle.std.proofs.lemmas.Bool.{cases_eq, both_ways, ne_eqb}
use Rattle.fi_parts.specs.declared.phase.Phase.{Phase}
use Rattle.fi_parts.specs.declared.phase.Phase.TheVariants.{Told}
use Rattle.fi_parts.specs.Order.{Apart, without}
use Rattle.fi_parts.specs.Waiting.{Waiters, phase_of, is_registered, noticed, without_future, AreSound}
use Rattle.fi_parts.proofs.Queues.{holds-without, holds-without_same, Apart-without_one}
use Rattle.fi_parts.proofs.Slots.{without_absent}
use Rattle.fi_parts.proofs.Waiting.{Becomes, becomes-with_phase, becomes-forgotten, live_if_registered, first_registered}
use Rattle.fi_parts.proofs.Sound.{none_registered}
use Rattle.fi_parts.specs.Oldest.{pop_first, pop_oldest}
use Rattle.fi_channels.specs.declared.channel.fields.ReceiveKind.{ReceiveKind}
use Rattle.fi_channels.specs.ChannelWords.{AreTold, is_receive_phase}

length-without : (x : ℕ) (xs : List ℕ) → Apart xs → length xs ≤ suc (length (without x xs))
length-without x [] a = omega arith
length-without x (y ∷ ys) a = grind (arith, cases_eq x y, length-without x ys a.1, without_absent x ys, a.0)

told_or_registered : {W : Type 0} (p : Option (Phase W)) → p ≡ Some Told → is_registered p ≡ true → ⊥
told_or_registered p e h = both_ways (is_registered p) (ap is_registered e) h

module _ {W : Type 0} where
  pub none_told : (receives : Waiters ReceiveKind W) → AreTold receives 0
  none_told receives = record { names = []; apart = tt; told = λ name at. absurd (both_ways false refl at); many = omega arith }

  pub fewer_told : (receives : Waiters ReceiveKind W) (m n : ℕ) → m ≤ n → AreTold receives n → AreTold receives m
  fewer_told receives m n less was = let many = was.many in record {
    names = was.names;
    apart = was.apart;
    told = was.told;
    many = omega (arith, less, many);
  }

  -- the others stand as before
  pub told_but : (old new : Waiters ReceiveKind W) (name n : ℕ) → ((q : ℕ) → q ≢ name → phase_of new q ≡ phase_of old q) →
      AreTold old (suc n) → AreTold new n
  told_but old new name n others was =
      let many = was.many in
      let left = length-without name was.names was.apart in
      record {
        names = without name was.names;
        apart = Apart-without_one name was.names was.apart;
        told = λ q at.
            grind (arith, cases_eq q name, holds-without_same name was.names, holds-without q name was.names, others q, was.told q, at);
        many = omega (arith, many, left);
      }

  -- one that was not told is told
  told_more : (old new : Waiters ReceiveKind W) (name n : ℕ) → Becomes old new name (Some Told) →
      (phase_of old name ≡ Some Told → ⊥) → AreTold old n → AreTold new (suc n)
  told_more old new name n becomes apart was =
      let many = was.many in
      record {
        names = name ∷ was.names;
        apart = (grind (arith, apart, was.told name), was.apart);
        told = λ q at. grind (arith, cases_eq q name, ne_eqb q name, becomes.here, becomes.others q, was.told q, at);
        many = omega (arith, many);
      }

  -- Where a receive is registered, so many are told.
  abbrev pub Enough : Waiters ReceiveKind W → ℕ → Type 0
  Enough receives n = (name : ℕ) → is_registered (phase_of receives name) ≡ true → AreTold receives n

  pub enough_fewer : (receives : Waiters ReceiveKind W) (m n : ℕ) → m ≤ n → Enough receives n → Enough receives m
  enough_fewer receives m n less was name is = fewer_told receives m n less (was name is)

  pub enough_but : (old new : Waiters ReceiveKind W) (name n : ℕ) (phase : Option (Phase W)) → Becomes old new name phase →
      is_registered phase ≡ false → Enough old (suc n) → Enough new n
  enough_but old new name n phase becomes apart was q is = told_but old new name n becomes.others
      (was q (grind (arith, cases_eq q name, becomes.here, becomes.others q, apart, is)))

  first_told : (receives : Waiters ReceiveKind W) (out : List (ℕ × W)) (n : ℕ) (queue : List ℕ) →
      AreSound is_receive_phase receives out → receives.queue ≡ queue → Enough receives n →
      Enough (pop_first Told receives queue) (suc n)
  first_told receives out n [] sound queue was name is =
      absurd (none_registered is_receive_phase receives out sound queue name is)
  first_told receives out n (first ∷ others) sound queue was name is =
      let waits = first_registered receives out first others sound.ordered queue in
      let becomes = becomes-with_phase receives first Told others (live_if_registered receives first waits) in
      told_more receives (noticed Told receives first others) first n becomes (λ e. told_or_registered
      (phase_of receives first) e waits) (was first waits)

  -- the oldest was told
  pub oldest_enough : (receives : Waiters ReceiveKind W) (out : List (ℕ × W)) (n : ℕ) → AreSound is_receive_phase receives out →
      Enough receives n → Enough (pop_oldest Told receives) (suc n)
  oldest_enough receives out n sound was = first_told receives out n receives.queue sound refl was

  -- a told one passed its notice on
  pub passed_on : (receives : Waiters ReceiveKind W) (out : List (ℕ × W)) (name n : ℕ) →
      AreSound is_receive_phase (without_future receives name) out → Enough receives n →
      Enough (pop_oldest Told (without_future receives name)) n
  passed_on receives out name zero sound was = λ q is. none_told (pop_oldest Told (without_future receives name))
  passed_on receives out name (suc n) sound was =
      oldest_enough (without_future receives name) out n sound (enough_but receives (without_future receives name) name n None
      (becomes-forgotten receives name) refl was)

  -- one that was not told changed, and is told no less
  pub enough_beside : (old new : Waiters ReceiveKind W) (name n : ℕ) → ((q : ℕ) → q ≢ name → phase_of new q ≡ phase_of old q) →
      (phase_of old name ≡ Some Told → ⊥) → AreTold old n → AreTold new n
  enough_beside old new name n others untold was = record {
    names = was.names;
    apart = was.apart;
    told = λ q at. others q (λ same. untold (ap (λ k. phase_of old k) (sym same) ∙ was.told q at)) ∙ was.told q at;
    many = was.many;
  }
