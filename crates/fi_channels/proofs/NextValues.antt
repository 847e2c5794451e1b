-- The next value of a channel: what is left once it was taken, and that there is none where nothing is left.
use Rattle.std.proofs.Common.{◌≡◌, ◌+◌, ℕ, suc, nat_lt, drop, ◌⊎◌, List, [], ◌∷◌, ◌++◌, Option, Some, None, length, length-append}
use Rattle.std.proofs.Common.{refl, sym, ap, ◌∙◌, inl, inr, arith}
use Rattle.fi_parts.specs.Buffer.{Bounded, Fits, pushed, popped}
use Rattle.fi_parts.proofs.PairsWithin.{none_some, some_same}
use Rattle.fi_channels.specs.ChannelWords.{Buffered, has_room, next_value}

-- The oldest of this queue owns this value; None if the queue is empty.
abbrev pub Fronts : {T : Type 0} → List ℕ → Option T → Type 0
Fronts [] asks = asks ≡ None
Fronts {T} (name ∷ others) asks = (value : T) × (asks ≡ Some value)

module _ {T : Type 0} where
  -- What is left where the next value was taken.
  pub left_over : (own : Buffered T) (items : List T) (queue : List ℕ) (asks : Option T) (next : T × Bounded T) →
      own.buffer.items ≡ items →
      Fits own.buffer → Fronts queue asks → next_value own.buffer items asks ≡ Some next → Fits next.1
      × (length items + length queue ≡ suc (length next.1.items + length (drop 1 queue)))
      × ((queue ≡ []) ⊎ (has_room (record own { buffer = next.1 }) ≡ has_room own))
  left_over own [] [] asks next is fits fronts took =
      absurd (none_some next (sym (ap (next_value own.buffer []) fronts) ∙ took))
  left_over own [] (n ∷ others) asks next is fits fronts took =
      let same : (fronts.0, own.buffer) ≡ next = some_same _ _ (sym (ap (next_value own.buffer []) fronts.1) ∙ took) in
      let none : length own.buffer.items ≡ 0 = ap length is in
      rw (← same) (fits, omega (arith, none), inr refl)
  left_over own (value ∷ left) [] asks next is fits fronts took =
      let same : (value, popped own.buffer left)
      ≡ next = some_same _ _ (sym (ap (next_value own.buffer (value ∷ left)) fronts) ∙ took) in
      let many : length own.buffer.items ≡ suc (length left) = ap length is in
      let less = fits.0 in
      rw (← same) ((omega (arith, many, less), fits.1), omega arith, inl refl)
  left_over own (value ∷ left) (n ∷ others) asks next is fits fronts took =
      let after = pushed (popped own.buffer left) fronts.0 own.buffer.reserved in
      let same : (value, after) ≡ next = some_same _ _ (sym (ap (next_value own.buffer (value ∷ left)) fronts.1) ∙ took) in
      let many : length own.buffer.items ≡ suc (length left) = ap length is in
      let pushes : length (left ++ fronts.0 ∷ []) ≡ length left + 1 = length-append left (fronts.0 ∷ []) in
      let still : length (left ++ fronts.0 ∷ []) ≡ length own.buffer.items = omega (arith, many, pushes) in
      let less = fits.0 in
      rw (← same)
      ((omega (arith, still, less), fits.1), omega (arith, pushes), inr (ap (λ m. nat_lt m own.buffer.capacity) still))

  -- Where there is no next value there is none at all.
  pub nothing_left : (buffer : Bounded T) (items : List T) (queue : List ℕ) (asks : Option T) → Fronts queue asks →
      next_value buffer items asks ≡ None → length items + length queue ≡ 0
  nothing_left buffer [] [] asks fronts none = refl
  nothing_left buffer [] (n ∷ others) asks fronts none =
      absurd (none_some _ (sym none ∙ ap (next_value buffer []) fronts.1))
  nothing_left buffer (value ∷ left) queue asks fronts none = absurd (none_some _ (sym none))
