-- Values come out of a channel in the order in which they were accepted: what each step does to the accepted, received and held
-- values.
use Rattle.std.specs.Prelude.{◌≡◌, ◌≢◌, ◌⊎◌, ℕ, ◌||◌, not, cond, eqb, Bool, true, false}
use Rattle.std.specs.Prelude.{Option, Some, None, List, [], ◌∷◌, ◌++◌, refl}
use Rattle.std.proofs.Common.{sym, ◌∙◌, ap, subst, inl, inr, append_assoc}
use Rattle.std.proofs.lemmas.Bool.{both_ways, cases_eq, or_parts, or_from, or_right, or_cases, eqb-true, eq-eqb, ne_eqb}
use Rattle.std.proofs.lemmas.List.{append-nil, map-append}
use Rattle.std.proofs.lemmas.List.Elements.{filter-append}
use Rattle.std.proofs.lemmas.List.Folds.{list_any-append}
use Rattle.std.specs.Option.{option_flatten}
use Rattle.fi_parts.specs.declared.phase.Phase.TheVariants.{Complete}
use Rattle.fi_parts.specs.Order.{holds, without}
use Rattle.fi_parts.specs.Waiting.{Waiters, phase_of, asks_of}
use Rattle.fi_parts.proofs.Slots.{eqb_same}
use Rattle.fi_run.specs.ChannelValues.{Accepted, is_sender, values_in, from_nobody, one_from, waits_with, withdrawn_by}
use Rattle.fi_run.specs.ChannelValues.{released, released_by, waiting_in, Follows}

module _ {T : Type 0} where
  pub waits-append : (name : ℕ) (xs ys : List (Accepted T)) →
      waits_with name (xs ++ ys) ≡ (waits_with name xs || waits_with name ys)
  waits-append name xs ys = list_any-append (λ (a : Accepted T). is_sender name a.sender) xs ys

  pub values-append : (xs ys : List (Accepted T)) → values_in (xs ++ ys) ≡ values_in xs ++ values_in ys
  values-append xs ys = map-append (λ (a : Accepted T). a.value) xs ys

  pub nobody_values : (values : List T) → values_in (from_nobody values) ≡ values
  nobody_values [] = refl
  nobody_values (value ∷ values) = ap (λ xs. value ∷ xs) (nobody_values values)

  nobody_waits : (name : ℕ) (values : List T) → waits_with name (from_nobody values) ≡ false
  nobody_waits name [] = refl
  nobody_waits name (value ∷ values) = nobody_waits name values

  -- one more that nobody waits with
  pub settled_more : (name : ℕ) (xs : List (Accepted T)) (value : T) → waits_with name
      (xs ++ one_from None (Some value)) ≡ waits_with name xs
  settled_more name xs value = waits-append name xs (one_from None (Some value)) ∙ none (waits_with name xs)
    where
      none : (b : Bool) → (b || false) ≡ b
      none true = refl
      none false = refl

  pub withdrawn_none : (name : ℕ) (xs : List (Accepted T)) → waits_with name xs ≡ false → withdrawn_by name xs ≡ xs
  withdrawn_none name [] off = refl
  withdrawn_none name (a ∷ xs) off = each (is_sender name a.sender) off (withdrawn_none name xs)
    where
      each : (b : Bool) → (b || waits_with name xs) ≡ false → (waits_with name xs ≡ false → withdrawn_by name xs ≡ xs) →
          cond (not b) (a ∷ withdrawn_by name xs) (withdrawn_by name xs) ≡ a ∷ xs
      each true is rest = absurd (both_ways true is refl)
      each false is rest = ap (λ ys. a ∷ ys) (rest is)

  pub withdrawn-append : (name : ℕ) (xs ys : List (Accepted T)) →
      withdrawn_by name (xs ++ ys) ≡ withdrawn_by name xs ++ withdrawn_by name ys
  withdrawn-append name xs ys = filter-append (λ (a : Accepted T). not (is_sender name a.sender)) xs ys

  pub released_values : (name : ℕ) (xs : List (Accepted T)) → values_in (released_by name xs) ≡ values_in xs
  released_values name [] = refl
  released_values name (a ∷ xs) = ap (λ ys. a.value ∷ ys) (released_values name xs)

  pub released-append : (name : ℕ) (xs ys : List (Accepted T)) → released_by name
      (xs ++ ys) ≡ released_by name xs ++ released_by name ys
  released-append name xs ys = map-append (released name) xs ys

  pub released_none : (name : ℕ) (xs : List (Accepted T)) → waits_with name xs ≡ false → released_by name xs ≡ xs
  released_none name [] off = refl
  released_none name (a ∷ xs) off =
      let parts = or_parts (is_sender name a.sender) (waits_with name xs) off in
      λ i. (record a { sender = cond (parts.0 i) None a.sender }) ∷ released_none name xs parts.1 i

  -- nobody waits with the last one
  pub released_stored : (name : ℕ) (xs : List (Accepted T)) (value : T) → waits_with name xs ≡ false →
      released_by name (xs ++ one_from None (Some value)) ≡ xs ++ one_from None (Some value)
  released_stored name xs value off = released-append name xs (one_from None (Some value))
      ∙ ap (λ ys. ys ++ one_from None (Some value)) (released_none name xs off)

  pub released_not : (name : ℕ) (xs : List (Accepted T)) → waits_with name (released_by name xs) ≡ false
  released_not name [] = refl
  released_not name (a ∷ xs) = or_from _ _ (each (is_sender name a.sender) refl) (released_not name xs)
    where
      each : (b : Bool) → is_sender name a.sender ≡ b → is_sender name (cond b None a.sender) ≡ false
      each true is = refl
      each false is = is

  pub released_other : (q name : ℕ) (xs : List (Accepted T)) → q ≢ name → waits_with q (released_by name xs) ≡ waits_with q xs
  released_other q name [] ne = refl
  released_other q name (a ∷ xs) ne = λ i. each a.sender i || released_other q name xs ne i
    where
      each : (sender : Option ℕ) → is_sender q (cond (is_sender name sender) None sender) ≡ is_sender q sender
      each None = refl
      each (Some other) = elim (cases_eq name other) [
        | inl same ↦ ap (λ b. is_sender q (cond b None (Some other))) (eq-eqb name other same)
            ∙ sym (ne_eqb q other (λ e. ne (e ∙ sym same)))
        | inr apart ↦ ap (λ b. is_sender q (cond b None (Some other))) (ne_eqb name other apart)
      ]

  -- of one value, whoever sends it
  pub one_waits : (name : ℕ) (sender : ℕ) (value : Option T) → eqb name sender ≡ false → waits_with name
      (one_from (Some sender) value) ≡ false
  one_waits name sender None off = refl
  one_waits name sender (Some value) off = or_from _ _ off refl

  one_withdrawn : (name : ℕ) (value : Option T) → withdrawn_by name (one_from (Some name) value) ≡ []
  one_withdrawn name None = refl
  one_withdrawn name (Some value) = ap (λ b. cond (not b) (one_from (Some name) (Some value)) []) (eqb_same name)

module _ {T W : Type 0} where
  -- the value that a send owns
  abbrev pub value_at : Waiters (Option T) W → ℕ → Option T
  value_at sends name = option_flatten (asks_of sends name)

  pub waiting_same : (old new : Waiters (Option T) W) (names : List ℕ) → ((q : ℕ) → value_at new q ≡ value_at old q) →
      waiting_in new names ≡ waiting_in old names
  waiting_same old new [] same = refl
  waiting_same old new (n ∷ names) same = λ i. one_from (Some n) (same n i) ++ waiting_same old new names same i

  -- who is not among these may own another value
  pub waiting_but : (old new : Waiters (Option T) W) (name : ℕ) (names : List ℕ) → holds name names ≡ false →
      ((q : ℕ) → q ≢ name → value_at new q ≡ value_at old q) → waiting_in new names ≡ waiting_in old names
  waiting_but old new name [] off same = refl
  waiting_but old new name (n ∷ names) off same =
      let parts = or_parts (eqb name n) (holds name names) off in
      let ne : n ≢ name = λ e. both_ways (eqb name n) parts.0 (eq-eqb name n (sym e)) in
      λ i. one_from (Some n) (same n ne i) ++ waiting_but old new name names parts.1 same i

  pub waits_not : (sends : Waiters (Option T) W) (name : ℕ) (names : List ℕ) → holds name names ≡ false →
      waits_with name (waiting_in sends names) ≡ false
  waits_not sends name [] off = refl
  waits_not sends name (n ∷ names) off =
      let parts = or_parts (eqb name n) (holds name names) off in
      waits-append name (one_from (Some n) (value_at sends n)) (waiting_in sends names)
      ∙ or_from _ _ (one_waits name n (value_at sends n) parts.0) (waits_not sends name names parts.1)

  pub waits_in : (sends : Waiters (Option T) W) (name : ℕ) (names : List ℕ) (value : T) → value_at sends name ≡ Some value →
      holds name names ≡ true → waits_with name (waiting_in sends names) ≡ true
  waits_in sends name [] value owns at = absurd (both_ways false refl at)
  waits_in sends name (n ∷ names) value owns at =
      waits-append name (one_from (Some n) (value_at sends n)) (waiting_in sends names)
      ∙ elim (or_cases (eqb name n) (holds name names) at) [
        | inl here ↦ ap (λ b. b || waits_with name (waiting_in sends names))
            (ap (λ v. waits_with name (one_from (Some n) v)) (ap (value_at sends) (sym (eqb-true name n here)) ∙ owns)
            ∙ ap (λ b. b || false) here)
        | inr there ↦ or_right (waits_with name (one_from (Some n) (value_at sends n))) _
            (waits_in sends name names value owns there)
      ]

  pub waiting_end : (sends : Waiters (Option T) W) (name : ℕ) (names : List ℕ) →
      waiting_in sends (names ++ name ∷ []) ≡ waiting_in sends names ++ one_from (Some name) (value_at sends name)
  waiting_end sends name [] = append-nil (one_from (Some name) (value_at sends name))
  waiting_end sends name (n ∷ names) =
      ap (λ xs. one_from (Some n) (value_at sends n) ++ xs) (waiting_end sends name names)
      ∙ sym (append_assoc (one_from (Some n) (value_at sends n)) (waiting_in sends names)
      (one_from (Some name) (value_at sends name)))

  pub waiting_without : (sends : Waiters (Option T) W) (name : ℕ) (names : List ℕ) →
      withdrawn_by name (waiting_in sends names) ≡ waiting_in sends (without name names)
  waiting_without sends name [] = refl
  waiting_without sends name (n ∷ names) =
      withdrawn-append name (one_from (Some n) (value_at sends n)) (waiting_in sends names)
      ∙ elim (cases_eq name n) [
        | inl same ↦ (λ i. both_withdrawn same i ++ waiting_without sends name names i)
            ∙ sym (ap (λ b. waiting_in sends (cond (not b) (n ∷ without name names) (without name names))) (eq-eqb name n same))
        | inr ne ↦
            let off = ne_eqb name n ne in
            (λ i. withdrawn_none name (one_from (Some n) (value_at sends n)) (one_waits name n (value_at sends n) off) i
            ++ waiting_without sends name names i)
            ∙ sym (ap (λ b. waiting_in sends (cond (not b) (n ∷ without name names) (without name names))) off)
      ]
    where
      both_withdrawn : name ≡ n → withdrawn_by name (one_from (Some n) (value_at sends n)) ≡ []
      both_withdrawn same = ap (λ k. withdrawn_by k (one_from (Some n) (value_at sends n))) same ∙ one_withdrawn n
          (value_at sends n)

  -- At first.
  pub follows_first : (items : List T) (sends : Waiters (Option T) W) →
      Follows (from_nobody items ++ waiting_in sends sends.queue) (value_at sends) [] items sends
  follows_first items sends = record {
    settled = from_nobody items;
    accepted_is = refl;
    values = nobody_values items;
    complete = λ name at. absurd (both_ways _ (nobody_waits name items) at);
    done = λ name is. inr refl;
    offered = λ name value is. is;
  }

  -- What follows is in order.
  pub follows_order : (before : List (Accepted T)) (offers : ℕ → Option T) (taken items : List T) (sends : Waiters (Option T) W) →
      Follows before offers taken items sends →
      values_in before ≡ taken ++ values_in (from_nobody items ++ waiting_in sends sends.queue)
  follows_order before offers taken items sends was =
      let waiting = waiting_in sends sends.queue in
      ap values_in was.accepted_is ∙ values-append was.settled waiting ∙ ap (λ xs. xs ++ values_in waiting) was.values
      ∙ append_assoc taken items (values_in waiting)
      ∙ ap (λ xs. taken ++ xs) (sym (values-append (from_nobody items) waiting ∙ ap (λ xs. xs ++ values_in waiting)
      (nobody_values items)))

  -- Nothing changed of the values.
  pub follows_same : (before : List (Accepted T)) (offers : ℕ → Option T) (taken items left : List T)
      (old new : Waiters (Option T) W) → left ≡ items → new ≡ old → Follows before offers taken items old →
      Follows before offers taken left new
  follows_same before offers taken items left old new kept sides was =
      subst (λ (xs : List T). Follows before offers taken xs new) (sym kept)
      (subst (λ (s : Waiters (Option T) W). Follows before offers taken items s) (sym sides) was)

  -- One more value was accepted and buffered, and nobody waits.
  pub follows_stored : (before : List (Accepted T)) (offers : ℕ → Option T) (taken items : List T) (sends : Waiters (Option T) W)
      (value : T) → sends.queue ≡ [] → Follows before offers taken items sends →
      Follows (before ++ one_from None (Some value)) offers taken (items ++ value ∷ []) sends
  follows_stored before offers taken items sends value alone was =
      let nobody : waiting_in sends sends.queue ≡ [] = ap (waiting_in sends) alone in
      let one = one_from None (Some value) in
      record {
        settled = was.settled ++ one;
        accepted_is = ap (λ xs. xs ++ one) (was.accepted_is ∙ ap (λ xs. was.settled ++ xs) nobody ∙ append-nil was.settled)
            ∙ sym (ap (λ xs. (was.settled ++ one) ++ xs) nobody ∙ append-nil (was.settled ++ one));
        values = values-append was.settled one ∙ ap (λ xs. xs ++ value ∷ []) was.values ∙ append_assoc taken items (value ∷ []);
        complete = λ name at. was.complete name (sym (settled_more name was.settled value) ∙ at);
        done = λ name is. elim (was.done name is) [
          | inl at ↦ inl (settled_more name was.settled value ∙ at)
          | inr none ↦ inr none
        ];
        offered = was.offered;
      }

  module _ (old new : Waiters (Option T) W) (name : ℕ) where
    -- Only this name changed.
    pub record ChangesOne : Type 0 where
      pub phases : (q : ℕ) → q ≢ name → phase_of new q ≡ phase_of old q
      pub values : (q : ℕ) → q ≢ name → value_at new q ≡ value_at old q

    -- What one that changed has to show.
    pub one_changed : (before after : List (Accepted T)) (offers offers_after : ℕ → Option T) (taken got items left : List T)
        (settled_after : List (Accepted T)) → ChangesOne → (was : Follows before offers taken items old) →
        after ≡ settled_after ++ waiting_in new new.queue → values_in settled_after ≡ got ++ left →
        ((q : ℕ) → q ≢ name → waits_with q settled_after ≡ waits_with q was.settled) →
        (waits_with name settled_after ≡ true → phase_of new name ≡ Some Complete) →
        (phase_of new name ≡ Some Complete → (waits_with name settled_after ≡ true) ⊎ (offers_after name ≡ value_at new name)) →
        ((value : T) → value_at new name ≡ Some value → offers_after name ≡ Some value) →
        ((q : ℕ) → q ≢ name → offers_after q ≡ offers q) →
        Follows after offers_after got left new
    one_changed before after offers offers_after taken got items left settled_after changes was
        is values others complete done offered same = record {
          settled = settled_after;
          accepted_is = is;
          values = values;
          complete = λ q at. elim (cases_eq q name) [
            | inl here ↦ ap (phase_of new) here ∙ complete (ap (λ k. waits_with k settled_after) (sym here) ∙ at)
            | inr ne ↦ changes.phases q ne ∙ was.complete q (sym (others q ne) ∙ at)
          ];
          done = λ q at. elim (cases_eq q name) [
            | inl here ↦ elim (done (ap (phase_of new) (sym here) ∙ at)) [
              | inl waits ↦ inl (ap (λ k. waits_with k settled_after) here ∙ waits)
              | inr same ↦ inr (ap offers_after here ∙ same ∙ ap (value_at new) (sym here))
            ]
            | inr ne ↦ elim (was.done q (sym (changes.phases q ne) ∙ at)) [
              | inl waits ↦ inl (others q ne ∙ waits)
              | inr before ↦ inr (same q ne ∙ before ∙ sym (changes.values q ne))
            ]
          ];
          offered = λ q value owns. elim (cases_eq q name) [
            | inl here ↦ ap offers_after here ∙ offered value (ap (value_at new) (sym here) ∙ owns)
            | inr ne ↦ same q ne ∙ was.offered q value (sym (changes.values q ne) ∙ owns)
          ];
        }
