-- Forests that links make: what a change of the links leaves, and what the order says.
use Rattle.std.proofs.Common.{◌≡◌, ◌≢◌, ℕ, zero, suc, ◌+◌, ◌≤◌, ◌<◌, true, false, eqb, List, [], ◌∷◌, length, Option, Some, None, is_some}
use Rattle.std.proofs.Common.{refl, sym, ap, subst, ◌∙◌, inl, inr, arith}
use Rattle.std.proofs.lemmas.Bool.{eq-eqb, ne_eqb, cond-true, cond-false, cases_eq, false≢true}
use Rattle.std.proofs.lemmas.Option.{same_Some}
use Rattle.std.proofs.lemmas.Map.Steps.{length-le_from_distinct_below}
use Rattle.std.specs.List.{IsDistinct, AllByRecursion, list_any}
use Rattle.std.specs.Cmp.{IsTotalOrder}
use Rattle.std.specs.Ordering.{is_le, ordering_reverse}
use Rattle.std.specs.declared.cmp.Ordering.{Ordering}
use Rattle.std.specs.declared.cmp.Ordering.TheVariants.{Less, Equal, Greater}
use Rattle.fi_parts.specs.declared.heap_nodes.Back.{Back}
use Rattle.fi_parts.specs.declared.heap_nodes.Back.TheVariants.{Parent, Sibling}
use Rattle.fi_parts.specs.declared.heap_nodes.HeapLinks.{HeapLinks}
use Rattle.fi_parts.specs.HeapForests.{Forest, nil, node, Tree, no_tree, tree, head, one_at, count, count_in, roots, child_of, next_of}
use Rattle.fi_parts.specs.HeapForests.{next_to, child_to, back_to, placed, linked, backed, adopted_before, adopted, Makes, Strings, Holds}
use Rattle.fi_parts.specs.HeapForests.{Roots, span, at_most, Below, Ordered, OrderedIn}

-- counts

pub one_at-same : (x : ℕ) → one_at x x ≡ 1
one_at-same x = cond-true (eqb x x) 1 0 (eq-eqb x x refl)

pub one_at-other : (k x : ℕ) → k ≢ x → one_at k x ≡ 0
one_at-other k x ne = cond-false (eqb k x) 1 0 (ne_eqb k x ne)

pub differs : (k x : ℕ) → one_at k x ≡ 0 → k ≢ x
differs k x none same =
    let one : one_at k x ≡ 1 = ap (λ y. one_at y x) same ∙ one_at-same x in
    omega arith

pub not_there : (k x : ℕ) (f : Forest) → 1 ≤ count k f → count x f ≡ 0 → k ≢ x
not_there k x f at none same =
    let alike : count k f ≡ count x f = ap (λ y. count y f) same in
    omega arith

pub not_in : (k x : ℕ) (t : Tree) → 1 ≤ count_in k t → count_in x t ≡ 0 → k ≢ x
not_in k x t at none same =
    let alike : count_in k t ≡ count_in x t = ap (λ y. count_in y t) same in
    omega arith

pub count-head : (x : ℕ) (kids rest : Forest) → 1 ≤ count x (node x kids rest)
count-head x kids rest = let here = one_at-same x in omega arith

pub count-top : (x : ℕ) (kids : Forest) → 1 ≤ count_in x (tree x kids)
count-top x kids = let here = one_at-same x in omega arith

count-first : (k x : ℕ) (kids rest : Forest) → ◌≡◌ {A = Option ℕ} (Some x) (Some k) → 1 ≤ count k (node x kids rest)
count-first k x kids rest e = subst (λ y. 1 ≤ count y (node x kids rest)) (same_Some _ _ e) (count-head x kids rest)

count-only : (k x : ℕ) (kids : Forest) → ◌≡◌ {A = Option ℕ} (Some x) (Some k) → 1 ≤ count_in k (tree x kids)
count-only k x kids e = subst (λ y. 1 ≤ count_in y (tree x kids)) (same_Some _ _ e) (count-top x kids)

-- writes

pub linked-same : (g : ℕ → Option HeapLinks) (x : ℕ) (w : Option HeapLinks) → linked g x w x ≡ w
linked-same g x w = cond-true (eqb x x) _ _ (eq-eqb x x refl)

pub linked-other : (g : ℕ → Option HeapLinks) (x : ℕ) (w : Option HeapLinks) (k : ℕ) → k ≢ x → linked g x w k ≡ g k
linked-other g x w k ne = cond-false (eqb k x) _ _ (ne_eqb k x ne)

pub linked-some : (g : ℕ → Option HeapLinks) (x : ℕ) (w : Option HeapLinks) → is_some w ≡ is_some (g x) → (k : ℕ)
    → is_some (linked g x w k) ≡ is_some (g k)
linked-some g x w some k = grind (arith, cases_eq k x, some)

pub backed-other : (g : ℕ → Option HeapLinks) (f : Forest) (back : Back) (k : ℕ) → count k f ≡ 0 → backed g (head f) back k ≡ g k
backed-other g nil back k none = refl
backed-other g (node x kids rest) back k none = linked-other g x _ k (differs k x (omega arith))

-- the same links at each slot of a forest make the same forest

pub Makes-alike : (g h : ℕ → Option HeapLinks) (back : Back) (f : Forest) → ((k : ℕ) → 1 ≤ count k f → h k ≡ g k) → Makes g back f
    → Makes h back f
Makes-alike g h back nil same made = tt
Makes-alike g h back (node x kids rest) same made = (
  same x (count-head x kids rest) ∙ made.0,
  Makes-alike g h (Parent x) kids (λ k at. same k (omega arith)) made.1,
  Makes-alike g h (Sibling x) rest (λ k at. same k (omega arith)) made.2,
)

pub Strings-alike : (g h : ℕ → Option HeapLinks) (f : Forest) → ((k : ℕ) → 1 ≤ count k f → h k ≡ g k) → Strings g f → Strings h f
Strings-alike g h nil same made = tt
Strings-alike g h (node x kids rest) same made =
    let here = same x (count-head x kids rest) in (
      ap is_some here ∙ made.0,
      ap child_of here ∙ made.1,
      ap next_of here ∙ made.2,
      Makes-alike g h (Parent x) kids (λ k at. same k (omega arith)) made.3,
      Strings-alike g h rest (λ k at. same k (omega arith)) made.4,
    )

pub Roots-alike : (g h : ℕ → Option HeapLinks) (t : Tree) → ((k : ℕ) → 1 ≤ count_in k t → h k ≡ g k) → Roots g t → Roots h t
Roots-alike g h no_tree same made = tt
Roots-alike g h (tree x kids) same made = (
  same x (count-top x kids) ∙ made.0,
  Makes-alike g h (Parent x) kids (λ k at. same k (omega arith)) made.1,
)

-- a forest made as a child list is a chain of trees
pub Strings-made : (g : ℕ → Option HeapLinks) (back : Back) (f : Forest) → Makes g back f → Strings g f
Strings-made g back nil made = tt
Strings-made g back (node x kids rest) made = (
  ap is_some made.0,
  ap child_of made.0,
  ap next_of made.0,
  made.1,
  Strings-made g (Sibling x) rest made.2,
)

pub Holds-root : (g : ℕ → Option HeapLinks) (t : Tree) → Roots g t → Holds g t
Holds-root g no_tree made = tt
Holds-root g (tree x kids) made = (ap is_some made.0, ap child_of made.0, made.1)

-- another way back from the first
pub Makes-backed : (g : ℕ → Option HeapLinks) (old back : Back) (f : Forest) → ((k : ℕ) → count k f ≤ 1) → Makes g old f
    → Makes (backed g (head f) back) back f
Makes-backed g old back nil apart made = tt
Makes-backed g old back (node x kids rest) apart made =
    let here = one_at-same x in
    let once = apart x in
    let none_in : count x kids ≡ 0 = omega arith in
    let none_after : count x rest ≡ 0 = omega arith in (
      linked-same g x _ ∙ ap (λ l. back_to l back) made.0,
      Makes-alike g _ (Parent x) kids (λ k at. linked-other g x _ k (not_there k x kids at none_in)) made.1,
      Makes-alike g _ (Sibling x) rest (λ k at. linked-other g x _ k (not_there k x rest at none_after)) made.2,
    )

-- adopting

pub placed-is : (o : Option HeapLinks) (child next : Option ℕ) (back : Back) → is_some o ≡ true → child_of o ≡ child
    → placed o next back ≡ Some (record { child = child; next = next; back = back })
placed-is None child next back some e = absurd (false≢true some)
placed-is (Some l) child next back some e = λ i. Some (record { child = e i; next = next; back = back })

pub child_to-some : (o : Option HeapLinks) (child : Option ℕ) → is_some (child_to o child) ≡ is_some o
child_to-some None child = refl
child_to-some (Some l) child = refl

pub next_to-some : (o : Option HeapLinks) (next : Option ℕ) → is_some (next_to o next) ≡ is_some o
next_to-some None next = refl
next_to-some (Some l) next = refl

child_to-is : (o : Option HeapLinks) (child : Option ℕ) → is_some o ≡ true → child_of (child_to o child) ≡ child
child_to-is None child some = absurd (false≢true some)
child_to-is (Some l) child some = refl

-- the links while `child` is moved, and then before `parent` is told
abbrev backs : (ℕ → Option HeapLinks) → Forest → ℕ → ℕ → Option HeapLinks
backs g older child = backed g (head older) (Sibling child)

abbrev told : (ℕ → Option HeapLinks) → Forest → ℕ → ℕ → Option HeapLinks
told g older parent child = placed (backs g older child child) (head older) (Parent parent)

abbrev moves : (ℕ → Option HeapLinks) → Forest → ℕ → ℕ → ℕ → Option HeapLinks
moves g older parent child = linked (backs g older child) child (told g older parent child)

abbrev takes : (ℕ → Option HeapLinks) → Forest → ℕ → ℕ → Option HeapLinks
takes g older parent child = child_to (moves g older parent child parent) (Some child)

module _ (g : ℕ → Option HeapLinks) (p c : ℕ) (kp kc : Forest) (apart : (k : ℕ) → count_in k (tree p kp) + count_in k (tree c kc) ≤ 1) where
  p-apart : (one_at p c ≡ 0) × (count p kp ≡ 0) × (count p kc ≡ 0)
  p-apart = let here = one_at-same p in let once = apart p in (omega arith, omega arith, omega arith)

  c-apart : (one_at c p ≡ 0) × (count c kp ≡ 0) × (count c kc ≡ 0)
  c-apart = let here = one_at-same c in let once = apart c in (omega arith, omega arith, omega arith)

  -- at the slots other than the two, only the way back changes
  before-other : (k : ℕ) → one_at k p ≡ 0 → one_at k c ≡ 0 → adopted_before g (head kp) p c k ≡ backs g kp c k
  before-other k not_p not_c =
      linked-other (moves g kp p c) p (takes g kp p c) k (differs k p not_p) ∙ linked-other (backs g kp c) c (told g kp p c) k
      (differs k c not_c)

  before-p : adopted_before g (head kp) p c p ≡ child_to (g p) (Some c)
  before-p =
      linked-same (moves g kp p c) p (takes g kp p c)
      ∙ ap (λ l. child_to l (Some c)) (linked-other (backs g kp c) c (told g kp p c) p (differs p c p-apart.0) ∙ backed-other g kp
      (Sibling c) p p-apart.1)

  before-c : adopted_before g (head kp) p c c ≡ placed (g c) (head kp) (Parent p)
  before-c =
      linked-other (moves g kp p c) p (takes g kp p c) c (differs c p c-apart.0)
      ∙ linked-same (backs g kp c) c (told g kp p c)
      ∙ ap (λ l. placed l (head kp) (Parent p)) (backed-other g kp (Sibling c) c c-apart.1)

  -- the links after an adoption hold the one tree
  Holds-before : Holds g (tree p kp) → Holds g (tree c kc) → Holds (adopted_before g (head kp) p c) (tree p (node c kc kp))
  Holds-before hp hc = (
    ap is_some before-p ∙ child_to-some (g p) (Some c) ∙ hp.0,
    ap child_of before-p ∙ child_to-is (g p) (Some c) hp.0,
    (
      before-c ∙ placed-is (g c) (head kc) (head kp) (Parent p) hc.0 hc.1,
      Makes-alike g _ (Parent c) kc (λ k at. let once = apart k in before-other k (omega arith) (in_kc k at) ∙ backed-other g kp
          (Sibling c) k (omega arith)) hc.2,
      Makes-alike (backs g kp c) _ (Sibling c) kp (λ k at. let once =
          apart k in before-other k (in_kp k at) (omega arith)) (Makes-backed g (Parent p) (Sibling c) kp (λ k. let once =
          apart k in omega arith) hp.2),
    ),
  )
    where
      in_kc : (k : ℕ) → 1 ≤ count k kc → one_at k c ≡ 0
      in_kc k at = one_at-other k c (not_there k c kc at c-apart.2)

      in_kp : (k : ℕ) → 1 ≤ count k kp → one_at k p ≡ 0
      in_kp k at = one_at-other k p (not_there k p kp at p-apart.1)

  before-apart : (k : ℕ) → count_in k (tree p kp) + count_in k (tree c kc) ≡ 0 → adopted_before g (head kp) p c k ≡ g k
  before-apart k none = before-other k (omega arith) (omega arith) ∙ backed-other g kp (Sibling c) k (omega arith)

  pub Holds-adopted : Holds g (tree p kp) → Holds g (tree c kc) → Holds (adopted g p c) (tree p (node c kc kp))
  Holds-adopted hp hc = subst (λ (older : Option ℕ). Holds (adopted_before g older p c) (tree p (node c kc kp))) (sym hp.1)
      (Holds-before hp hc)

  -- and leave every other slot
  pub adopted-apart : Holds g (tree p kp) → (k : ℕ) → count_in k (tree p kp) + count_in k (tree c kc) ≡ 0 → adopted g p c k ≡ g k
  adopted-apart hp k none = subst (λ (older : Option ℕ). adopted_before g older p c k ≡ g k) (sym hp.1) (before-apart k none)

-- the chain's length

pub span-roots : (g : ℕ → Option HeapLinks) (n : ℕ) (f : Forest) → roots f ≤ n → Strings g f → span g n (head f) ≡ roots f
span-roots g zero nil fits made = refl
span-roots g (suc n) nil fits made = refl
span-roots g zero (node x kids rest) fits made = absurd (omega arith)
span-roots g (suc n) (node x kids rest) fits made = ap suc (ap (span g n) made.2 ∙ span-roots g n rest (omega arith) made.4)

tops : Forest → List ℕ
tops nil = []
tops (node x kids rest) = x ∷ tops rest

length-tops : (f : Forest) → length (tops f) ≡ roots f
unfolding tops
length-tops nil = refl
length-tops (node x kids rest) = ap suc (length-tops rest)

count-tops : (k : ℕ) (f : Forest) → list_any (eqb k) (tops f) ≡ true → 1 ≤ count k f
unfolding tops
count-tops k nil at = absurd (false≢true at)
count-tops k (node x kids rest) at = grind (arith, count-tops k rest, at)

tops-all : (z : ℕ) (f : Forest) → count z f ≡ 0 → AllByRecursion (λ y. eqb z y ≡ false) (tops f)
unfolding tops
tops-all z nil none = tt
tops-all z (node x kids rest) none = (ne_eqb z x (differs z x (omega arith)), tops-all z rest (omega arith))

tops-distinct : (f : Forest) → ((k : ℕ) → count k f ≤ 1) → IsDistinct eqb (tops f)
unfolding tops IsDistinct
tops-distinct nil apart = tt
tops-distinct (node x kids rest) apart =
    let here = one_at-same x in
    let once = apart x in
    (tops-all x rest (omega arith), tops-distinct rest (λ k. let at_most_one = apart k in omega arith))

-- a forest whose slots are below n, and none of which stands twice, has at most n trees
pub roots-le : (f : Forest) (n : ℕ) → ((k : ℕ) → count k f ≤ 1) → ((k : ℕ) → 1 ≤ count k f → k < n) → roots f ≤ n
roots-le f n apart below =
    rw (← length-tops f) (length-le_from_distinct_below (tops f) n (tops-distinct f apart) (λ q at. below q (count-tops q f at)))

-- the order

module _ {T : Type 0} (cmp : T → T → Ordering) where
  pub Ordered-under : (values : ℕ → Option T) (above : Option ℕ) (f : Forest) → Ordered cmp values above f → Ordered cmp values None f
  Ordered-under values above nil ordered = tt
  Ordered-under values above (node x kids rest) ordered = (tt, ordered.1, Ordered-under values above rest ordered.2)

  module _ (total : IsTotalOrder cmp) where
    le_chain : (x y z : T) (r s : Ordering) → cmp x y ≡ r → cmp y z ≡ s → is_le r ≡ true → is_le s ≡ true → is_le (cmp x z) ≡ true
    le_chain x y z Less Less p q e f = ap is_le (total.trans x y z p q)
    le_chain x y z Less Equal p q e f =
        let back : cmp z y ≡ Equal = total.antisymm z y ∙ ap ordering_reverse q in
        ap is_le (total.antisymm x z ∙ ap ordering_reverse (total.congr z y x back) ∙ sym (total.antisymm x y)) ∙ ap is_le p
    le_chain x y z Equal s p q e f = ap is_le (total.congr x y z p ∙ q) ∙ f
    le_chain x y z Less Greater p q e f = absurd (false≢true f)
    le_chain x y z Greater s p q e f = absurd (false≢true e)

    at_most-chain : (a b c : Option T) → at_most cmp a b ≡ true → at_most cmp b c ≡ true → at_most cmp a c ≡ true
    at_most-chain None b c e f = absurd (false≢true e)
    at_most-chain (Some x) None c e f = absurd (false≢true e)
    at_most-chain (Some x) (Some y) None e f = absurd (false≢true f)
    at_most-chain (Some x) (Some y) (Some z) e f = le_chain x y z (cmp x y) (cmp y z) refl refl e f

    -- a value above a forest is at most each value in it
    pub at_most-all : (values : ℕ → Option T) (above : ℕ) (f : Forest) → Ordered cmp values (Some above) f → (k : ℕ) → 1 ≤ count k f
        → at_most cmp (values above) (values k) ≡ true
    at_most-all values above nil ordered k at = absurd (omega arith)
    at_most-all values above (node x kids rest) ordered k at =
        elim (cases_eq k x) [
          | inl same ↦ rw same ordered.0
          | inr ne ↦
              let none = one_at-other k x ne in
              among (count k kids) (omega arith) (λ at. at_most-all values x kids ordered.1 k (omega arith))
              (λ at. at_most-all values above rest ordered.2 k at)
        ]
      where
        among : (n : ℕ) → 1 ≤ n + count k rest → (1 ≤ n → at_most cmp (values x) (values k) ≡ true)
            → (1 ≤ count k rest → at_most cmp (values above) (values k) ≡ true) → at_most cmp (values above) (values k) ≡ true
        among zero more within after = after (omega arith)
        among (suc n) more within after = at_most-chain (values above) (values x) (values k) ordered.0 (within (omega arith))

  -- the same values at a forest's slots are in the same order
  pub Ordered-alike : (v w : ℕ → Option T) (above : Option ℕ) (f : Forest) → ((k : ℕ) → above ≡ Some k → w k ≡ v k)
      → ((k : ℕ) → 1 ≤ count k f → w k ≡ v k) → Ordered cmp v above f → Ordered cmp w above f
  Ordered-alike v w above nil over same ordered = tt
  Ordered-alike v w above (node x kids rest) over same ordered = (
    below above over ordered.0,
    Ordered-alike v w (Some x) kids (λ k e. same k (count-first k x kids rest e)) (λ k at. same k (omega arith)) ordered.1,
    Ordered-alike v w above rest over (λ k at. same k (omega arith)) ordered.2,
  )
    where
      below : (above : Option ℕ) → ((k : ℕ) → above ≡ Some k → w k ≡ v k) → Below cmp v above x → Below cmp w above x
      below None over b = tt
      below (Some a) over b = rw (over a refl, same x (count-head x kids rest)) b

  pub OrderedIn-alike : (v w : ℕ → Option T) (t : Tree) → ((k : ℕ) → 1 ≤ count_in k t → w k ≡ v k) → OrderedIn cmp v t → OrderedIn cmp w t
  OrderedIn-alike v w no_tree same ordered = tt
  OrderedIn-alike v w (tree x kids) same ordered =
      Ordered-alike v w (Some x) kids (λ k e. same k (count-only k x kids e)) (λ k at. same k (omega arith)) ordered
