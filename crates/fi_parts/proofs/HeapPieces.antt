-- How the pieces of a heap change while trees are popped, melded and chained.
use Rattle.std.proofs.Common.{IfSome, ◌⊎◌, ◌≡◌, ℕ, suc, ◌+◌, ◌≤◌, ◌<◌, true, false, Option, Some, None, cond, is_some, refl, sym, ap, subst}
use Rattle.std.proofs.Common.{◌∙◌, inl, inr, arith}
use Rattle.std.proofs.lemmas.Bool.{cases_eq, false≢true}
use Rattle.std.proofs.lemmas.Option.{same_Some}
use Rattle.std.specs.declared.cmp.Ordering.{Ordering}
use Rattle.fi_parts.specs.declared.heap_nodes.Back.{Back}
use Rattle.fi_parts.specs.declared.heap_nodes.Back.TheVariants.{Root, Parent}
use Rattle.fi_parts.specs.declared.heap_nodes.HeapLinks.{HeapLinks}
use Rattle.fi_parts.specs.HeapForests.{Forest, nil, node, Tree, no_tree, tree, head, top, count, count_in, roots, child_of, next_of}
use Rattle.fi_parts.specs.HeapForests.{next_to, placed, linked, Makes, Strings, Holds, Roots, span, Ordered, OrderedIn}
use Rattle.fi_parts.specs.HeapPieces.{flag, Pieces, HeapSplit, Meldable, Melds}
use Rattle.fi_parts.proofs.HeapForests.{one_at-same, linked-same, linked-other, not_there, Strings-alike, Roots-alike}
use Rattle.fi_parts.proofs.HeapForests.{Makes-alike, Holds-root, Holds-adopted, adopted-apart, roots-le, span-roots, next_to-some}
use Rattle.fi_parts.proofs.HeapForests.{placed-is, linked-some, not_in}

pub flag-le : (o : Option HeapLinks) → flag o ≤ 1
flag-le None = omega arith
flag-le (Some l) = omega arith

pub flag-some : (o : Option HeapLinks) → is_some o ≡ true → flag o ≡ 1
flag-some o e = ap (λ b. cond b 1 0) e

pub some-flag : (o : Option HeapLinks) → 1 ≤ flag o → is_some o ≡ true
some-flag None at = absurd (omega arith)
some-flag (Some l) at = refl

pub flag-same : (o q : Option HeapLinks) → is_some q ≡ is_some o → flag q ≡ flag o
flag-same o q e = ap (λ b. cond b 1 0) e

module _ {T : Type 0} (cmp : T → T → Ordering) (g : ℕ → Option HeapLinks) (v : ℕ → Option T) where
  -- the trees at the front of a chain

  pub pop : (m : Tree) (a : ℕ) (kids rest us : Forest) → Pieces cmp g v m no_tree (node a kids rest) us
      → Pieces cmp g v m (tree a kids) rest us
  pop m a kids rest us p = record {
    main_made = p.main_made;
    held_made = (p.rest_made.0, p.rest_made.1, p.rest_made.3);
    rest_made = p.rest_made.4;
    pairs_made = p.pairs_made;
    main_ordered = p.main_ordered;
    held_ordered = p.rest_ordered.1;
    rest_ordered = p.rest_ordered.2;
    pairs_ordered = p.pairs_ordered;
    tally = λ k. let was = p.tally k in omega arith;
  }

  pub turn : (m : Tree) (us : Forest) → Pieces cmp g v m no_tree nil us → Pieces cmp g v m no_tree us nil
  turn m us p = record {
    main_made = p.main_made;
    held_made = tt;
    rest_made = p.pairs_made;
    pairs_made = tt;
    main_ordered = p.main_ordered;
    held_ordered = tt;
    rest_ordered = p.pairs_ordered;
    pairs_ordered = tt;
    tally = λ k. let was = p.tally k in omega arith;
  }

next_to-child : (o : Option HeapLinks) (next : Option ℕ) → child_of (next_to o next) ≡ child_of o
next_to-child None next = refl
next_to-child (Some l) next = refl

next_to-next : (o : Option HeapLinks) (next : Option ℕ) → is_some o ≡ true → next_of (next_to o next) ≡ next
next_to-next None next some = absurd (false≢true some)
next_to-next (Some l) next some = refl

module _ {T : Type 0} (cmp : T → T → Ordering) (g : ℕ → Option HeapLinks) (v : ℕ → Option T) where
  -- a held tree goes in front of the second chain
  pub push : (m : Tree) (a : ℕ) (kids rest us : Forest) (d : Option ℕ) → head us ≡ d → Pieces cmp g v m (tree a kids) rest us
      → Pieces cmp (linked g a (next_to (g a) d)) v m no_tree rest (node a kids us)
  push m a kids rest us d is p =
      let h = linked g a (next_to (g a) d) in
      let here = one_at-same a in
      let was = p.tally a in
      let most = flag-le (g a) in
      let off_main : count_in a m ≡ 0 = omega arith in
      let off_kids : count a kids ≡ 0 = omega arith in
      let off_rest : count a rest ≡ 0 = omega arith in
      let off_us : count a us ≡ 0 = omega arith in
      let now = linked-same g a (next_to (g a) d) in record {
        main_made = Roots-alike g h m (λ k at. linked-other g a _ k (not_in k a m at off_main)) p.main_made;
        held_made = tt;
        rest_made = Strings-alike g h rest (λ k at. linked-other g a _ k (not_there k a rest at off_rest)) p.rest_made;
        pairs_made = (
          ap is_some now ∙ next_to-some (g a) d ∙ p.held_made.0,
          ap child_of now ∙ next_to-child (g a) d ∙ p.held_made.1,
          ap next_of now ∙ next_to-next (g a) d p.held_made.0 ∙ sym is,
          Makes-alike g h (Parent a) kids (λ k at. linked-other g a _ k (not_there k a kids at off_kids)) p.held_made.2,
          Strings-alike g h us (λ k at. linked-other g a _ k (not_there k a us at off_us)) p.pairs_made,
        );
        main_ordered = p.main_ordered;
        held_ordered = tt;
        rest_ordered = p.rest_ordered;
        pairs_ordered = (tt, p.held_ordered, p.pairs_ordered);
        tally = λ k. let kept = p.tally k in let same = flag-same (g k) (h k)
            (linked-some g a _ (next_to-some (g a) d) k) in omega arith;
      }

  -- a held tree becomes the heap's
  pub rooted : (a : ℕ) (kids : Forest) → Pieces cmp g v no_tree (tree a kids) nil nil
      → Pieces cmp (linked g a (placed (g a) None Root)) v (tree a kids) no_tree nil nil
  rooted a kids p =
      let h = linked g a (placed (g a) None Root) in
      let here = one_at-same a in
      let was = p.tally a in
      let most = flag-le (g a) in
      let off_kids : count a kids ≡ 0 = omega arith in
      let is = placed-is (g a) (head kids) None Root p.held_made.0 p.held_made.1 in record {
        main_made = (
          linked-same g a _ ∙ is,
          Makes-alike g h (Parent a) kids (λ k at. linked-other g a _ k (not_there k a kids at off_kids)) p.held_made.2,
        );
        held_made = tt;
        rest_made = tt;
        pairs_made = tt;
        main_ordered = p.held_ordered;
        held_ordered = tt;
        rest_ordered = tt;
        pairs_ordered = tt;
        tally = λ k. let kept = p.tally k in let same = flag-same (g k) (h k)
            (linked-some g a _ (ap is_some is ∙ sym p.held_made.0) k) in omega arith;
      }

  -- a slot that isn't linked becomes a tree of its own
  pub added : (m : Tree) (a : ℕ) → is_some (g a) ≡ false → Pieces cmp g v m no_tree nil nil
      → Pieces cmp (linked g a (Some (record { child = None; next = None; back = Root }))) v m (tree a nil) nil nil
  added m a free p =
      let new : Option HeapLinks = Some (record { child = None; next = None; back = Root }) in
      let h = linked g a new in
      let was = p.tally a in
      let none : flag (g a) ≡ 0 = ap (λ b. cond b 1 0) free in
      let off_main : count_in a m ≡ 0 = omega arith in record {
        main_made = Roots-alike g h m (λ k at. linked-other g a new k (not_in k a m at off_main)) p.main_made;
        held_made = (ap is_some (linked-same g a new), ap child_of (linked-same g a new), tt);
        rest_made = tt;
        pairs_made = tt;
        main_ordered = p.main_ordered;
        held_ordered = tt;
        rest_ordered = tt;
        pairs_ordered = tt;
        tally = λ k. grind (arith, cases_eq k a, p.tally k, free);
      }

  module _ (m : Tree) (w l : ℕ) (kw kl rest us : Forest) (tally : (k : ℕ)
      → (count_in k m + (count_in k (tree w kw) + count_in k (tree l kl))) + (count k rest + count k us) ≡ flag (g k)) where
    apart : (k : ℕ) → count_in k (tree w kw) + count_in k (tree l kl) ≤ 1
    apart k = let was = tally k in let most = flag-le (g k) in omega arith

    -- one of two held trees adopts the other
    pub adopt : (h : ℕ → Option HeapLinks) → Melds cmp g h v w l → ((k : ℕ) → is_some (h k) ≡ is_some (g k)) → Roots g m
        → Holds g (tree w kw) → Holds g (tree l kl) → Strings g rest → Strings g us → OrderedIn cmp v m → Ordered cmp v (Some w) kw
        → Ordered cmp v (Some l) kl → Ordered cmp v None rest → Ordered cmp v None us → Pieces cmp h v m (tree w (node l kl kw)) rest us
    adopt h melds flags rm hw hl sr su om ow ol or ou =
        let keeps = λ (k : ℕ) (none : count_in k (tree w kw) + count_in k (tree l kl) ≡ 0). ap (λ f. f k) melds.links ∙ adopted-apart g
        w l kw kl apart hw k none in
        let most = λ (k : ℕ). flag-le (g k) in record {
          main_made = Roots-alike g h m (λ k at. let was = tally k in let most = flag-le (g k) in keeps k (omega arith)) rm;
          held_made = subst (λ f. Holds f (tree w (node l kl kw))) (sym melds.links) (Holds-adopted g w l kw kl apart hw hl);
          rest_made = Strings-alike g h rest (λ k at. let was = tally k in let most = flag-le (g k) in keeps k (omega arith)) sr;
          pairs_made = Strings-alike g h us (λ k at. let was = tally k in let most = flag-le (g k) in keeps k (omega arith)) su;
          main_ordered = om;
          held_ordered = (melds.order, ol, ow);
          rest_ordered = or;
          pairs_ordered = ou;
          tally = λ k. let was = tally k in let same = flag-same (g k) (h k) (flags k) in omega arith;
        }

-- one of the two adopts the other, and is the winner
abbrev pub Into : {T : Type 0} → (T → T → Ordering) → (ℕ → Option HeapLinks) → (ℕ → Option T) → (ℕ → Option HeapLinks) → ℕ → ℕ → ℕ → Type 0
Into cmp g v h left right winner =
    ((winner ≡ left) × Melds cmp g h v left right) ⊎ ((winner ≡ right) × Melds cmp g h v right left)

-- what stands below a slot at a tree's top, if there is one: the tree that it makes
abbrev pub Kids : Option ℕ → Type 0
Kids None = Unit {0}
Kids (Some a) = Forest

abbrev pub tree_at : (a : Option ℕ) → Kids a → Tree
tree_at None none = no_tree
tree_at (Some a) kids = tree a kids

-- the same of a chain, by its first tree's children and the trees after it
abbrev pub Chain : Option ℕ → Type 0
Chain None = Unit {0}
Chain (Some a) = Forest × Forest

abbrev pub chain_at : (a : Option ℕ) → Chain a → Forest
chain_at None none = nil
chain_at (Some a) chain = node a chain.0 chain.1

tree-at : (a : Option ℕ) (t : Tree) → top t ≡ a → (kids : Kids a) × (tree_at a kids ≡ t)
tree-at None no_tree e = (tt, refl)
tree-at (Some a) (tree x kids) e = (kids, ap (λ z. tree z kids) (sym (same_Some _ _ e)))
tree-at None (tree x kids) e = absurd (cc)
tree-at (Some a) no_tree e = absurd (cc)

chain-at : (a : Option ℕ) (f : Forest) → head f ≡ a → (chain : Chain a) × (chain_at a chain ≡ f)
chain-at None nil e = (tt, refl)
chain-at (Some a) (node x kids rest) e = ((kids, rest), ap (λ z. node z kids rest) (sym (same_Some _ _ e)))
chain-at None (node x kids rest) e = absurd (cc)
chain-at (Some a) nil e = absurd (cc)

top-at : (a : Option ℕ) (kids : Kids a) → top (tree_at a kids) ≡ a
top-at None kids = refl
top-at (Some a) kids = refl

head-at : (a : Option ℕ) (chain : Chain a) → head (chain_at a chain) ≡ a
head-at None chain = refl
head-at (Some a) chain = refl

-- the pieces that begin at these slots, with as many trees in the first chain as here
pub record Opened {T : Type 0} (cmp : T → T → Ordering) (g : ℕ → Option HeapLinks) (v : ℕ → Option T) (a b c d : Option ℕ)
    (count : ℕ) : Type 0 where
  pub main : Kids a
  pub held : Kids b
  pub rest : Chain c
  pub pairs : Chain d
  pub pieces : Pieces cmp g v (tree_at a main) (tree_at b held) (chain_at c rest) (chain_at d pairs)
  pub trees : roots (chain_at c rest) ≡ count

module _ {T : Type 0} (cmp : T → T → Ordering) (v : ℕ → Option T) where
  pub opened : {g : ℕ → Option HeapLinks} {a b c d : Option ℕ} (P : HeapSplit cmp g v a b c d) → Opened cmp g v a b c d (roots P.rest)
  opened {g} {a} {b} {c} {d} P =
      let m = tree-at a P.main P.main_top in
      let t = tree-at b P.held P.held_top in
      let ts = chain-at c P.rest P.rest_head in
      let us = chain-at d P.pairs P.pairs_head in record {
        main = m.0;
        held = t.0;
        rest = ts.0;
        pairs = us.0;
        pieces = rw (m.1, t.1, ts.1, us.1) P.pieces;
        trees = ap roots ts.1;
      }

  -- pieces, where the slots at their fronts have other names
  pub parts : {g : ℕ → Option HeapLinks} {m t : Tree} {ts us : Forest} {a b c d : Option ℕ} → top m ≡ a → top t ≡ b → head ts ≡ c →
      head us ≡ d → Pieces cmp g v m t ts us → (P : HeapSplit cmp g v a b c d) × (roots P.rest ≡ roots ts)
  parts {g} {m} {t} {ts} {us} p q r s pieces = (
    record {
      main = m;
      held = t;
      rest = ts;
      pairs = us;
      main_top = p;
      held_top = q;
      rest_head = r;
      pairs_head = s;
      pieces = pieces;
    },
    refl,
  )

  module _ (g : ℕ → Option HeapLinks) where
    pub pop-parts : (a : ℕ) (ma pa : Option ℕ) → (P : HeapSplit cmp g v ma None (Some a) pa)
        → (Q : HeapSplit cmp g v ma (Some a) (next_of (g a)) pa) × (suc (roots Q.rest) ≡ roots P.rest)
    pop-parts a ma pa P =
        let o = opened P in
        let made = parts (top-at ma o.main) refl (sym o.pieces.rest_made.2) (head-at pa o.pairs)
        (pop cmp g v (tree_at ma o.main) a o.rest.0 o.rest.1 (chain_at pa o.pairs) o.pieces) in
        (made.0, ap suc made.1 ∙ o.trees)

    pub turn-parts : (ma pa : Option ℕ) → HeapSplit cmp g v ma None None pa → HeapSplit cmp g v ma None pa None
    turn-parts ma pa P =
        let o = opened P in
        (parts (top-at ma o.main) refl (head-at pa o.pairs) refl (turn cmp g v (tree_at ma o.main) (chain_at pa o.pairs) o.pieces)).0

    pub push-parts : (a : ℕ) (ma ra pa : Option ℕ) → (P : HeapSplit cmp g v ma (Some a) ra pa)
        → (Q : HeapSplit cmp (linked g a (next_to (g a) pa)) v ma None ra (Some a)) × (roots Q.rest ≡ roots P.rest)
    push-parts a ma ra pa P =
        let o = opened P in
        let made = parts (top-at ma o.main) refl (head-at ra o.rest) refl
        (push cmp g v (tree_at ma o.main) a o.held (chain_at ra o.rest) (chain_at pa o.pairs) pa (head-at pa o.pairs) o.pieces) in
        (made.0, made.1 ∙ o.trees)

    -- a slot that isn't linked becomes a tree of its own
    pub add-parts : (a : ℕ) (ma : Option ℕ) → is_some (g a) ≡ false → HeapSplit cmp g v ma None None None
        → HeapSplit cmp (linked g a (Some (record { child = None; next = None; back = Root }))) v ma (Some a) None None
    add-parts a ma free P =
        let o = opened P in (parts (top-at ma o.main) refl refl refl (added cmp g v (tree_at ma o.main) a free o.pieces)).0

    pub root-parts : (a : ℕ) → HeapSplit cmp g v None (Some a) None None
        → HeapSplit cmp (linked g a (placed (g a) None Root)) v (Some a) None None None
    root-parts a P = let o = opened P in (parts refl refl refl refl (rooted cmp g v a o.held o.pieces)).0

    module _ (h : ℕ → Option HeapLinks) (flags : (k : ℕ) → is_some (h k) ≡ is_some (g k)) where
      pub meld-parts : (a b winner : ℕ) (ma pa : Option ℕ) → Into cmp g v h a b winner → (P : HeapSplit cmp g v ma (Some a) (Some b) pa)
          → (Q : HeapSplit cmp h v ma (Some winner) (next_of (g b)) pa) × (suc (roots Q.rest) ≡ roots P.rest)
      meld-parts a b winner ma pa into P =
          let o = opened P in
          let p = o.pieces in
          let m = tree_at ma o.main in
          let us = chain_at pa o.pairs in
          let hb : Holds g (tree b o.rest.0) = (p.rest_made.0, p.rest_made.1, p.rest_made.3) in
          elim into [
            | inl won ↦
                let made = parts (top-at ma o.main) (ap Some (sym won.0)) (sym p.rest_made.2) (head-at pa o.pairs)
                (adopt cmp g v m a b o.held o.rest.0 o.rest.1 us (λ k. let was = p.tally k in omega arith) h won.1 flags p.main_made
                p.held_made hb p.rest_made.4 p.pairs_made p.main_ordered p.held_ordered p.rest_ordered.1 p.rest_ordered.2
                p.pairs_ordered) in
                (made.0, ap suc made.1 ∙ o.trees)
            | inr won ↦
                let made = parts (top-at ma o.main) (ap Some (sym won.0)) (sym p.rest_made.2) (head-at pa o.pairs)
                (adopt cmp g v m b a o.rest.0 o.held o.rest.1 us (λ k. let was = p.tally k in omega arith) h won.1 flags p.main_made hb
                p.held_made p.rest_made.4 p.pairs_made p.main_ordered p.rest_ordered.1 p.held_ordered p.rest_ordered.2
                p.pairs_ordered) in
                (made.0, ap suc made.1 ∙ o.trees)
          ]

      pub meld-root : (a b winner : ℕ) → Into cmp g v h a b winner → HeapSplit cmp g v (Some a) (Some b) None None
          → HeapSplit cmp h v None (Some winner) None None
      meld-root a b winner into P =
          let o = opened P in
          let p = o.pieces in
          let ha = Holds-root g (tree a o.main) p.main_made in
          elim into [
            | inl won ↦ (parts refl (ap Some (sym won.0)) refl refl
                (adopt cmp g v no_tree a b o.main o.held nil nil (λ k. let was = p.tally k in omega arith) h won.1 flags tt ha p.held_made
                tt tt tt p.main_ordered p.held_ordered tt tt)).0
            | inr won ↦ (parts refl (ap Some (sym won.0)) refl refl
                (adopt cmp g v no_tree b a o.held o.main nil nil (λ k. let was = p.tally k in omega arith) h won.1 flags tt p.held_made ha
                tt tt tt p.held_ordered p.main_ordered tt tt)).0
          ]

    -- what a call asks of the pieces

    pub meldable-rest : (a b : ℕ) (ma pa : Option ℕ) → HeapSplit cmp g v ma (Some a) (Some b) pa → Meldable g a b
    meldable-rest a b ma pa P = let o = opened P in record {
      first = o.held;
      second = o.rest.0;
      first_held = o.pieces.held_made;
      second_held = (o.pieces.rest_made.0, o.pieces.rest_made.1, o.pieces.rest_made.3);
      apart = λ k. let was = o.pieces.tally k in let most = flag-le (g k) in omega arith;
    }

    pub meldable-root : (a b : ℕ) → HeapSplit cmp g v (Some a) (Some b) None None → Meldable g a b
    meldable-root a b P = let o = opened P in record {
      first = o.main;
      second = o.held;
      first_held = Holds-root g (tree a o.main) o.pieces.main_made;
      second_held = o.pieces.held_made;
      apart = λ k. let was = o.pieces.tally k in let most = flag-le (g k) in omega arith;
    }

    pub rest-linked : (a : ℕ) (ma ha pa : Option ℕ) → HeapSplit cmp g v ma ha (Some a) pa → is_some (g a) ≡ true
    rest-linked a ma ha pa P = (opened P).pieces.rest_made.0

    -- the chain from here on, where each linked slot is below n
    pub span-rest : (n : ℕ) (ma ha ra pa : Option ℕ) → ((k : ℕ) → is_some (g k) ≡ true → k < n) → (P : HeapSplit cmp g v ma ha ra pa)
        → span g n ra ≡ roots P.rest
    span-rest n ma ha ra pa below P =
        let fits : roots P.rest ≤ n =
        roots-le P.rest n (λ k. let was = P.pieces.tally k in let most =
        flag-le (g k) in omega arith) (λ k at. below k (some-flag (g k) (let was = P.pieces.tally k in omega arith))) in
        ap (span g n) (sym P.rest_head) ∙ span-roots g n P.rest fits P.pieces.rest_made

-- what a meld asks of the links

module _ (g : ℕ → Option HeapLinks) where
  made-head : (back : Back) (f : Forest) → Makes g back f → IfSome (head f) (λ x. is_some (g x) ≡ true)
  made-head back nil made = tt
  made-head back (node x kids rest) made = ap is_some made.0

  pub older-linked : (a : ℕ) (kids : Forest) → Holds g (tree a kids) → IfSome (child_of (g a)) (λ x. is_some (g x) ≡ true)
  older-linked a kids made = subst (λ (o : Option ℕ). IfSome o (λ x. is_some (g x) ≡ true)) (sym made.1) (made-head (Parent a) kids made.2)
