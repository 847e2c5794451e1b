-- A node in a tree, and the tree without it.
use Rattle.std.proofs.Common.{◌≡◌, ◌≢◌, ℕ, zero, suc, ◌+◌, ◌≤◌, true, false, Option, Some, None, is_some, IfSome, refl, sym, ap, subst, ◌∙◌}
use Rattle.std.proofs.Common.{inl, inr, arith}
use Rattle.std.proofs.lemmas.Bool.{cases_eq, true≢false}
use Rattle.std.proofs.lemmas.Option.{same_Some}
use Rattle.std.specs.declared.cmp.Ordering.{Ordering}
use Rattle.fi_parts.specs.declared.heap_nodes.Back.{Back}
use Rattle.fi_parts.specs.declared.heap_nodes.Back.TheVariants.{Root, Parent, Sibling}
use Rattle.fi_parts.specs.declared.heap_nodes.HeapLinks.{HeapLinks}
use Rattle.fi_parts.specs.HeapForests.{Forest, nil, node, Tree, no_tree, tree, head, top, one_at, count, count_in, child_to, next_to}
use Rattle.fi_parts.specs.HeapForests.{linked, backed, pointed, root_to, IsBackLinked, Makes, Strings, Roots, Below, Ordered, OrderedIn}
use Rattle.fi_parts.specs.HeapPieces.{flag, Pieces, HeapSplit}
use Rattle.fi_parts.proofs.HeapForests.{differs, one_at-same, one_at-other, not_there, linked-same, linked-other, backed-other, Makes-alike}
use Rattle.fi_parts.proofs.HeapForests.{Makes-backed, Strings-made, Ordered-under}
use Rattle.fi_parts.proofs.HeapPieces.{flag-le, flag-some, opened, parts}

-- the way from the root to a list of trees: the nodes passed, with what stands on their other sides
data Path : Type 0 where
  from_root : ℕ → Path
  into : ℕ → Forest → Path → Path
  past : ℕ → Forest → Path → Path

-- the tree with this list at the end of the way
abbrev plug : Path → Forest → Tree
plug (from_root r) f = tree r f
plug (into y rest path) f = plug path (node y f rest)
plug (past y kids path) f = plug path (node y kids f)

abbrev back_from : Path → Back
back_from (from_root r) = Parent r
back_from (into y rest path) = Parent y
back_from (past y kids path) = Sibling y

abbrev along : ℕ → Path → ℕ
along k (from_root r) = one_at k r
along k (into y rest path) = one_at k y + (count k rest + along k path)
along k (past y kids path) = one_at k y + (count k kids + along k path)

-- the links make the way, which ends in a link to this slot
abbrev Leads : (ℕ → Option HeapLinks) → Path → Option ℕ → Type 0
Leads g (from_root r) to = g r ≡ Some (record { child = to; next = None; back = Root })
Leads g (into y rest path) to = (g y ≡ Some (record { child = to; next = head rest; back = back_from path })) × Makes g (Sibling y) rest
    × Leads g path (Some y)
Leads g (past y kids path) to = (g y ≡ Some (record { child = head kids; next = to; back = back_from path })) × Makes g (Parent y) kids
    × Leads g path (Some y)

count-plug : (k : ℕ) (path : Path) (f : Forest) → count_in k (plug path f) ≡ along k path + count k f
count-plug k (from_root r) f = refl
count-plug k (into y rest path) f = let inner = count-plug k path (node y f rest) in omega arith
count-plug k (past y kids path) f = let inner = count-plug k path (node y kids f) in omega arith

top-plug : (path : Path) (f h : Forest) → top (plug path f) ≡ top (plug path h)
top-plug (from_root r) f h = refl
top-plug (into y rest path) f h = top-plug path (node y f rest) (node y h rest)
top-plug (past y kids path) f h = top-plug path (node y kids f) (node y kids h)

split : (g : ℕ → Option HeapLinks) (path : Path) (f : Forest) → Roots g (plug path f) → Leads g path (head f) × Makes g (back_from path) f
split g (from_root r) f made = (made.0, made.1)
split g (into y rest path) f made = let outer = split g path (node y f rest) made in ((outer.1.0, outer.1.2, outer.0), outer.1.1)
split g (past y kids path) f made = let outer = split g path (node y kids f) made in ((outer.1.0, outer.1.1, outer.0), outer.1.2)

join : (g : ℕ → Option HeapLinks) (path : Path) (f : Forest) → Leads g path (head f) → Makes g (back_from path) f → Roots g (plug path f)
join g (from_root r) f leads made = (leads, made)
join g (into y rest path) f leads made = join g path (node y f rest) leads.2 (leads.0, made, leads.1)
join g (past y kids path) f leads made = join g path (node y kids f) leads.2 (leads.0, leads.1, made)

Leads-alike : (g h : ℕ → Option HeapLinks) (path : Path) (to : Option ℕ) → ((k : ℕ) → 1 ≤ along k path → h k ≡ g k) → Leads g path to
    → Leads h path to
Leads-alike g h (from_root r) to same leads = same r (let here = one_at-same r in omega arith) ∙ leads
Leads-alike g h (into y rest path) to same leads = (
  same y (let here = one_at-same y in omega arith) ∙ leads.0,
  Makes-alike g h (Sibling y) rest (λ k at. same k (omega arith)) leads.1,
  Leads-alike g h path (Some y) (λ k at. same k (omega arith)) leads.2,
)
Leads-alike g h (past y kids path) to same leads = (
  same y (let here = one_at-same y in omega arith) ∙ leads.0,
  Makes-alike g h (Parent y) kids (λ k at. same k (omega arith)) leads.1,
  Leads-alike g h path (Some y) (λ k at. same k (omega arith)) leads.2,
)

not_along : (k x : ℕ) (path : Path) → 1 ≤ along k path → along x path ≡ 0 → k ≢ x
not_along k x path at none same =
    let alike : along k path ≡ along x path = ap (λ y. along y path) same in
    omega arith

pointed-other : (g : ℕ → Option HeapLinks) (path : Path) (to : Option ℕ) (k : ℕ) → along k path ≡ 0 → pointed g (back_from path) to k ≡ g k
pointed-other g (from_root r) to k none = linked-other g r _ k (differs k r none)
pointed-other g (into y rest path) to k none = linked-other g y _ k (differs k y (omega arith))
pointed-other g (past y kids path) to k none = linked-other g y _ k (differs k y (omega arith))

Leads-pointed : (g : ℕ → Option HeapLinks) (path : Path) (old to : Option ℕ) → ((k : ℕ) → along k path ≤ 1) → Leads g path old
    → Leads (pointed g (back_from path) to) path to
Leads-pointed g (from_root r) old to apart leads = linked-same g r _ ∙ ap (λ l. child_to l to) leads
Leads-pointed g (into y rest path) old to apart leads =
    let here = one_at-same y in
    let once = apart y in
    let off_rest : count y rest ≡ 0 = omega arith in
    let off_path : along y path ≡ 0 = omega arith in (
      linked-same g y _ ∙ ap (λ l. child_to l to) leads.0,
      Makes-alike g _ (Sibling y) rest (λ k at. linked-other g y _ k (not_there k y rest at off_rest)) leads.1,
      Leads-alike g _ path (Some y) (λ k at. linked-other g y _ k (not_along k y path at off_path)) leads.2,
    )
Leads-pointed g (past y kids path) old to apart leads =
    let here = one_at-same y in
    let once = apart y in
    let off_kids : count y kids ≡ 0 = omega arith in
    let off_path : along y path ≡ 0 = omega arith in (
      linked-same g y _ ∙ ap (λ l. next_to l to) leads.0,
      Makes-alike g _ (Parent y) kids (λ k at. linked-other g y _ k (not_there k y kids at off_kids)) leads.1,
      Leads-alike g _ path (Some y) (λ k at. linked-other g y _ k (not_along k y path at off_path)) leads.2,
    )

back-linked : (g : ℕ → Option HeapLinks) (path : Path) (to : Option ℕ) → Leads g path to → IsBackLinked g (back_from path)
back-linked g (from_root r) to leads = ap is_some leads
back-linked g (into y rest path) to leads = ap is_some leads.0
back-linked g (past y kids path) to leads = ap is_some leads.0

root_to-same : (old to : Option ℕ) (path : Path) → root_to old (back_from path) to ≡ old
root_to-same old to (from_root r) = refl
root_to-same old to (into y rest path) = refl
root_to-same old to (past y kids path) = refl

-- the place of a slot below the root

record Found (x : ℕ) (t : Tree) : Type 0 where
  path : Path
  kids : Forest
  rest : Forest
  is : t ≡ plug path (node x kids rest)

in_either : {A : Type 0} (n m : ℕ) → 1 ≤ n + m → (1 ≤ n → A) → (1 ≤ m → A) → A
in_either zero m more first second = second (omega arith)
in_either (suc n) m more first second = first (omega arith)

find : (x : ℕ) (f : Forest) (path : Path) → 1 ≤ count x f → Found x (plug path f)
find x nil path at = absurd (omega arith)
find x (node y ky ry) path at =
    elim (cases_eq x y) [
      | inl same ↦ record { path = path; kids = ky; rest = ry; is = ap (λ z. plug path (node z ky ry)) (sym same) }
      | inr ne ↦
          let none = one_at-other x y ne in
          in_either (count x ky) (count x ry) (omega arith) (λ at. find x ky (into y ry path) at) (λ at. find x ry (past y ky path) at)
    ]

-- the order along the way

module _ {T : Type 0} (cmp : T → T → Ordering) (v : ℕ → Option T) where
  abbrev above : Path → ℕ
  above (from_root r) = r
  above (into y rest path) = y
  above (past y kids path) = above path

  abbrev OrderedAlong : Path → Type 0
  OrderedAlong (from_root r) = Unit {0}
  OrderedAlong (into y rest path) = Below cmp v (Some (above path)) y × Ordered cmp v (Some (above path)) rest × OrderedAlong path
  OrderedAlong (past y kids path) = Below cmp v (Some (above path)) y × Ordered cmp v (Some y) kids × OrderedAlong path

  split-order : (path : Path) (f : Forest) → OrderedIn cmp v (plug path f) → OrderedAlong path × Ordered cmp v (Some (above path)) f
  split-order (from_root r) f ordered = (tt, ordered)
  split-order (into y rest path) f ordered = let outer =
      split-order path (node y f rest) ordered in ((outer.1.0, outer.1.2, outer.0), outer.1.1)
  split-order (past y kids path) f ordered = let outer =
      split-order path (node y kids f) ordered in ((outer.1.0, outer.1.1, outer.0), outer.1.2)

  join-order : (path : Path) (f : Forest) → OrderedAlong path → Ordered cmp v (Some (above path)) f → OrderedIn cmp v (plug path f)
  join-order (from_root r) f way ordered = ordered
  join-order (into y rest path) f way ordered = join-order path (node y f rest) way.2 (way.0, ordered, way.1)
  join-order (past y kids path) f way ordered = join-order path (node y kids f) way.2 (way.0, way.1, ordered)

flag-none : (o : Option HeapLinks) → is_some o ≡ false → flag o ≡ 0
flag-none None e = refl
flag-none (Some l) e = absurd (true≢false e)

-- the links once the node is cut out
abbrev pub without : (ℕ → Option HeapLinks) → ℕ → HeapLinks → ℕ → Option HeapLinks
without g x l = pointed (linked g x None) l.back l.next

-- what the cut of a node asks, and what pieces it leaves
pub record Cut {T : Type 0} (cmp : T → T → Ordering) (g : ℕ → Option HeapLinks) (v : ℕ → Option T) (root : Option ℕ) (x : ℕ)
    (l : HeapLinks) : Type 0 where
  pub back_linked : IsBackLinked (linked g x None) l.back
  pub next_linked : IfSome l.next (λ k. is_some (without g x l k) ≡ true)
  pub parts : (h : ℕ → Option HeapLinks) → h ≡ backed (without g x l) l.next l.back → is_some (h x) ≡ false
      → ((k : ℕ) → k ≢ x → is_some (h k) ≡ is_some (g k)) → HeapSplit cmp h v (root_to root l.back l.next) None l.child None

module _ {T : Type 0} (cmp : T → T → Ordering) (g : ℕ → Option HeapLinks) (v : ℕ → Option T) where
  tally-cut : (h : ℕ → Option HeapLinks) (x n : ℕ) (k : ℕ) → is_some (h x) ≡ false → ((k : ℕ) → k ≢ x → is_some (h k) ≡ is_some (g k))
      → one_at k x + n ≡ flag (g k) → n ≡ flag (h k)
  tally-cut h x n k here others was = grind (arith, cases_eq k x, here, others k, was, flag-le (g k))

  cut-root : (x : ℕ) (kids : Forest) → Pieces cmp g v (tree x kids) no_tree nil nil
      → Cut cmp g v (Some x) x (record { child = head kids; next = None; back = Root })
  cut-root x kids p =
      let here = one_at-same x in
      let was = p.tally x in
      let most = flag-le (g x) in
      let off_kids : count x kids ≡ 0 = omega arith in record {
        back_linked = tt;
        next_linked = tt;
        parts = λ h is gone others. (parts cmp v {g = h} {m = no_tree} {t = no_tree} {ts = kids} {us = nil} refl refl refl refl (record {
          main_made = tt;
          held_made = tt;
          rest_made = Strings-made h (Parent x) kids (Makes-alike g h (Parent x) kids
              (λ k at. ap (λ f. f k) is ∙ linked-other g x None k (not_there k x kids at off_kids)) p.main_made.1);
          pairs_made = tt;
          main_ordered = tt;
          held_ordered = tt;
          rest_ordered = Ordered-under cmp v (Some x) kids p.main_ordered;
          pairs_ordered = tt;
          tally = λ k. let before = p.tally k in let now = tally-cut h x (count k kids) k gone others (omega arith) in omega arith;
        })).0;
      }

  module _ (path : Path) (x : ℕ) (kids rest : Forest) (p : Pieces cmp g v (plug path (node x kids rest)) no_tree nil nil) where
    -- each slot stands once
    once : (k : ℕ) → along k path + (one_at k x + (count k kids + count k rest)) ≤ 1
    once k =
        let was = p.tally k in
        let sum = count-plug k path (node x kids rest) in
        let most = flag-le (g k) in
        omega arith

    x-off : (along x path ≡ 0) × (count x kids ≡ 0) × (count x rest ≡ 0)
    x-off = let here = one_at-same x in let one = once x in (omega arith, omega arith, omega arith)

    made : Leads g path (Some x) × Makes g (back_from path) (node x kids rest)
    made = split g path (node x kids rest) p.main_made

    leads-1 : Leads (linked g x None) path (Some x)
    leads-1 = Leads-alike g (linked g x None) path (Some x) (λ k at. linked-other g x None k (not_along k x path at x-off.0)) made.0

    cut-links : g x ≡ Some (record { child = head kids; next = head rest; back = back_from path })
    cut-links = made.1.0

    abbrev then : ℕ → Option HeapLinks
    then = pointed (linked g x None) (back_from path) (head rest)

    then-same : (k : ℕ) → along k path ≡ 0 → k ≢ x → then k ≡ g k
    then-same k off ne = pointed-other (linked g x None) path (head rest) k off ∙ linked-other g x None k ne

    abbrev at_last : ℕ → Option HeapLinks
    at_last = backed then (head rest) (back_from path)

    rest-then : Makes then (Sibling x) rest
    rest-then = Makes-alike g then (Sibling x) rest (λ k at. let one =
        once k in then-same k (omega arith) (not_there k x rest at x-off.2)) made.1.2

    rest-last : Makes at_last (back_from path) rest
    rest-last = Makes-backed then (Sibling x) (back_from path) rest (λ k. let one = once k in omega arith) rest-then

    leads-last : Leads at_last path (head rest)
    leads-last =
        Leads-alike then at_last path (head rest) (λ k at. let one = once k in backed-other then rest (back_from path) k (omega arith))
        (Leads-pointed (linked g x None) path (Some x) (head rest) (λ k. let one = once k in omega arith) leads-1)

    kids-last : Makes at_last (Parent x) kids
    kids-last =
        Makes-alike g at_last (Parent x) kids
        (λ k at. let one = once k in backed-other then rest (back_from path) k (omega arith) ∙ then-same k (omega arith)
        (not_there k x kids at x-off.1)) made.1.1

    head-linked : (f : Forest) (back : Back) → Makes then back f → IfSome (head f) (λ k. is_some (then k) ≡ true)
    head-linked nil back m = tt
    head-linked (node y ky ry) back m = ap is_some m.0

    order : OrderedAlong cmp v path × Ordered cmp v (Some (above cmp v path)) (node x kids rest)
    order = split-order cmp v path (node x kids rest) p.main_ordered

    cut-path : Cut cmp g v (top (plug path (node x kids rest))) x (record { child = head kids; next = head rest; back = back_from path })
    cut-path = record {
      back_linked = back-linked (linked g x None) path (Some x) leads-1;
      next_linked = head-linked rest (Sibling x) rest-then;
      parts = λ h is gone others. (parts cmp v {g = h} {m = plug path rest} {t = no_tree} {ts = kids} {us = nil}
          (top-plug path rest (node x kids rest) ∙ sym (root_to-same (top (plug path (node x kids rest))) (head rest) path)) refl refl refl
          (record {
            main_made = subst (λ f. Roots f (plug path rest)) (sym is) (join at_last path rest leads-last rest-last);
            held_made = tt;
            rest_made = subst (λ f. Strings f kids) (sym is) (Strings-made at_last (Parent x) kids kids-last);
            pairs_made = tt;
            main_ordered = join-order cmp v path rest order.0 order.1.2;
            held_ordered = tt;
            rest_ordered = Ordered-under cmp v (Some x) kids order.1.1;
            pairs_ordered = tt;
            tally = λ k.
                let before = p.tally k in
                let sum = count-plug k path (node x kids rest) in
                let left = count-plug k path rest in
                let now = tally-cut h x (along k path + (count k kids + count k rest)) k gone others (omega arith) in
                omega arith;
          })).0;
    }

  cut-tree : (x r : ℕ) (kids : Forest) (l : HeapLinks) → g x ≡ Some l → Pieces cmp g v (tree r kids) no_tree nil nil
      → Cut cmp g v (Some r) x l
  cut-tree x r kids l is p =
      elim (cases_eq x r) [
        | inl same ↦
            let q = subst (λ (z : ℕ). Pieces cmp g v (tree z kids) no_tree nil nil) (sym same) p in
            subst (λ (z : ℕ). Cut cmp g v (Some z) x l) same (subst (λ (m : HeapLinks). Cut cmp g v (Some x) x m)
            (same_Some _ _ (sym q.main_made.0 ∙ is)) (cut-root x kids q))
        | inr ne ↦
            let was = p.tally x in
            let one : flag (g x) ≡ 1 = flag-some (g x) (ap is_some is) in
            let none = one_at-other x r ne in
            let found = find x kids (from_root r) (omega arith) in
            let q = subst (λ (t : Tree). Pieces cmp g v t no_tree nil nil) found.is p in
            subst (λ (t : Tree). Cut cmp g v (top t) x l) (sym found.is)
            (subst (λ (m : HeapLinks). Cut cmp g v (top (plug found.path (node x found.kids found.rest))) x m)
            (same_Some _ _ (sym (cut-links found.path x found.kids found.rest q) ∙ is)) (cut-path found.path x found.kids found.rest q))
      ]

  pub cut : (root : Option ℕ) (x : ℕ) (l : HeapLinks) → g x ≡ Some l → HeapSplit cmp g v root None None None → Cut cmp g v root x l
  cut None x l is P =
      let one : flag (g x) ≡ 1 = flag-some (g x) (ap is_some is) in
      let was = (opened cmp v P).pieces.tally x in
      absurd (omega arith)
  cut (Some r) x l is P = let o = opened cmp v P in cut-tree x r o.main l is o.pieces
