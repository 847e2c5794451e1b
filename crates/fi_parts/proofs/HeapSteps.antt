-- How the calls on a heap's store change the pieces that it is in.
use Rattle.std.proofs.Common.{◌≡◌, ℕ, suc, ◌≤◌, true, false, length, Option, Some, None, is_some, IfSome, refl, sym, ap, subst, ◌∙◌, inl}
use Rattle.std.proofs.Common.{inr, arith}
use Rattle.std.specs.declared.cmp.Ordering.{Ordering}
use Rattle.fi_parts.specs.declared.heap_nodes.Back.TheVariants.{Root}
use Rattle.fi_parts.specs.declared.heap_nodes.HeapLinks.{HeapLinks}
use Rattle.fi_parts.specs.declared.heap_nodes.HeapNodes.{HeapNodes}
use Rattle.fi_parts.specs.HeapForests.{roots, span, next_of, next_to, placed, backed, pointed, root_to, IsBackLinked}
use Rattle.fi_parts.specs.HeapPieces.{HeapSplit}
use Rattle.fi_parts.specs.HeapNodes.{values_of, links_of, IsLinked, Relinks, Keeps, KeepsValues, InParts, IsHeap, MeldsInto, TakesOut}
use Rattle.fi_parts.proofs.HeapPieces.{pop-parts, push-parts, rest-linked, meld-parts, meld-root, root-parts, span-rest, add-parts}
use Rattle.fi_parts.proofs.HeapCuts.{cut, without}
use Rattle.fi_parts.proofs.HeapForests.{next_to-some}
use Rattle.fi_parts.proofs.HeapNodes.{is_within, Keeps-relinks, placed-some, Keeps-then, TakesOut-then, TakesOut-unlinked, KeepsValues-then}
use Rattle.fi_parts.proofs.HeapNodes.{KeepsValues-relinks, values-kept}

module _ {T : Type 0} (cmp : T → T → Ordering) where
  -- the measure of a loop over a chain falls with the number of its trees
  pub fewer : (s t : HeapNodes T) (ma ha ra pa mb hb rb pb : Option ℕ) (rx : Option ℕ) → rx ≡ ra
      → (P : InParts cmp s ma ha ra pa) (Q : InParts cmp t mb hb rb pb) → suc (roots Q.rest) ≤ roots P.rest
      → suc (span (links_of t) (length t.store.slots) rb) ≤ span (links_of s) (length s.store.slots) rx
  fewer s t ma ha ra pa mb hb rb pb rx is P Q less =
      let at = ap (span (links_of s) (length s.store.slots)) is in
      let before = span-rest cmp (values_of s) (links_of s) (length s.store.slots) ma ha ra pa (is_within s) P in
      let after = span-rest cmp (values_of t) (links_of t) (length t.store.slots) mb hb rb pb (is_within t) Q in
      omega (arith, at, before, after, less)

  -- at another root
  pub at-root : (s : HeapNodes T) (r ha ra pa : Option ℕ) → s.root ≡ r → InParts cmp s r ha ra pa → InParts cmp s s.root ha ra pa
  at-root s r ha ra pa e P = subst (λ (m : Option ℕ). InParts cmp s m ha ra pa) (sym e) P

  pub pop-next : (s : HeapNodes T) (a : ℕ) (ma pa next : Option ℕ) → next ≡ next_of (links_of s a)
      → (P : InParts cmp s ma None (Some a) pa) → (Q : InParts cmp s ma (Some a) next pa) × (suc (roots Q.rest) ≡ roots P.rest)
  pop-next s a ma pa next is P =
      subst (λ (n : Option ℕ). (Q : InParts cmp s ma (Some a) n pa) × (suc (roots Q.rest) ≡ roots P.rest)) (sym is)
      (pop-parts cmp (values_of s) (links_of s) a ma pa P)

  pub meld-next : (s t : HeapNodes T) (a b winner : ℕ) (ma pa next : Option ℕ) → next ≡ next_of (links_of s b)
      → MeldsInto cmp s t a b winner → Keeps s t → (P : InParts cmp s ma (Some a) (Some b) pa)
      → (Q : InParts cmp t ma (Some winner) next pa) × (suc (roots Q.rest) ≡ roots P.rest)
  meld-next s t a b winner ma pa next is melds keeps P =
      rw (keeps.values, is) (meld-parts cmp (values_of s) (links_of s) (links_of t) keeps.linked a b winner ma pa melds P)

  pub push-next : (s t : HeapNodes T) (a : ℕ) (ma ra pa : Option ℕ) → Relinks s t a (next_to (links_of s a) pa)
      → (P : InParts cmp s ma (Some a) ra pa) → (Q : InParts cmp t ma None ra (Some a)) × (roots Q.rest ≡ roots P.rest)
  push-next s t a ma ra pa relinks P =
      rw (relinks.values, relinks.links) (push-parts cmp (values_of s) (links_of s) a ma ra pa P)

  -- one turn of the pairing: what it leaves, and that fewer trees are left
  pub record Turned (s u : HeapNodes T) (ma before rest pairs : Option ℕ) (P : InParts cmp s ma None before pairs) (pair : ℕ) : Type 0 where
    pub parts : InParts cmp u ma None rest (Some pair)
    pub less : suc (roots parts.rest) ≤ roots P.rest
    pub kept : Keeps s u

  relinks-at : (t0 t u : HeapNodes T) (pair0 pair : ℕ) (pa : Option ℕ) → t0 ≡ t → pair0 ≡ pair
      → Relinks t0 u pair0 (next_to (links_of t0 pair0) pa) → Relinks t u pair (next_to (links_of t pair) pa)
  relinks-at t0 t u pair0 pair pa e f relinks =
      subst (λ (p : ℕ). Relinks t u p (next_to (links_of t p) pa)) f
      (subst (λ (x : HeapNodes T). Relinks x u pair0 (next_to (links_of x pair0) pa)) e relinks)

  pub pair-two : (s t t0 u : HeapNodes T) (left right pair pair0 : ℕ) (ma rest pa : Option ℕ) → Some right ≡ next_of (links_of s left)
      → rest ≡ next_of (links_of s right) → t0 ≡ t → pair0 ≡ pair → MeldsInto cmp s t left right pair → Keeps s t
      → Relinks t0 u pair0 (next_to (links_of t0 pair0) pa) → (P : InParts cmp s ma None (Some left) pa)
      → Turned s u ma (Some left) rest pa P pair0
  pair-two s t t0 u left right pair pair0 ma rest pa next after same_store same_pair melds keeps written P =
      let relinks = relinks-at t0 t u pair0 pair pa same_store same_pair written in
      let second = pop-next s left ma pa (Some right) next P in
      let third = meld-next s t left right pair ma pa rest after melds keeps second.0 in
      let pushed = push-next t u pair ma rest pa relinks third.0 in
      subst (λ (p : ℕ). Turned s u ma (Some left) rest pa P p) (sym same_pair) (record {
        parts = pushed.0;
        less = omega (arith, pushed.1, third.1, second.1);
        kept = Keeps-then s t u keeps (Keeps-relinks t u pair _ relinks (next_to-some (links_of t pair) pa));
      })

  pub pair-one : (s t0 u : HeapNodes T) (left pair0 : ℕ) (ma rest pa : Option ℕ) → rest ≡ next_of (links_of s left) → t0 ≡ s
      → pair0 ≡ left → Relinks t0 u pair0 (next_to (links_of t0 pair0) pa) → (P : InParts cmp s ma None (Some left) pa)
      → Turned s u ma (Some left) rest pa P pair0
  pair-one s t0 u left pair0 ma rest pa after same_store same_pair written P =
      let relinks = relinks-at t0 s u pair0 left pa same_store same_pair written in
      let second = pop-next s left ma pa rest after P in
      let pushed = push-next s u left ma rest pa relinks second.0 in
      subst (λ (p : ℕ). Turned s u ma (Some left) rest pa P p) (sym same_pair) (record {
        parts = pushed.0;
        less = omega (arith, pushed.1, second.1);
        kept = Keeps-relinks s u left _ relinks (next_to-some (links_of s left) pa);
      })

  -- the top of what one turn leaves is linked

  pub two-linked : (s t t0 : HeapNodes T) (left right pair pair0 : ℕ) (ma pa next : Option ℕ) → Some right ≡ next
      → next ≡ next_of (links_of s left) → t0 ≡ t → pair0 ≡ pair → MeldsInto cmp s t left right pair → Keeps s t
      → InParts cmp s ma None (Some left) pa → IsLinked t0 pair0
  two-linked s t t0 left right pair pair0 ma pa next some is same_store same_pair melds keeps P =
      let first = rest-linked cmp (values_of s) (links_of s) left ma None pa P in
      let popped = pop-next s left ma pa (Some right) (some ∙ is) P in
      let second = rest-linked cmp (values_of s) (links_of s) right ma (Some left) pa popped.0 in
      rw (same_store, same_pair) (keeps.linked pair ∙ elim melds [ inl m ↦ rw m.0 first | inr m ↦ rw m.0 second ])

  pub one-linked : (s t0 : HeapNodes T) (left pair0 : ℕ) (ma pa : Option ℕ) → t0 ≡ s → pair0 ≡ left → InParts cmp s ma None (Some left) pa
      → IsLinked t0 pair0
  one-linked s t0 left pair0 ma pa same_store same_pair P =
      rw (same_store, same_pair) (rest-linked cmp (values_of s) (links_of s) left ma None pa P)

  -- a node is cut out of the heap's tree

  pub cut-step : (s s1 s2 s3 : HeapNodes T) (x : ℕ) (l : HeapLinks) → links_of s x ≡ Some l → IsHeap cmp s → Relinks s s1 x None
      → links_of s2 ≡ pointed (links_of s1) l.back l.next → s2.root ≡ root_to s1.root l.back l.next → KeepsValues s1 s2 → links_of s3
      ≡ backed (links_of s2) l.next l.back → Keeps s2 s3 → InParts cmp s3 s3.root None l.child None × TakesOut s s3 x
  cut-step s s1 s2 s3 x l is heap cleared pointed_is root_is kept_1 backed_is kept_2 =
      let links : links_of s3 ≡ backed (without (links_of s) x l) l.next l.back =
      backed_is ∙ ap (λ (f : ℕ → Option HeapLinks). backed f l.next l.back)
      (pointed_is ∙ ap (λ (f : ℕ → Option HeapLinks). pointed f l.back l.next) cleared.links) in
      let out = TakesOut-then s s1 s3 x (TakesOut-unlinked s s1 x cleared) (KeepsValues-then s1 s2 s3 kept_1 (values-kept s2 s3 kept_2)) in
      let made = (cut cmp (links_of s) (values_of s) s.root x l is heap).parts (links_of s3) links out.here out.others in
      let root : s3.root ≡ root_to s.root l.back l.next =
      kept_2.root ∙ root_is ∙ ap (λ (r : Option ℕ). root_to r l.back l.next) cleared.root in (
        at-root s3 _ None l.child None root (subst (λ (v : ℕ → Option T). HeapSplit cmp (links_of s3) v (root_to s.root l.back l.next) None
            l.child None) (sym out.values) made),
        out,
      )

  pub cut-back : (s s1 : HeapNodes T) (x : ℕ) (l : HeapLinks) → links_of s x ≡ Some l → IsHeap cmp s → Relinks s s1 x None
      → IsBackLinked (links_of s1) l.back
  cut-back s s1 x l is heap cleared =
      subst (λ (f : ℕ → Option HeapLinks). IsBackLinked f l.back) (sym cleared.links)
      (cut cmp (links_of s) (values_of s) s.root x l is heap).back_linked

  pub cut-next : (s s1 s2 : HeapNodes T) (x : ℕ) (l : HeapLinks) → links_of s x ≡ Some l → IsHeap cmp s → Relinks s s1 x None
      → links_of s2 ≡ pointed (links_of s1) l.back l.next → IfSome l.next (λ k. IsLinked s2 k)
  cut-next s s1 s2 x l is heap cleared pointed_is =
      subst (λ (f : ℕ → Option HeapLinks). IfSome l.next (λ k. is_some (f k) ≡ true))
      (sym (pointed_is ∙ ap (λ (f : ℕ → Option HeapLinks). pointed f l.back l.next) cleared.links))
      (cut cmp (links_of s) (values_of s) s.root x l is heap).next_linked

  -- one tree becomes the heap's

  pub meld-root-step : (s t : HeapNodes T) (r a winner : ℕ) → MeldsInto cmp s t r a winner → Keeps s t
      → InParts cmp s (Some r) (Some a) None None → InParts cmp t None (Some winner) None None
  meld-root-step s t r a winner melds keeps P =
      subst (λ (v : ℕ → Option T). HeapSplit cmp (links_of t) v None (Some winner) None None) (sym keeps.values)
      (meld-root cmp (values_of s) (links_of s) (links_of t) keeps.linked r a winner melds P)

  pub root-step : (t u : HeapNodes T) (a : ℕ) → Relinks t u a (placed (links_of t a) None Root) → InParts cmp t None (Some a) None None
      → InParts cmp u (Some a) None None None
  root-step t u a relinks P =
      rw (relinks.values, relinks.links) (root-parts cmp (values_of t) (links_of t) a P)

  -- a node alone is a tree
  pub add-step : (s t : HeapNodes T) (a : ℕ) → is_some (links_of s a) ≡ false → IsHeap cmp s
      → Relinks s t a (Some (record { child = None; next = None; back = Root })) → InParts cmp t t.root (Some a) None None
  add-step s t a free P relinks =
      at-root t s.root (Some a) None None relinks.root
      (rw (relinks.values, relinks.links) (add-parts cmp (values_of s) (links_of s) a s.root free P))

  -- the store holds one tree, and has the same values
  pub record Holding (s t : HeapNodes T) (a : ℕ) : Type 0 where
    pub parts : InParts cmp t None (Some a) None None
    pub kept : KeepsValues s t

  pub holding-melded : (s t t0 : HeapNodes T) (r a winner winner0 : ℕ) → s.root ≡ Some r → t0 ≡ t → winner0 ≡ winner
      → MeldsInto cmp s t r a winner → Keeps s t → InParts cmp s s.root (Some a) None None → Holding s t0 winner0
  holding-melded s t t0 r a winner winner0 root e f melds keeps P =
      subst (λ (p : ℕ). Holding s t0 p) (sym f)
      (subst (λ (x : HeapNodes T). Holding s x winner) (sym e) (record {
        parts = meld-root-step s t r a winner melds keeps (subst (λ (m : Option ℕ). InParts cmp s m (Some a) None None) root P);
        kept = values-kept s t keeps;
      }))

  pub holding-alone : (s t0 : HeapNodes T) (a a0 : ℕ) → s.root ≡ None → t0 ≡ s → a0 ≡ a → InParts cmp s s.root (Some a) None None
      → Holding s t0 a0
  holding-alone s t0 a a0 root e f P =
      subst (λ (p : ℕ). Holding s t0 p) (sym f)
      (subst (λ (x : HeapNodes T). Holding s x a) (sym e) (record {
        parts = subst (λ (m : Option ℕ). InParts cmp s m (Some a) None None) root P;
        kept = record { values = refl; linked = λ k. refl };
      }))

  pub rooted-heap : (s t u w : HeapNodes T) (a : ℕ) → Holding s t a → Relinks t u a (placed (links_of t a) None Root) → w
      ≡ record u { root = Some a } → IsHeap cmp w × KeepsValues s w
  rooted-heap s t u w a held relinks is =
      let kept = KeepsValues-then s t u held.kept (KeepsValues-relinks t u a _ relinks (placed-some (links_of t a) None Root)) in
      subst (λ (x : HeapNodes T). IsHeap cmp x × KeepsValues s x) (sym is) (
        root-step t u a relinks held.parts,
        record { values = kept.values; linked = kept.linked },
      )
