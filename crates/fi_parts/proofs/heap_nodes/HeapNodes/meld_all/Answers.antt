use Rattle.std.proofs.Common.{None, sym, arith}
use Rattle.fi_parts.proofs.HeapPieces.{rest-linked, meldable-rest}
use Rattle.fi_parts.proofs.HeapNodes.{Keeps-then}
use Rattle.fi_parts.proofs.HeapSteps.{fewer, at-root, pop-next, meld-next}
use Rattle.fi_parts.proofs.heap_nodes.HeapNodes.meld_all.Goals as goal

pub next-rest-requires : goal.next-rest-requires
next-rest-requires g c = rest-linked _ _ _ _ _ _ _ (rw (← c.in-Some.ensures) at c.loop-tree.invariant.parts)

pub meld-requires : goal.meld-requires
meld-requires g c = meldable-rest _ _ _ _ _ _ _ (rw (← c.in-Some.ensures, c.in-Some-melded.is) at c.loop-tree.invariant.parts)

pub loop-tree-preserved-in-Some-melded : goal.loop-tree-preserved-in-Some-melded
loop-tree-preserved-in-Some-melded g c =
    let was = rw (← c.in-Some.ensures, c.in-Some-melded.is) at c.loop-tree.invariant.parts in
    let now = meld-next g.T.Ord.cmp c.loop-tree.self c.meld.new.self c.in-Some-melded.before c.in-Some.tree c.meld.result
    c.loop-tree.self.root None c.next-rest.result c.next-rest.ensures c.meld.ensures.melded c.meld.ensures.kept was in record {
      parts = at-root g.T.Ord.cmp c.meld.new.self _ _ _ _ c.meld.ensures.kept.root now.0;
      kept = Keeps-then _ _ _ c.loop-tree.invariant.kept c.meld.ensures.kept;
    }

pub loop-tree-smaller-in-Some-melded : goal.loop-tree-smaller-in-Some-melded
loop-tree-smaller-in-Some-melded g c =
    let was = rw (← c.in-Some.ensures, c.in-Some-melded.is) at c.loop-tree.invariant.parts in
    let now = meld-next g.T.Ord.cmp c.loop-tree.self c.meld.new.self c.in-Some-melded.before c.in-Some.tree c.meld.result
    c.loop-tree.self.root None c.next-rest.result c.next-rest.ensures c.meld.ensures.melded c.meld.ensures.kept was in
    fewer g.T.Ord.cmp c.loop-tree.self c.meld.new.self _ _ _ _ _ _ _ _ c.loop-tree.rest (sym c.in-Some.ensures) was now.0
    (omega (arith, now.1))

pub loop-tree-preserved : goal.loop-tree-preserved
loop-tree-preserved g c =
    let was = rw (← c.in-Some.ensures, c.in-None.is) at c.loop-tree.invariant.parts in
    let now = pop-next g.T.Ord.cmp c.loop-tree.self c.in-Some.tree c.loop-tree.self.root None c.next-rest.result c.next-rest.ensures
    was in record {
      parts = now.0;
      kept = c.loop-tree.invariant.kept;
    }

pub loop-tree-smaller : goal.loop-tree-smaller
loop-tree-smaller g c =
    let was = rw (← c.in-Some.ensures, c.in-None.is) at c.loop-tree.invariant.parts in
    let now = pop-next g.T.Ord.cmp c.loop-tree.self c.in-Some.tree c.loop-tree.self.root None c.next-rest.result c.next-rest.ensures
    was in
    fewer g.T.Ord.cmp c.loop-tree.self c.loop-tree.self _ _ _ _ _ _ _ _ c.loop-tree.rest (sym c.in-Some.ensures) was now.0
    (omega (arith, now.1))
