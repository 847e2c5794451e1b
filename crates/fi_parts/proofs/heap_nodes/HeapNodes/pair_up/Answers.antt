use Rattle.std.proofs.Common.{Some, None, sym, ◌∙◌}
use Rattle.fi_parts.specs.HeapNodes.{InParts}
use Rattle.fi_parts.proofs.HeapPieces.{rest-linked, meldable-rest, turn-parts}
use Rattle.fi_parts.proofs.HeapNodes.{Keeps-then}
use Rattle.fi_parts.proofs.HeapSteps.{fewer, at-root, pop-next, Turned, pair-two, pair-one, two-linked, one-linked}
use Rattle.fi_parts.proofs.heap_nodes.HeapNodes.pair_up.Given.{Over}
use Rattle.fi_parts.proofs.heap_nodes.HeapNodes.pair_up.Goals as goal
use Rattle.fi_parts.proofs.heap_nodes.HeapNodes.pair_up.Goals.{in-Some-get, in-None}

pub next-right-requires : goal.next-right-requires
next-right-requires g c = rest-linked _ _ _ _ _ _ _ (rw (← c.in-Some.ensures) at c.loop-left.invariant.parts)

pub next-rest-requires : goal.next-rest-requires
next-rest-requires g c =
    let was = rw (← c.in-Some.ensures) at c.loop-left.invariant.parts in
    let now = pop-next g.T.Ord.cmp c.loop-left.self c.in-Some.left c.loop-left.self.root c.loop-left.pairs c.next-right.result
    c.next-right.ensures was in
    rest-linked _ _ _ _ _ _ _ (rw (← c.in-Some-get.ensures) at now.0)

pub meld-pair-requires : goal.meld-pair-requires
meld-pair-requires g c =
    let was = rw (← c.in-Some.ensures) at c.loop-left.invariant.parts in
    let now = pop-next g.T.Ord.cmp c.loop-left.self c.in-Some.left c.loop-left.self.root c.loop-left.pairs c.next-right.result
    c.next-right.ensures was in
    meldable-rest _ _ _ _ _ _ _ (rw (← c.in-Some-get.ensures) at now.0)

pub link_to-link-requires : goal.link_to-link-requires
link_to-link-requires g c =
    let was = rw (← c.in-Some.ensures) at c.loop-left.invariant.parts in
    elim c.match-get-2.branch [
      | in-Some-get w ↦
          two-linked g.T.Ord.cmp c.loop-left.self w.meld-pair.new.self c.match-get-2.self c.in-Some.left w.in-Some-get.right
          w.meld-pair.result c.match-get-2.pair c.loop-left.self.root c.loop-left.pairs c.next-right.result w.in-Some-get.ensures
          c.next-right.ensures w.self-is w.pair-is w.meld-pair.ensures.melded w.meld-pair.ensures.kept was
      | in-None w ↦
          one-linked g.T.Ord.cmp c.loop-left.self c.match-get-2.self c.in-Some.left c.match-get-2.pair c.loop-left.self.root
          c.loop-left.pairs w.self-is w.pair-is was
    ]

pub set_next-requires : goal.set_next-requires
set_next-requires g c =
    let was = rw (← c.in-Some.ensures) at c.loop-left.invariant.parts in
    elim c.match-get-2.branch [
      | in-Some-get w ↦
          two-linked g.T.Ord.cmp c.loop-left.self w.meld-pair.new.self c.match-get-2.self c.in-Some.left w.in-Some-get.right
          w.meld-pair.result c.match-get-2.pair c.loop-left.self.root c.loop-left.pairs c.next-right.result w.in-Some-get.ensures
          c.next-right.ensures w.self-is w.pair-is w.meld-pair.ensures.melded w.meld-pair.ensures.kept was
      | in-None w ↦
          one-linked g.T.Ord.cmp c.loop-left.self c.match-get-2.self c.in-Some.left c.match-get-2.pair c.loop-left.self.root
          c.loop-left.pairs w.self-is w.pair-is was
    ]

turned : (g : Over) (c : goal.After-set_next g) → (P : InParts g.T.Ord.cmp c.loop-left.self c.loop-left.self.root None
    (Some c.in-Some.left) c.loop-left.pairs) → Turned g.T.Ord.cmp c.loop-left.self c.set_next.new.self c.loop-left.self.root
    (Some c.in-Some.left) c.match-get-2.rest c.loop-left.pairs P c.match-get-2.pair
turned g c P =
    elim c.match-get-2.branch [
      | in-Some-get w ↦
          pair-two g.T.Ord.cmp c.loop-left.self w.meld-pair.new.self c.match-get-2.self c.set_next.new.self c.in-Some.left
          w.in-Some-get.right w.meld-pair.result c.match-get-2.pair c.loop-left.self.root c.match-get-2.rest c.loop-left.pairs
          (w.in-Some-get.ensures ∙ c.next-right.ensures) (w.rest-is ∙ w.next-rest.ensures) w.self-is w.pair-is
          w.meld-pair.ensures.melded w.meld-pair.ensures.kept c.set_next.ensures P
      | in-None w ↦
          pair-one g.T.Ord.cmp c.loop-left.self c.match-get-2.self c.set_next.new.self c.in-Some.left c.match-get-2.pair
          c.loop-left.self.root c.match-get-2.rest c.loop-left.pairs
          (w.rest-is ∙ w.none-rest.ensures ∙ w.in-None.ensures ∙ c.next-right.ensures) w.self-is w.pair-is c.set_next.ensures P
    ]

pub loop-left-preserved : goal.loop-left-preserved
loop-left-preserved g c =
    let now = turned g c (rw (← c.in-Some.ensures) at c.loop-left.invariant.parts) in record {
      parts = rw c.link_to-link.ensures (at-root g.T.Ord.cmp c.set_next.new.self _ _ _ _ now.kept.root now.parts);
      kept = Keeps-then c.args.self.now c.loop-left.self c.set_next.new.self c.loop-left.invariant.kept now.kept;
    }

pub loop-left-smaller : goal.loop-left-smaller
loop-left-smaller g c =
    let was = rw (← c.in-Some.ensures) at c.loop-left.invariant.parts in
    let now = turned g c was in
    fewer g.T.Ord.cmp c.loop-left.self c.set_next.new.self _ _ _ _ _ _ _ _ c.loop-left.rest (sym c.in-Some.ensures) was now.parts now.less

pub returns-clause-paired : goal.returns-clause-paired
returns-clause-paired g c = turn-parts _ _ _ _ _ (rw (← c.get.ensures, c.in_default.is) at c.loop-left.invariant.parts)
