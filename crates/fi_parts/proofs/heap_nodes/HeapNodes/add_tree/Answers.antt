use Rattle.std.proofs.Common.{ℕ, Option, Some, None, sym, subst, ◌∙◌}
use Rattle.fi_parts.specs.HeapNodes.{InParts}
use Rattle.fi_parts.proofs.HeapPieces.{meldable-root}
use Rattle.fi_parts.proofs.HeapSteps.{Holding, holding-melded, holding-alone, rooted-heap}
use Rattle.fi_parts.proofs.heap_nodes.HeapNodes.add_tree.Given.{Over}
use Rattle.fi_parts.proofs.heap_nodes.HeapNodes.add_tree.Goals as goal
use Rattle.fi_parts.proofs.heap_nodes.HeapNodes.add_tree.Goals.{in-Some, in-None}

pub meld-root-requires : goal.meld-root-requires
meld-root-requires g c =
    meldable-root _ _ _ _ _ (subst (λ (m : Option ℕ). InParts g.T.Ord.cmp c.args.self.now m (Some c.args.tree) None None)
    (sym c.root.ensures ∙ c.in-Some.is) c.requires)

held : (g : Over) (c : goal.After-set_root g) → Holding g.T.Ord.cmp c.args.self.now c.match-root.self c.match-root.root
held g c =
    elim c.match-root.branch [
      | in-Some w ↦
          holding-melded g.T.Ord.cmp c.args.self.now w.meld-root.new.self c.match-root.self w.in-Some.root c.args.tree
          w.meld-root.result c.match-root.root (sym c.root.ensures ∙ w.in-Some.is) w.self-is w.root-is w.meld-root.ensures.melded
          w.meld-root.ensures.kept c.requires
      | in-None w ↦
          holding-alone g.T.Ord.cmp c.args.self.now c.match-root.self c.args.tree c.match-root.root (sym c.root.ensures ∙ w.in-None.is)
          w.self-is w.root-is c.requires
    ]

pub returns : goal.returns
returns g c =
    let is = rooted-heap g.T.Ord.cmp _ _ _ _ _ (held g c) (rw c.none.ensures at c.set_place.ensures)
    (rw c.link_to-link.ensures at c.set_root.ensures) in
    record { heap = is.0; kept = is.1 }
