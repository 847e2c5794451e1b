use Rattle.fi_parts.proofs.HeapForests.{child_to-some}
use Rattle.fi_parts.proofs.HeapNodes.{Keeps-then, Keeps-relinks, placed-some, linked-kept, linked-kept-if, adopted-links}
use Rattle.fi_parts.proofs.heap_nodes.HeapNodes.adopt.Goals as goal

pub set_back_of-requires : goal.set_back_of-requires
set_back_of-requires g c =
    linked-kept-if _ _ (Keeps-relinks _ _ _ _ c.replace_child-older.ensures.replaced (child_to-some _ _)) _
    (rw (← c.replace_child-older.ensures.older) at c.requires.older)

pub set_place-requires : goal.set_place-requires
set_place-requires g c =
    linked-kept _ _ c.set_back_of.ensures.kept _
    (linked-kept _ _ (Keeps-relinks _ _ _ _ c.replace_child-older.ensures.replaced (child_to-some _ _)) _ c.requires.child)

pub returns : goal.returns
returns g c = record {
  links = adopted-links c.args.self.now _ _ _ _ _ _ c.replace_child-older.ensures.older
      (rw c.link_to-link.ensures at c.replace_child-older.ensures.replaced) c.set_back_of.ensures.links c.set_place.ensures;
  kept = Keeps-then _ _ _ (Keeps-relinks _ _ _ _ c.replace_child-older.ensures.replaced (child_to-some _ _))
      (Keeps-then _ _ _ c.set_back_of.ensures.kept (Keeps-relinks _ _ _ _ c.set_place.ensures (placed-some _ _ _)));
}
