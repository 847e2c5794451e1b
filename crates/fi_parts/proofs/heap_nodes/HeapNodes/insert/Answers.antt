use Rattle.fi_parts.proofs.HeapNodes.{PutsIn-linked, PutsIn-then}
use Rattle.fi_parts.proofs.HeapSteps.{add-step}
use Rattle.fi_parts.proofs.heap_nodes.HeapNodes.insert.Goals as goal

pub add_tree-requires : goal.add_tree-requires
add_tree-requires g c = add-step g.T.Ord.cmp c.args.self.now c.set_links.new.self c.args.slot c.requires.apart c.requires.heap
    (rw (c.none.ensures, c.none-2.ensures) at c.set_links.ensures)

pub returns-clause-put : goal.returns-clause-put
returns-clause-put g c =
    PutsIn-then c.args.self.now c.set_links.new.self c.add_tree.new.self c.args.slot
    (PutsIn-linked c.args.self.now c.set_links.new.self c.args.slot _ c.set_links.ensures) c.add_tree.ensures.kept
