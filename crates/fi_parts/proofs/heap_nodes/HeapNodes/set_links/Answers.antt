use Rattle.fi_parts.proofs.HeapNodes.{Relinks-with_links}
use Rattle.fi_parts.proofs.heap_nodes.HeapNodes.set_links.Goals as goal

pub returns : goal.returns
returns g c =
    rw c.of-node.ensures (rw c.index_mut-node.ensures.value at (Relinks-with_links c.args.self.now c.args.slot c.args.links c.requires))
