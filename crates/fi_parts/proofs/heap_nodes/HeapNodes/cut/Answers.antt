use Rattle.fi_parts.proofs.HeapSteps.{cut-step, cut-back, cut-next}
use Rattle.fi_parts.proofs.heap_nodes.HeapNodes.cut.Goals as goal

pub set_link-requires : goal.set_link-requires
set_link-requires g c =
    let took = c.take_links-links.ensures in
    cut-back g.T.Ord.cmp c.args.self.now _ c.args.slot c.take_links-links.result took.links c.requires.heap took.taken

pub set_back_of-requires : goal.set_back_of-requires
set_back_of-requires g c =
    let took = c.take_links-links.ensures in
    cut-next g.T.Ord.cmp c.args.self.now c.take_links-links.new.self c.set_link.new.self c.args.slot c.take_links-links.result took.links
    c.requires.heap took.taken c.set_link.ensures.links

pub returns : goal.returns
returns g c =
    let took = c.take_links-links.ensures in
    let both = cut-step g.T.Ord.cmp c.args.self.now c.take_links-links.new.self c.set_link.new.self c.set_back_of.new.self c.args.slot
    c.take_links-links.result took.links c.requires.heap took.taken c.set_link.ensures.links c.set_link.ensures.root
    c.set_link.ensures.kept c.set_back_of.ensures.links c.set_back_of.ensures.kept in
    record { parts = both.0; taken = both.1 }
