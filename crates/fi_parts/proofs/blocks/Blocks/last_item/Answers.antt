use Rattle.std.proofs.Common.{sym, ap, ◌∙◌}
use Rattle.fi_parts.specs.ListModel.{item_of}
use Rattle.fi_parts.specs.Blocks.{view_of}
use Rattle.fi_parts.proofs.BlockSlots.{last_live}
use Rattle.fi_parts.proofs.BlockEnds.{last_is, no_last, item_at_end}
use Rattle.fi_parts.proofs.blocks.Blocks.last_item.Goals as goal

pub item-requires : goal.item-requires
item-requires g c = last_live c.self.inside.linked c.in-Some.oldest c.self.invariant.chained (sym c.in-Some.ensures)

pub returns : goal.returns
returns g c =
    let live = last_live c.self.inside.linked c.in-Some.oldest c.self.invariant.chained (sym c.in-Some.ensures) in
    let is = last_is _ _ c.self.invariant c.in-Some.oldest (sym c.in-Some.ensures) in
    rw (← c.self.view_is) (sym (item_at_end _ _ c.self.invariant c.in-Some.oldest _ is live ∙ c.item.ensures))

pub returns-in-None : goal.returns-in-None
returns-in-None g c = rw (← c.self.view_is)
    (sym (ap (item_of (view_of c.self.inside.slab c.self.inside.linked)) (no_last _ _ c.self.invariant (sym c.in-None.ensures))))
