use Rattle.std.proofs.Common.{sym, ap, ◌∙◌}
use Rattle.fi_parts.specs.ListModel.{item_of}
use Rattle.fi_parts.specs.Blocks.{view_of}
use Rattle.fi_parts.proofs.BlockEnds.{first_live, first_is, no_first, item_at_end}
use Rattle.fi_parts.proofs.blocks.Blocks.first_item.Goals as goal

pub item-requires : goal.item-requires
item-requires g c = first_live _ _ c.self.invariant c.in-Some.youngest (sym c.in-Some.ensures)

pub returns : goal.returns
returns g c =
    let live = first_live _ _ c.self.invariant c.in-Some.youngest (sym c.in-Some.ensures) in
    let is = first_is _ _ c.self.invariant c.in-Some.youngest (sym c.in-Some.ensures) in
    rw (← c.self.view_is) (sym (item_at_end _ _ c.self.invariant c.in-Some.youngest _ is live ∙ c.item.ensures))

pub returns-in-None : goal.returns-in-None
returns-in-None g c = rw (← c.self.view_is)
    (sym (ap (item_of (view_of c.self.inside.slab c.self.inside.linked)) (no_first _ _ c.self.invariant (sym c.in-None.ensures))))
