use Rattle.std.proofs.Common.{sym, ap, ◌∙◌}
use Rattle.fi_parts.specs.Blocks.{item_by}
use Rattle.fi_parts.specs.LinkedBlocks.{data_of}
use Rattle.fi_parts.proofs.BlockSlots.{live_of_slot, get-live_by}
use Rattle.fi_parts.proofs.blocks.Blocks.get.Goals as goal

pub item-requires : goal.item-requires
item-requires g c = live_of_slot c.self.inside.slab c.self.inside.linked c.args.slot c.in-Some.at.now c.self.invariant.stored
    (sym c.in-Some.ensures)

pub returns-in-Some : goal.returns-in-Some
returns-in-Some g c =
    rw (← c.self.view_is) (sym (get-live_by (data_of c.self.inside.linked) c.self.inside.slab c.args.slot ∙ ap
    (item_by (data_of c.self.inside.linked)) (sym c.in-Some.ensures) ∙ c.item.ensures))

pub returns-in-None : goal.returns-in-None
returns-in-None g c =
    rw (← c.self.view_is) (sym (get-live_by (data_of c.self.inside.linked) c.self.inside.slab c.args.slot ∙ ap
    (item_by (data_of c.self.inside.linked)) (sym c.in-None.ensures)))
