use Rattle.std.proofs.Common.{Some, sym, ap, ◌∙◌}
use Rattle.fi_parts.specs.Blocks.{slot_by}
use Rattle.fi_parts.specs.LinkedBlocks.{data_of}
use Rattle.fi_parts.proofs.BlockSlots.{last_slot, last_live, slot_or-of, each_in}
use Rattle.fi_parts.proofs.blocks.Blocks.last.Goals as goal

pub slot-requires : goal.slot-requires
slot-requires g c = last_live c.self.inside.linked c.in-Some.at c.self.invariant.chained (sym c.in-Some.ensures)

pub returns-in-Some : goal.returns-in-Some
returns-in-Some g c =
    let s = c.self.inside.linked in
    rw (← c.self.view_is)
    (sym (last_slot s c.self.invariant.chained ∙ ap (each_in (slot_by (data_of s))) (sym c.in-Some.ensures) ∙ ap Some
    (slot_or-of (data_of s c.in-Some.at) c.slot.result c.slot.ensures)))

pub returns-in-None : goal.returns-in-None
returns-in-None g c =
    let s = c.self.inside.linked in
    rw (← c.self.view_is) (sym (last_slot s c.self.invariant.chained ∙ ap (each_in (slot_by (data_of s))) (sym c.in-None.ensures)))
