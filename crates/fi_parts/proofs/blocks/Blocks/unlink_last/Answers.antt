use Rattle.std.proofs.Common.{Some, sym, ap, ◌∙◌}
use Rattle.fi_parts.specs.Blocks.{slot_by}
use Rattle.fi_parts.specs.LinkedBlocks.{data_of}
use Rattle.fi_parts.proofs.BlockSlots.{last_slot, last_live, slot_or-of, each_in}
use Rattle.fi_parts.proofs.BlocksMoved.{order_without}
use Rattle.fi_parts.proofs.blocks.Blocks.unlink_last.Goals as goal

pub slot-slot-requires : goal.slot-slot-requires
slot-slot-requires g c =
    last_live c.self.inside.linked c.in-Some.oldest c.self.invariant.chained (sym c.in-Some.ensures)

pub unlink-requires-clause-live : goal.unlink-requires-clause-live
unlink-requires-clause-live g c =
    last_live c.self.inside.linked c.in-Some.oldest c.self.invariant.chained (sym c.in-Some.ensures)

pub returns-in-None-clause-oldest : goal.returns-in-None-clause-oldest
returns-in-None-clause-oldest g c =
    let s = c.self.inside.linked in
    rw (← c.self.view_is)
    (sym (last_slot s c.self.invariant.chained ∙ ap (each_in (slot_by (data_of s))) (sym c.in-None.ensures)))

pub returns-clause-oldest : goal.returns-clause-oldest
returns-clause-oldest g c =
    let s = c.self.inside.linked in
    rw (← c.self.view_is)
    (sym (last_slot s c.self.invariant.chained ∙ ap (each_in (slot_by (data_of s))) (sym c.in-Some.ensures) ∙ ap Some
    (slot_or-of (data_of s c.in-Some.oldest) c.slot-slot.result c.slot-slot.ensures)))

pub returns-clause-order : goal.returns-clause-order
returns-clause-order g c =
    rw (← c.self.view_is)
    (order_without c.self.inside.slab c.self.inside.linked c.unlink.new.self c.self.invariant c.unlink.ensures.data
    c.unlink.ensures.chained c.slot-slot.result c.in-Some.oldest
    (c.self.invariant.stored.stored c.in-Some.oldest c.slot-slot.result c.slot-slot.ensures) c.unlink.ensures.order)
