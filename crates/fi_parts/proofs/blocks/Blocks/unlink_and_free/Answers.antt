use Rattle.std.proofs.Common.{None, sym, ap, ◌∙◌}
use Rattle.std.specs.FinMap as map
use Rattle.fi_parts.specs.Blocks.{IsSound, item_by, live_by}
use Rattle.fi_parts.specs.CountedBlocks.{item_in}
use Rattle.fi_parts.specs.LinkedBlocks.{data_of}
use Rattle.fi_parts.proofs.Moved.{live_from_data}
use Rattle.fi_parts.proofs.BlockSlots.{live_of_slot, get-live_by, data_path}
use Rattle.fi_parts.proofs.BlockChanges.{Change, sound_after, order_after, view_removed}
use Rattle.fi_parts.proofs.BlocksMoved.{sound_moved, order_without, Change-dropped}
use Rattle.fi_parts.proofs.blocks.Blocks.unlink_and_free.Given.{Over}
use Rattle.fi_parts.proofs.blocks.Blocks.unlink_and_free.Goals as goal

pub returns-in-None-clause-value : goal.returns-in-None-clause-value
returns-in-None-clause-value g c =
    let s = c.self.inside.linked in
    rw (← c.self.view_is)
    (sym (get-live_by (data_of s) c.self.inside.slab c.args.slot ∙ ap (item_by (data_of s)) (sym c.in-None.ensures.value)))

pub unlink-requires-clause-live : goal.unlink-requires-clause-live
unlink-requires-clause-live g c =
    live_of_slot c.self.inside.slab c.self.inside.linked c.args.slot c.in-Some.block c.self.invariant.stored
    (sym c.in-Some.ensures.value)

pub free-requires : goal.free-requires
free-requires g c =
    live_from_data c.self.inside.linked c.unlink.new.self c.in-Some.block
    (c.unlink.ensures.data c.in-Some.block)
    (live_of_slot c.self.inside.slab c.self.inside.linked c.args.slot c.in-Some.block c.self.invariant.stored
    (sym c.in-Some.ensures.value))

sound : (g : Over) (c : goal.After-free g) → IsSound c.self.inside.slab c.unlink.new.self
sound g c =
    sound_moved c.self.inside.slab c.self.inside.linked c.unlink.new.self c.self.invariant c.unlink.ensures.data
    c.unlink.ensures.chained

change : (g : Over) (c : goal.After-free g)
    → Change c.self.inside.slab c.try_remove.new.self c.unlink.new.self c.free.new.self c.args.slot
    c.in-Some.block None
change g c =
    Change-dropped c.self.inside.slab c.self.inside.linked c.unlink.new.self c.self.invariant c.unlink.ensures.data
    c.unlink.ensures.chained c.args.slot c.in-Some.block (sym c.in-Some.ensures.value) c.unlink.ensures.order
    c.try_remove.new.self c.free.new.self c.try_remove.ensures.updates c.free.ensures.blocks c.free.ensures.gone
    c.free.ensures.rest

pub invariant_of-self-2 : goal.invariant_of-self-2
invariant_of-self-2 g c = sound_after _ _ _ _ _ _ _ (sound g c) (change g c)

pub returns-clause-value : goal.returns-clause-value
returns-clause-value g c =
    let s = c.self.inside.linked in
    rw (← c.self.view_is)
    (sym (get-live_by (data_of s) c.self.inside.slab c.args.slot ∙ ap (item_by (data_of s)) (sym c.in-Some.ensures.value)
    ∙ ap item_in (sym (c.unlink.ensures.data c.in-Some.block)) ∙ c.free.ensures.value))

pub returns-clause-live : goal.returns-clause-live
returns-clause-live g c =
    let s = c.self.inside.linked in
    rw (← c.self.view_is)
    (ap (λ v. v.live)
    (view_removed _ _ _ _ _ _ _ (sound g c) (change g c)
    (ap (item_by (data_of c.free.new.self)) c.try_remove.ensures.updates.changed))
    ∙ (λ i. map.remove (live_by (data_path s c.unlink.new.self c.unlink.ensures.data i) c.self.inside.slab.slots)
    c.args.slot))

pub returns-clause-order : goal.returns-clause-order
returns-clause-order g c =
    rw (← c.self.view_is)
    (order_after _ _ _ _ _ _ _ (sound g c) (change g c)
    ∙ order_without c.self.inside.slab c.self.inside.linked c.unlink.new.self c.self.invariant c.unlink.ensures.data
    c.unlink.ensures.chained c.args.slot c.in-Some.block (sym c.in-Some.ensures.value) c.unlink.ensures.order)
