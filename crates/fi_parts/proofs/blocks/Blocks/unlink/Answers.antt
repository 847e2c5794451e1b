use Rattle.std.proofs.Common.{◌≡◌, false, map, sym, ap, ◌∙◌}
use Rattle.fi_parts.specs.Blocks.{item_by, slot_by, view_of}
use Rattle.fi_parts.specs.LinkedBlocks.{data_of, chain_of}
use Rattle.fi_parts.specs.Links.{without}
use Rattle.fi_parts.specs.Order.{holds}
use Rattle.fi_parts.proofs.Slots.{absent, without_absent}
use Rattle.fi_parts.proofs.BlocksListed.{is_listed}
use Rattle.fi_parts.proofs.BlockSlots.{live_of_slot, get-live_by, holds_slot, without_slot, chain_live, data_path}
use Rattle.fi_parts.proofs.blocks.Blocks.unlink.Given.{Over}
use Rattle.fi_parts.proofs.blocks.Blocks.unlink.Goals as goal

-- a slot that is not live is not linked
unlinked : (g : Over) (c : goal.In-None g) → holds c.args.slot (view_of c.self.inside.slab c.self.inside.linked).order ≡ false
unlinked g c =
    absent (view_of c.self.inside.slab c.self.inside.linked) c.args.slot
    (is_listed c.self.inside.slab c.self.inside.linked c.self.invariant)
    (get-live_by (data_of c.self.inside.linked) c.self.inside.slab c.args.slot
    ∙ ap (item_by (data_of c.self.inside.linked)) (sym c.in-None.ensures))

pub returns-in-None-clause-found : goal.returns-in-None-clause-found
returns-in-None-clause-found g c = rw (← c.self.view_is) (sym (unlinked g c))

pub returns-in-None-clause-order : goal.returns-in-None-clause-order
returns-in-None-clause-order g c = rw (← c.self.view_is) (sym (without_absent _ _ (unlinked g c)))

pub unlink-requires-clause-live : goal.unlink-requires-clause-live
unlink-requires-clause-live g c = live_of_slot c.self.inside.slab c.self.inside.linked c.args.slot c.in-Some.at.now
    c.self.invariant.stored (sym c.in-Some.ensures)

pub returns-clause-found : goal.returns-clause-found
returns-clause-found g c =
    let ok = c.self.invariant.stored in
    rw (← c.self.view_is)
    (c.unlink.ensures.found ∙ sym (holds_slot c.self.inside.slab c.self.inside.linked ok c.args.slot c.in-Some.at.now
    (chain_of c.self.inside.linked) (sym c.in-Some.ensures) (chain_live c.self.inside.slab c.self.inside.linked ok
    c.self.invariant.chained)))

pub returns-clause-order : goal.returns-clause-order
returns-clause-order g c =
    let ok = c.self.invariant.stored in
    rw (← c.self.view_is)
    (ap (map (slot_by (data_of c.unlink.new.self))) c.unlink.ensures.order
    ∙ (λ i. map (slot_by (data_path c.self.inside.linked c.unlink.new.self c.unlink.ensures.data i))
    (without c.in-Some.at.now (chain_of c.self.inside.linked)))
    ∙ sym (without_slot c.self.inside.slab c.self.inside.linked ok c.args.slot c.in-Some.at.now (chain_of c.self.inside.linked)
    (sym c.in-Some.ensures) (chain_live c.self.inside.slab c.self.inside.linked ok c.self.invariant.chained)))
