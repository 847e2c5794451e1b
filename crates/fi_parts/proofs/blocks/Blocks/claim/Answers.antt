use Rattle.std.proofs.Common.{◌≡◌, Some, map, is_some, refl, sym, ap, ◌∙◌}
use Rattle.std.specs.FinMap as fin
use Rattle.slab.specs.Slab.{get}
use Rattle.fi_parts.specs.Order.{holds}
use Rattle.fi_parts.specs.ListModel.{with_live}
use Rattle.fi_parts.specs.Blocks.{item_by, live_by, slot_by, IsSound}
use Rattle.fi_parts.specs.CountedBlocks.{item_in, data_in, loose_block}
use Rattle.fi_parts.specs.LinkedBlocks.{data_of, chain_of}
use Rattle.fi_parts.specs.Placed.{at_ptr}
use Rattle.fi_parts.proofs.Placed.{at-cons_same}
use Rattle.fi_parts.proofs.BlockSlots.{get-live_by, holds_none, chain_live}
use Rattle.fi_parts.proofs.BlockChanges.{Change, Change-claimed, sound_after, sound_slots, view_inserted, order_after}
use Rattle.fi_parts.proofs.blocks.Blocks.claim.Given.{Over}
use Rattle.fi_parts.proofs.blocks.Blocks.claim.Goals as goal

-- room in the slab moves no slot
slots : (g : Over) (c : goal.After-insert_reserved g) → c.reserve_places.new.slab.slots ≡ c.self.inside.slab.slots
slots g c = ap (λ s. s.slots) c.reserve_places.ensures.rest_kept

sound : (g : Over) (c : goal.After-insert_reserved g) → IsSound c.reserve_places.new.slab c.self.inside.linked
sound g c = sound_slots c.self.inside.slab c.reserve_places.new.slab c.self.inside.linked (slots g c) c.self.invariant

change : (g : Over) (c : goal.After-insert_reserved g)
    → Change c.reserve_places.new.slab c.insert_reserved.new.self c.self.inside.linked c.claim.new.self c.insert_reserved.result c.in-Ok.at
    (Some c.in-Ok.at)
change g c =
    Change-claimed c.reserve_places.new.slab c.insert_reserved.new.self c.self.inside.linked c.claim.new.self
    c.insert_reserved.result c.in-Ok.at (loose_block c.args.value c.vacant_key-slot.result) (sound g c)
    c.insert_reserved.ensures.was_vacant c.insert_reserved.ensures.updates c.in-Ok.ensures.blocks c.in-Ok.ensures.fresh
    c.claim.ensures.rest refl (c.vacant_key-slot.ensures.value ∙ sym c.insert_reserved.ensures.key)

item_is : (g : Over) (c : goal.After-insert_reserved g)
    → item_by (data_of c.claim.new.self) (get c.insert_reserved.new.self c.insert_reserved.result) ≡ Some c.args.value
item_is g c =
    let b = loose_block c.args.value c.vacant_key-slot.result in
    ap (item_by (data_of c.claim.new.self)) c.insert_reserved.ensures.updates.changed
    ∙ ap (λ bs. item_in (data_in (at_ptr bs c.in-Ok.at.ptr))) c.in-Ok.ensures.blocks
    ∙ ap (λ o. item_in (data_in o)) (at-cons_same c.in-Ok.at.ptr b c.self.inside.linked.blocks.owner.blocks)

pub invariant_of-self-in-Ok : goal.invariant_of-self-in-Ok
invariant_of-self-in-Ok g c = sound_after _ _ _ _ _ _ _ (sound g c) (change g c)

pub returns-in-Ok-clause-was_free : goal.returns-in-Ok-clause-was_free
returns-in-Ok-clause-was_free g c =
    let D = data_of c.self.inside.linked in
    rw (← c.self.view_is)
    (get-live_by D c.self.inside.slab c.insert_reserved.result
    ∙ ap (item_by D)
    (sym (ap (λ z. get z c.insert_reserved.result) c.reserve_places.ensures.rest_kept) ∙ c.insert_reserved.ensures.was_vacant))

pub returns-in-Ok-clause-live : goal.returns-in-Ok-clause-live
returns-in-Ok-clause-live g c =
    ap is_some (get-live_by (data_of c.claim.new.self) c.insert_reserved.new.self c.insert_reserved.result ∙ item_is g c)

pub returns-in-Ok-clause-apart : goal.returns-in-Ok-clause-apart
returns-in-Ok-clause-apart g c =
    let s = c.self.inside.linked in
    let ok = sound g c in
    ap (holds c.insert_reserved.result) (order_after _ _ _ _ _ _ _ ok (change g c))
    ∙ holds_none c.reserve_places.new.slab s ok.stored c.insert_reserved.result (chain_of s) c.insert_reserved.ensures.was_vacant
    (chain_live c.reserve_places.new.slab s ok.stored ok.chained)

pub returns-in-Ok-clause-claimed : goal.returns-in-Ok-clause-claimed
returns-in-Ok-clause-claimed g c =
    let s = c.self.inside.linked in
    let D = data_of s in
    let e = slots g c in
    rw (← c.self.view_is)
    (view_inserted _ _ _ _ _ _ _ (sound g c) (change g c) c.args.value (item_is g c)
    ∙ (λ i.
    with_live
    (record { live = live_by D (e i); order = map (slot_by D) (chain_of s); visits = s.blocks.visits.count })
    (fin.insert (live_by D (e i)) c.insert_reserved.result c.args.value)))
