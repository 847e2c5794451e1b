use Rattle.std.proofs.Common.{◌∷◌, map, sym, ap, ◌∙◌}
use Rattle.fi_parts.specs.Blocks.{slot_by}
use Rattle.fi_parts.specs.LinkedBlocks.{data_of, chain_of}
use Rattle.fi_parts.proofs.BlockSlots.{key_of_live, live_of_slot, holds_slot, chain_live, data_path, slot_of_held}
use Rattle.fi_parts.proofs.blocks.Blocks.link.Goals as goal

pub index-at-requires : goal.index-at-requires
index-at-requires g c = key_of_live c.self.inside.slab c.self.inside.linked c.args.slot (rw (← c.self.view_is) at c.requires.live)

pub link-requires-clause-live : goal.link-requires-clause-live
link-requires-clause-live g c = live_of_slot c.self.inside.slab c.self.inside.linked c.args.slot c.index-at.result.now
    c.self.invariant.stored c.index-at.ensures

pub link-requires-clause-apart : goal.link-requires-clause-apart
link-requires-clause-apart g c =
    let ok = c.self.invariant.stored in
    sym (holds_slot c.self.inside.slab c.self.inside.linked ok c.args.slot c.index-at.result.now (chain_of c.self.inside.linked)
    c.index-at.ensures (chain_live c.self.inside.slab c.self.inside.linked ok c.self.invariant.chained))
    ∙ (rw (← c.self.view_is) at c.requires.apart)

pub returns-clause-order : goal.returns-clause-order
returns-clause-order g c =
    rw (← c.self.view_is)
    (ap (map (slot_by (data_of c.link.new.self))) c.link.ensures.order
    ∙ (λ i. map (slot_by (data_path c.self.inside.linked c.link.new.self c.link.ensures.data i))
    (c.index-at.result.now ∷ chain_of c.self.inside.linked))
    ∙ ap (λ k. k ∷ map (slot_by (data_of c.self.inside.linked)) (chain_of c.self.inside.linked))
    (slot_of_held c.self.inside.slab c.self.inside.linked c.self.invariant.stored c.args.slot c.index-at.result.now
    c.index-at.ensures))
