use Rattle.std.proofs.Common.{◌≡◌, None, false, sym, ap, ◌∙◌}
use Rattle.fi_parts.specs.Blocks.{item_by}
use Rattle.fi_parts.specs.LinkedBlocks.{data_of, links_at, chain_of}
use Rattle.fi_parts.specs.Links.{is_linked}
use Rattle.fi_parts.proofs.BlockSlots.{key_of_live, live_of_slot, holds_slot, chain_live, get-live_by}
use Rattle.fi_parts.proofs.BlockChanges.{Change, Change-freed, sound_after, view_removed}
use Rattle.fi_parts.proofs.blocks.Blocks.free.Given.{Over}
use Rattle.fi_parts.proofs.blocks.Blocks.free.Goals as goal

pub remove-at-requires : goal.remove-at-requires
remove-at-requires g c =
    key_of_live c.self.inside.slab c.self.inside.linked c.args.slot (rw (← c.self.view_is) at c.requires.live)

pub free-requires : goal.free-requires
free-requires g c =
    live_of_slot c.self.inside.slab c.self.inside.linked c.args.slot c.remove-at.result c.self.invariant.stored
    c.remove-at.ensures.value

change : (g : Over) (c : goal.After-free g)
    → Change c.self.inside.slab c.remove-at.new.self c.self.inside.linked c.free.new.self c.args.slot c.remove-at.result None
change g c =
    let ok = c.self.invariant.stored in
    let slab = c.self.inside.slab in
    let s = c.self.inside.linked in
    let off : is_linked (links_at s c.remove-at.result) ≡ false =
    c.self.invariant.chained.flags c.remove-at.result
    ∙ sym (holds_slot slab s ok c.args.slot c.remove-at.result (chain_of s) c.remove-at.ensures.value
    (chain_live slab s ok c.self.invariant.chained))
    ∙ (rw (← c.self.view_is) at c.requires.apart) in
    Change-freed slab c.remove-at.new.self s c.free.new.self c.args.slot c.remove-at.result c.self.invariant
    c.remove-at.ensures.value c.remove-at.ensures.updates c.free.ensures.blocks c.free.ensures.gone c.free.ensures.rest off

pub invariant_of-self : goal.invariant_of-self
invariant_of-self g c = sound_after _ _ _ _ _ _ _ c.self.invariant (change g c)

pub returns-clause-value : goal.returns-clause-value
returns-clause-value g c =
    let s = c.self.inside.linked in
    rw (← c.self.view_is)
    (get-live_by (data_of s) c.self.inside.slab c.args.slot ∙ ap (item_by (data_of s)) c.remove-at.ensures.value ∙ c.free.ensures.value)

pub returns-clause-freed : goal.returns-clause-freed
returns-clause-freed g c =
    rw (← c.self.view_is)
    (view_removed _ _ _ _ _ _ _ c.self.invariant (change g c) (ap (item_by (data_of c.free.new.self)) c.remove-at.ensures.updates.changed))
