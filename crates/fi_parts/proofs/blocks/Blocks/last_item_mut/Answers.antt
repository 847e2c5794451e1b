use Rattle.std.proofs.Common.{inl, inr, sym, ap, ◌∙◌}
use Rattle.fi_parts.specs.ListModel.{item_of}
use Rattle.fi_parts.specs.Blocks.{view_of}
use Rattle.fi_parts.proofs.BlockSlots.{last_live}
use Rattle.fi_parts.proofs.BlockChanges.{sound_item}
use Rattle.fi_parts.proofs.BlockEnds.{last_is, no_last, item_at_end, view_at_end, slot_held}
use Rattle.fi_parts.proofs.blocks.Blocks.last_item_mut.Goals as goal

pub returns-in-None : goal.returns-in-None
returns-in-None g c =
    let none = no_last _ _ c.self.invariant (sym c.in-None.ensures) in (
      ap inr c.self.view_is,
      record {
        writes_back = tt;
        value = rw (← c.self.view_is) (sym (ap (item_of (view_of c.self.inside.slab c.self.inside.linked)) none));
      },
    )

pub item_mut-requires : goal.item_mut-requires
item_mut-requires g c = last_live c.self.inside.linked c.in-Some.oldest c.self.invariant.chained (sym c.in-Some.ensures)

pub invariant_of-self-lent : goal.invariant_of-self-lent
invariant_of-self-lent g c w =
    let live = last_live c.self.inside.linked c.in-Some.oldest c.self.invariant.chained (sym c.in-Some.ensures) in
    sound_item _ _ _ c.in-Some.oldest w c.self.invariant (slot_held _ _ c.self.invariant c.in-Some.oldest live)

pub returns : goal.returns
returns g c =
    let live = last_live c.self.inside.linked c.in-Some.oldest c.self.invariant.chained (sym c.in-Some.ensures) in
    let is = last_is _ _ c.self.invariant c.in-Some.oldest (sym c.in-Some.ensures) in
    rw (← c.self.view_is) (
      (λ i. inl (c.item_mut.result.ghost_name, λ w. view_at_end _ _ c.self.invariant c.in-Some.oldest _ is live w i)),
      record {
        writes_back = tt;
        value = sym (item_at_end _ _ c.self.invariant c.in-Some.oldest _ is live ∙ c.item_mut.ensures.value);
      },
    )
