use Rattle.std.proofs.Common.{inl, inr, sym, ap, ◌∙◌}
use Rattle.fi_parts.specs.Blocks.{item_by}
use Rattle.fi_parts.specs.LinkedBlocks.{data_of}
use Rattle.fi_parts.proofs.BlockSlots.{live_of_slot, get-live_by}
use Rattle.fi_parts.proofs.BlockChanges.{sound_item, view_item}
use Rattle.fi_parts.proofs.blocks.Blocks.get_mut.Goals as goal

pub returns-in-None : goal.returns-in-None
returns-in-None g c = (
  ap inr c.self.view_is,
  record {
    writes_back = tt;
    value = rw (← c.self.view_is) (sym (get-live_by (data_of c.self.inside.linked) c.self.inside.slab c.args.slot ∙ ap
        (item_by (data_of c.self.inside.linked)) (sym c.in-None.ensures)));
  },
)

pub item_mut-requires : goal.item_mut-requires
item_mut-requires g c = live_of_slot c.self.inside.slab c.self.inside.linked c.args.slot c.in-Some.at.now c.self.invariant.stored
    (sym c.in-Some.ensures)

pub invariant_of-self-lent : goal.invariant_of-self-lent
invariant_of-self-lent g c w = sound_item c.self.inside.slab c.self.inside.linked c.args.slot c.in-Some.at.now w c.self.invariant
    (sym c.in-Some.ensures)

pub returns : goal.returns
returns g c =
    rw (← c.self.view_is) (
      (λ i. inl (
        c.item_mut.result.ghost_name,
        λ w. view_item c.self.inside.slab c.self.inside.linked c.args.slot c.in-Some.at.now w
            c.self.invariant (sym c.in-Some.ensures) i,
      )),
      record {
        writes_back = tt;
        value = sym (get-live_by (data_of c.self.inside.linked) c.self.inside.slab c.args.slot ∙ ap
            (item_by (data_of c.self.inside.linked)) (sym c.in-Some.ensures) ∙ c.item_mut.ensures.value);
      },
    )
