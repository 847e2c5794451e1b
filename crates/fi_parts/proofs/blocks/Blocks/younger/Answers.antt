use Rattle.std.proofs.Common.{◌≡◌, true, Some, sym, ap, ◌∙◌}
use Rattle.fi_parts.specs.Blocks.{slot_by}
use Rattle.fi_parts.specs.CountedBlocks.{slot_in}
use Rattle.fi_parts.specs.Links.{names}
use Rattle.fi_parts.specs.LinkedBlocks.{data_of, chain_of}
use Rattle.fi_parts.proofs.Moved.{live_from_data}
use Rattle.fi_parts.proofs.BlocksListed.{is_listed}
use Rattle.fi_parts.proofs.BlockSlots.{key_of_live, holds_slot, chain_live, slot_or-of, each_in}
use Rattle.fi_parts.proofs.BlockNeighbours.{before_live, slot_before}
use Rattle.fi_parts.proofs.blocks.Blocks.younger.Goals as goal
use Rattle.fi_parts.proofs.blocks.Blocks.younger.Goals.{in-Some, in-None}

pub index-at-requires : goal.index-at-requires
index-at-requires g c = key_of_live c.self.inside.slab c.self.inside.linked c.args.slot
    ((is_listed c.self.inside.slab c.self.inside.linked c.self.invariant).live c.args.slot (rw (← c.self.view_is) at c.requires))

pub younger-requires-clause-listed : goal.younger-requires-clause-listed
younger-requires-clause-listed g c =
    let ok = c.self.invariant.stored in
    sym (holds_slot c.self.inside.slab c.self.inside.linked ok c.args.slot c.index-at.result.now (chain_of c.self.inside.linked)
    c.index-at.ensures (chain_live c.self.inside.slab c.self.inside.linked ok c.self.invariant.chained))
    ∙ (rw (← c.self.view_is) at c.requires)

pub slot-requires : goal.slot-requires
slot-requires g c =
    let s = c.self.inside.linked in
    let ok = c.self.invariant.stored in
    let listed : names c.index-at.result.now (chain_of s) ≡ true =
    sym (holds_slot c.self.inside.slab s ok c.args.slot c.index-at.result.now (chain_of s) c.index-at.ensures
    (chain_live c.self.inside.slab s ok c.self.invariant.chained)) ∙ (rw (← c.self.view_is) at c.requires) in
    live_from_data s c.younger.new.self c.in-Some.next (c.younger.ensures.data c.in-Some.next)
    (before_live c.self.inside.slab s c.self.invariant c.index-at.result.now c.in-Some.next listed c.in-Some.ensures.next)

pub returns-clause-next : goal.returns-clause-next
returns-clause-next g c front rest is =
    let s = c.self.inside.linked in
    let ok = c.self.invariant.stored in
    let found : each_in (slot_by (data_of s)) c.younger.result ≡ _ =
    slot_before c.self.inside.slab s ok (chain_of s) c.args.slot c.index-at.result.now front rest c.younger.result c.index-at.ensures
    (chain_live c.self.inside.slab s ok c.self.invariant.chained) (rw (← c.self.view_is) at is) c.younger.ensures.next in
    elim c.match-younger.branch [
      | in-Some w ↦
          w.result-is
          ∙ sym (ap Some (slot_or-of (data_of s w.in-Some.next) w.slot.result
          (ap slot_in (sym (c.younger.ensures.data w.in-Some.next)) ∙ w.slot.ensures)))
          ∙ ap (each_in (slot_by (data_of s))) (sym w.in-Some.is) ∙ found
      | in-None w ↦ w.result-is ∙ ap (each_in (slot_by (data_of s))) (sym w.in-None.is) ∙ found
    ]
