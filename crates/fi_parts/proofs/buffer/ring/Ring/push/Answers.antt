use Rattle.std.proofs.Common.{◌∷◌, [], ◌++◌, length, arith, ap, ◌∙◌, Some, length-set}
use Rattle.fi_parts.proofs.Rings.{IsRing-pushed, IsRing-within}
use Rattle.fi_parts.proofs.buffer.ring.Ring.push.Goals as goal

pub invariant_of-self : goal.invariant_of-self
invariant_of-self g c =
    let r = c.self.inside in let counted = c.self.invariant.counted in let items =
    ap (λ b. length b.items) c.self.view_is in let capacity = ap (λ b. b.capacity) c.self.view_is in
    (IsRing-pushed r.slots.items r.start r.count c.len.result c.slot_behind-back.result c.args.item c.self.invariant
    (c.len.ensures ∙ r.slots.ok.0) c.slot_behind-back.ensures (omega (arith, c.requires))).0

pub returns-clause-pushed : goal.returns-clause-pushed
returns-clause-pushed g c =
    let r = c.self.inside in let counted = c.self.invariant.counted in let items =
    ap (λ b. length b.items) c.self.view_is in let capacity = ap (λ b. b.capacity) c.self.view_is in
    let made = IsRing-pushed r.slots.items r.start r.count c.len.result c.slot_behind-back.result c.args.item c.self.invariant
    (c.len.ensures ∙ r.slots.ok.0) c.slot_behind-back.ensures (omega (arith, c.requires)) in
    let as_items = made.1 ∙ ap (λ b. b.items ++ c.args.item ∷ []) c.self.view_is in
    let as_capacity = length-set r.slots.items c.slot_behind-back.result (Some c.args.item) ∙ capacity in
    λ k. record { items = as_items k; capacity = as_capacity k }

pub returns-clause-within : goal.returns-clause-within
returns-clause-within g c =
    let r = c.self.inside in let counted = c.self.invariant.counted in let items =
    ap (λ b. length b.items) c.self.view_is in let capacity = ap (λ b. b.capacity) c.self.view_is in
    IsRing-within _ _ _ (IsRing-pushed r.slots.items r.start r.count c.len.result c.slot_behind-back.result c.args.item c.self.invariant
    (c.len.ensures ∙ r.slots.ok.0) c.slot_behind-back.ensures (omega (arith, c.requires))).0
