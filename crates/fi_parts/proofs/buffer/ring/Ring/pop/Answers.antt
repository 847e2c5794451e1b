use Rattle.std.proofs.Common.{◌≡◌, ◌∷◌, length, None, Some, arith, ap, sym, ◌∙◌}
use Rattle.std.proofs.lemmas.List.{get_or_read}
use Rattle.fi_parts.proofs.Rings.{IsRing-popped, IsRing-within, ring_oldest}
use Rattle.fi_parts.proofs.buffer.ring.Ring.pop.Goals as goal

pub unreachable-requires : goal.unreachable-requires
unreachable-requires g c =
    let r = c.self.inside in let counted = c.self.invariant.counted in let items = ap (λ b. length b.items) c.self.view_is in
    let oldest = ring_oldest r.slots.items r.start r.count c.self.invariant (omega (arith, c.requires)) in
    let read = get_or_read r.slots.items r.start c.index_mut.result.now oldest.4 c.index_mut.ensures.value None in
    let none : None ≡ Some oldest.0 = sym c.in-None.is ∙ c.take-oldest.ensures.value ∙ read ∙ oldest.3 in
    grind (arith, none)

pub invariant_of-self : goal.invariant_of-self
invariant_of-self g c =
    let r = c.self.inside in let counted = c.self.invariant.counted in let items = ap (λ b. length b.items) c.self.view_is in
    let oldest = ring_oldest r.slots.items r.start r.count c.self.invariant (omega (arith, c.requires)) in
    rw c.take-oldest.ensures.after (IsRing-popped r.slots.items r.start r.count c.len.result c.slot_behind-self-inside.result oldest.0
    oldest.1 c.self.invariant (c.len.ensures ∙ r.slots.ok.0) c.slot_behind-self-inside.ensures oldest.2).0

pub returns-clause-item : goal.returns-clause-item
returns-clause-item g c =
    let r = c.self.inside in let counted = c.self.invariant.counted in let items = ap (λ b. length b.items) c.self.view_is in
    let oldest = ring_oldest r.slots.items r.start r.count c.self.invariant (omega (arith, c.requires)) in
    let read = get_or_read r.slots.items r.start c.index_mut.result.now oldest.4 c.index_mut.ensures.value None in
    let taken : Some c.in-Some.item ≡ Some oldest.0 = sym c.in-Some.is ∙ c.take-oldest.ensures.value ∙ read ∙ oldest.3 in
    let same : oldest.0 ≡ c.in-Some.item = cc in
    let left = (IsRing-popped r.slots.items r.start r.count c.len.result c.slot_behind-self-inside.result oldest.0 oldest.1
    c.self.invariant (c.len.ensures ∙ r.slots.ok.0) c.slot_behind-self-inside.ensures oldest.2).1 in
    rw c.take-oldest.ensures.after (ap (λ b. b.items) (sym c.self.view_is) ∙ oldest.2 ∙ (λ k. same k ∷ sym left k))

pub returns-clause-within : goal.returns-clause-within
returns-clause-within g c =
    let r = c.self.inside in let counted = c.self.invariant.counted in let items = ap (λ b. length b.items) c.self.view_is in
    let oldest = ring_oldest r.slots.items r.start r.count c.self.invariant (omega (arith, c.requires)) in
    rw c.take-oldest.ensures.after (IsRing-within _ _ _ (IsRing-popped r.slots.items r.start r.count c.len.result
    c.slot_behind-self-inside.result oldest.0 oldest.1 c.self.invariant (c.len.ensures ∙ r.slots.ok.0)
    c.slot_behind-self-inside.ensures oldest.2).0)
