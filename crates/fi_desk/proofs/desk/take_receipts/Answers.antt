use Rattle.std.proofs.Common.{arith, ⊎_elim, ◌≡◌, ◌+◌, ◌-◌, ◌<◌, length, drop, slice_index_or, subst, sym, ap, ◌∙◌}
use Rattle.std.proofs.lemmas.Grind.{common_steps}
use Rattle.std.proofs.lemmas.Bool.{cases_lt}
use Rattle.std.proofs.lemmas.Option.{get_or_from_slice_get, slice_get_within}
use Rattle.std.proofs.lemmas.List.{drop_all, get_or_default}
use Rattle.fi_desk.specs.Desk.{Matches, receipt_count}
use Rattle.fi_desk.specs.Journal.{receipt_of}
use Rattle.fi_desk.proofs.DeskLemmas.{nothing_taken, same_length, count_without, taken_at, missing_at}
use Rattle.fi_desk.proofs.desk.take_receipts.Goals as goal

pub loop-left-init : goal.loop-left-init
loop-left-init g c = record {
  bounded = grind arith;
  total = c.requires;
  taken = λ i. receipt_count c.args.seats.now + length c.args.history.now;
  matched = subst (λ entries. Matches c.args.opening (length c.args.history.now) entries 0 c.args.seats.now c.args.seats.now)
      (sym (drop_all (length c.args.history.now) c.args.history.now (omega arith)))
      (nothing_taken c.args.opening (length c.args.history.now) 0 c.args.seats.now);
  seated = λ k d from below. absurd (omega arith);
}

pub returns-then-entry-seats-clause-missing : goal.returns-then-entry-seats-clause-missing
returns-then-entry-seats-clause-missing g c =
    missing_at c.args.opening c.args.history.now c.loop-left.left (c.loop-left.left - 1) c.index-history-number.result c.args.seats.now
    c.loop-left.seats
    (grind (arith, common_steps)) c.loop-left.invariant.bounded (grind (arith, common_steps))
    (λ seat there.
    let within : c.index-history-number.result.seat < length c.loop-left.seats =
    slice_get_within c.loop-left.seats c.index-history-number.result.seat seat there in
    absurd (grind (arith, common_steps))) c.loop-left.invariant.matched

pub returns-then-not-take_last-clause-missing : goal.returns-then-not-take_last-clause-missing
returns-then-not-take_last-clause-missing g c =
    missing_at c.args.opening c.args.history.now c.loop-left.left (c.loop-left.left - 1) c.index-history-number.result c.args.seats.now
    c.loop-left.seats
    (grind (arith, common_steps)) c.loop-left.invariant.bounded (grind (arith, common_steps))
    (λ seat there earlier ends.
    c.take_last.ensures.missing c.if-not-take_last.true earlier
    (ap (λ s. s.receipts) (get_or_default c.loop-left.seats c.index-history-number.result.seat _ seat c.if-entry-seats.false
    ∙ get_or_from_slice_get c.loop-left.seats c.index-history-number.result.seat seat seat there) ∙ ends)) c.loop-left.invariant.matched

pub loop-left-preserved : goal.loop-left-preserved
loop-left-preserved g c = record {
  bounded = grind (arith, common_steps);
  total = grind (arith, common_steps);
  taken =
      let one_less = count_without c.loop-left.seats c.index-history-number.result.seat c.take_last.new.self
      (receipt_of c.args.opening (c.loop-left.left - 1) c.index-history-number.result) c.if-entry-seats.false
      (get_or_default c.loop-left.seats c.index-history-number.result.seat c.take_last.new.self _ c.if-entry-seats.false
      ∙ c.take_last.ensures.taken c.if-not-take_last.false) in
      grind (arith, common_steps, c.loop-left.invariant.taken);
  matched = taken_at c.args.opening c.args.history.now c.loop-left.left (c.loop-left.left - 1) c.index-history-number.result
      c.args.seats.now c.loop-left.seats
      c.take_last.new.self (grind (arith, common_steps)) c.loop-left.invariant.bounded (grind (arith, common_steps))
      (grind (arith, common_steps))
      (get_or_default c.loop-left.seats c.index-history-number.result.seat c.take_last.new.self _ c.if-entry-seats.false
      ∙ c.take_last.ensures.taken c.if-not-take_last.false) c.loop-left.invariant.matched;
  seated = λ k d from below. ⊎_elim
      (λ here.
      let is : k ≡ c.loop-left.left - 1 = omega arith in
      let at : slice_index_or c.args.history.now k d ≡ c.index-history-number.result =
      ap (λ n. slice_index_or c.args.history.now n d) is
      ∙ get_or_default c.args.history.now (c.loop-left.left - 1) d c.index-history-number.result
      (subst (λ n. n < length c.args.history.now) is below)
      ∙ sym c.index-history-number.is in
      subst (λ entry. entry.seat < length c.args.seats.now) (sym at)
      (subst (λ n. c.index-history-number.result.seat < n)
      (sym (same_length c.args.opening c.loop-left.left (drop c.loop-left.left c.args.history.now) 0 c.args.seats.now c.loop-left.seats
      c.loop-left.invariant.matched))
      c.if-entry-seats.false))
      (λ after. c.loop-left.invariant.seated k d after below)
      (cases_lt k c.loop-left.left);
}
