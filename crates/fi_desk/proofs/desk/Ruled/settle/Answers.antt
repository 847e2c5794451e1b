use Rattle.std.proofs.Common.{rules, arith, ◌≡◌, ◌+◌, List, [], length, subst, sym, ap, ◌∙◌}
use Rattle.std.specs.List.{All}
use Rattle.std.proofs.lemmas.Grind.{common_steps}
use Rattle.fi_desk.specs.declared.journal.Entry.{Entry}
use Rattle.fi_desk.specs.Desk.{SeatModel, AreNumbered, AreOf, Matches, receipt_count}
use Rattle.fi_desk.proofs.DeskLemmas.{all_taken, count_of_none, count_ordered}
use Rattle.fi_desk.proofs.desk.Ruled.settle.Goals as goal

pub returns-clause-settled : goal.returns-clause-settled
returns-clause-settled g c =
    let history : c.as_slice.result.now ≡ c.args.self.journal.history = c.as_slice.ensures.value ∙ c.settle-settled.ensures.history in
    let len : length c.as_mut_slice.result.now ≡ length c.args.seats.items =
    ap length c.as_mut_slice.ensures.value ∙ grind (arith, common_steps, c.put_in_order.ensures.len) in
    let left : c.as_mut_slice-2.result.now ≡ c.take_receipts.new.seats = grind (arith, common_steps) in
    let numbered : AreNumbered c.put_in_order.new.seats.items = c.put_in_order.ensures.numbered c.if-not-put_in_order.false in
    let matched : Matches c.args.self.journal.opening 0 c.args.self.journal.history 0 c.put_in_order.new.seats.items
    c.take_receipts.new.seats =
    subst (λ (seats : List (SeatModel g.row.P-Opening.Denot g.row.P-Call.Denot g.row.P-Answer.Denot)).
    Matches c.args.self.journal.opening 0 c.args.self.journal.history 0 seats c.take_receipts.new.seats) c.as_mut_slice.ensures.value
    (subst (λ (entries : List (Entry g.row.P-Call.Denot g.row.P-Answer.Denot)).
    Matches c.args.self.journal.opening 0 entries 0 c.as_mut_slice.result.now c.take_receipts.new.seats) history
    (subst (λ (opening : g.row.P-Opening.Denot). Matches opening 0 c.as_slice.result.now 0 c.as_mut_slice.result.now
    c.take_receipts.new.seats)
    c.settle-settled.ensures.opening c.in_ok-take_receipts.ensures.matched.0)) in
    record {
      ordered = c.put_in_order.new.seats.items;
      same = c.put_in_order.ensures.same;
      numbered = numbered;
      seated = subst (λ n. AreOf n c.args.self.journal.history) len
          (subst (λ (entries : List (Entry g.row.P-Call.Denot g.row.P-Answer.Denot)). AreOf (length c.as_mut_slice.result.now) entries)
          history
          c.in_ok-take_receipts.ensures.matched.1);
      receipts = all_taken c.args.self.journal.opening c.args.self.journal.history c.put_in_order.new.seats.items
          c.take_receipts.new.seats numbered matched
          (subst (λ (seats : List (SeatModel g.row.P-Opening.Denot g.row.P-Call.Denot g.row.P-Answer.Denot)). All
          (λ seat. seat.receipts ≡ []) seats) left
          c.show_all_empty.ensures.empty);
    }

pub returns-clause-counted : goal.returns-clause-counted
returns-clause-counted g c =
    let history : c.as_slice.result.now ≡ c.args.self.journal.history = c.as_slice.ensures.value ∙ c.settle-settled.ensures.history in
    let left : c.as_mut_slice-2.result.now ≡ c.take_receipts.new.seats = grind (arith, common_steps) in
    let none : receipt_count c.take_receipts.new.seats ≡ 0 =
    count_of_none c.take_receipts.new.seats (subst (λ (seats : List
    (SeatModel g.row.P-Opening.Denot g.row.P-Call.Denot g.row.P-Answer.Denot)).
    All (λ seat. seat.receipts ≡ []) seats) left c.show_all_empty.ensures.empty) in
    let entries : length c.as_slice.result.now ≡ length c.args.self.journal.history = ap length history in
    let taken : receipt_count c.as_mut_slice.result.now ≡ receipt_count c.take_receipts.new.seats + length c.as_slice.result.now =
    c.in_ok-take_receipts.ensures.taken in
    count_ordered c.args.seats.items c.put_in_order.new.seats.items c.put_in_order.ensures.same
    ∙ ap receipt_count (sym c.as_mut_slice.ensures.value) ∙ omega arith

pub returns-clause-all : goal.returns-clause-all
returns-clause-all g c = search rules

pub returns-clause-state : goal.returns-clause-state
returns-clause-state g c = search rules
