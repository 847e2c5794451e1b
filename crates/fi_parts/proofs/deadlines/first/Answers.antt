use Rattle.std.proofs.Common.{◌≡◌, Some, sym, ap, ◌∙◌, option_copied}
use Rattle.fi_parts.specs.HeapModel.{value_under}
use Rattle.fi_parts.proofs.FirstSeat.{no_later}
use Rattle.fi_parts.proofs.deadlines.first.Goals as goal

pub returns : goal.returns
returns c =
    let value : value_under c.args.heap.now c.in-Some.seat.0 ≡ Some c.unwrap.result.now = sym c.get.ensures ∙
    ap option_copied c.unwrap.ensures in
    let least = c.in-Some.ensures in
    record {
      member = least.member;
      value = value;
      least =
          λ other later at is. no_later later _ (least.none_less other _ later at value is);
    }
