use Rattle.std.proofs.Common.{sym, ap, ◌∙◌}
use Rattle.std.specs.Option.{option_map}
use Rattle.fi_parts.specs.Seats.{unseated}
use Rattle.fi_parts.proofs.Seats.{get-unseated, unseated_in-map}
use Rattle.fi_parts.proofs.deadlines.Deadlines.future.Goals as goal

pub returns : goal.returns
returns g c =
    rw (← c.self.view_is)
    (ap (option_map unseated) c.future.ensures ∙ unseated_in-map _
    ∙ sym (get-unseated c.self.inside.waits.side.live c.args.slot.0))
