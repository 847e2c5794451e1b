use Rattle.std.proofs.Common.{Some, sym, ap, ◌∙◌}
use Rattle.fi_parts.proofs.WaitQueues.{entry_lives, seen-asks, its_asks}
use Rattle.fi_parts.proofs.wait_queue.WaitQueue.exchange.Goals as goal

pub swap_asks-requires : goal.swap_asks-requires
swap_asks-requires g c = entry_lives c.self.inside.list.live c.args.slot.0 (rw (← c.self.view_is) at c.requires)

pub returns : goal.returns
returns g c =
    let was = c.swap_asks.ensures in
    let list = c.self.inside.list in
    rw (← c.self.view_is) (record {
      asked = its_asks list c.args.slot.0 was.0 was.1 ∙ ap Some (sym was.2);
      rest = seen-asks list c.args.slot.0 c.args.asks was.0 _ was.1 was.3;
    })
