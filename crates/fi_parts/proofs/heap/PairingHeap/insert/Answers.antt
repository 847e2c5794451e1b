use Rattle.std.proofs.Common.{◌∙◌}
use Rattle.fi_parts.proofs.HeapNodes.{contains-members_of}
use Rattle.fi_parts.proofs.HeapViews.{members-inserted, live-same, live-under, free-under}
use Rattle.fi_parts.proofs.heap.PairingHeap.insert.Goals as goal

pub insert-requires-clause-live : goal.insert-requires-clause-live
insert-requires-clause-live g c = live-under c.self.inside.nodes c.args.slot.0 (rw (← c.self.view_is) at c.requires.live)

pub insert-requires-clause-apart : goal.insert-requires-clause-apart
insert-requires-clause-apart g c = free-under c.self.inside.nodes c.args.slot.0 (rw (← c.self.view_is) at c.requires.apart)

pub returns : goal.returns
returns g c = rw (← c.self.view_is) (record {
  member = contains-members_of c.insert.new.self c.args.slot.0 ∙ c.insert.ensures.put.here;
  members = members-inserted c.self.inside.nodes c.insert.new.self c.args.slot.0 c.insert.ensures.put;
  live = live-same c.self.inside.nodes c.insert.new.self c.insert.ensures.put.values;
})
