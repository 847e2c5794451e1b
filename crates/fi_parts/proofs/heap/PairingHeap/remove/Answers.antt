use Rattle.std.proofs.Common.{sym, ◌∙◌}
use Rattle.fi_parts.proofs.HeapNodes.{contains-members_of}
use Rattle.fi_parts.proofs.HeapViews.{members-removed, live-same}
use Rattle.fi_parts.proofs.heap.PairingHeap.remove.Goals as goal

pub remove-requires-clause-member : goal.remove-requires-clause-member
remove-requires-clause-member g c = sym (contains-members_of c.self.inside.nodes c.args.slot.0) ∙ rw (← c.self.view_is) at c.requires

pub returns : goal.returns
returns g c = rw (← c.self.view_is) (record {
  apart = contains-members_of c.remove.new.self c.args.slot.0 ∙ c.remove.ensures.taken.here;
  members = members-removed c.self.inside.nodes c.remove.new.self c.args.slot.0 c.remove.ensures.taken;
  live = live-same c.self.inside.nodes c.remove.new.self c.remove.ensures.taken.values;
})
