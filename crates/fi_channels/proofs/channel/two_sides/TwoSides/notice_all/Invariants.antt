use Rattle.std.proofs.Common.{◌≡◌, length}
use Rattle.fi_parts.specs.Noticed.{phase_after}
use Rattle.fi_parts.specs.Waiting.{IsOrdered}
use Rattle.fi_channels.specs.SideView.{notify}
use Rattle.fi_channels.proofs.channel.two_sides.TwoSides.notice_all.Given as goal

abbrev pub invariant-loop-slot : goal.invariant-loop-slot
invariant-loop-slot g l = record {
  all : notify g.S.OneSide.side (phase_after l.notice) l.self ≡ notify g.S.OneSide.side (phase_after l.notice) l.fn.self;
  ordered : IsOrdered (g.S.OneSide.side.waiters l.self) (g.S.OneSide.side.pairs_in l.self.out);
}

abbrev pub decreases-loop-slot : goal.decreases-loop-slot
decreases-loop-slot g l = length (g.S.OneSide.side.waiters l.self).queue
