use Rattle.std.proofs.Common.{◌≡◌, ◌-◌, ◌<◌, ◌≤◌, ◌*◌, ◌^◌, length, take}
use Rattle.fi_scripts.specs.Labels.{code_of}
use Rattle.fi_scripts.proofs.FirstWords.{Characters}
use Rattle.fi_scripts.proofs.label.Label.first.Given as goal

abbrev pub invariant-loop-end : goal.invariant-loop-end
invariant-loop-end l = (l.code ≡ code_of (take l.end l.text)) × Characters l.text l.end × (l.code < 2 ^ (8 * l.end))
    × (l.end ≤ 16) × (l.end ≤ length l.text) × (0 < l.end)

abbrev pub decreases-loop-end : goal.decreases-loop-end
decreases-loop-end l = length l.text - l.end
