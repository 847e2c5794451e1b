use Rattle.fi_sync.proofs.wakes.owed.Owed.pay.Given as goal

abbrev pub decreases-loop-owed : goal.decreases-loop-owed
decreases-loop-owed g l = l.owed
