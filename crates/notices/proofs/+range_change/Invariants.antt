use Rattle.notices.proofs.+range_change.Given as goal

abbrev pub decreases-range_change : goal.decreases-range_change
decreases-range_change l = l.left
