use Rattle.page_tree.proofs.check.+depth_below.Given as goal

abbrev pub decreases-depth_below : goal.decreases-depth_below
decreases-depth_below g l = l.levels
