use Rattle.page_tree.proofs.changes.+change_below.Given as goal

abbrev pub decreases-change_below : goal.decreases-change_below
decreases-change_below g l = l.levels
