use Rattle.page_tree.proofs.cursor.+entry_below.Given as goal

abbrev pub decreases-entry_below : goal.decreases-entry_below
decreases-entry_below g l = l.levels
