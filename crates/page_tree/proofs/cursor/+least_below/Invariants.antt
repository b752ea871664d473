use Rattle.page_tree.proofs.cursor.+least_below.Given as goal

abbrev pub decreases-least_below : goal.decreases-least_below
decreases-least_below g l = l.levels
