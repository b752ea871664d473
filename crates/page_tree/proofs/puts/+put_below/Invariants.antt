use Rattle.page_tree.proofs.puts.+put_below.Given as goal

abbrev pub decreases-put_below : goal.decreases-put_below
decreases-put_below g l = l.levels
