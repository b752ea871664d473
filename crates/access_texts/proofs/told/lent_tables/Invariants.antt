use Rattle.std.proofs.Common.{◌≡◌, ◌++◌, length, map}
use Rattle.access_texts.proofs.told.lent_tables.Given as goal

-- what was found, and what is left adds, are all
abbrev pub invariant-loop-rest : goal.invariant-loop-rest
invariant-loop-rest l = map (λ t. t.now) l.lent.items ++ l.rest ≡ l.tables

abbrev pub decreases-loop-rest : goal.decreases-loop-rest
decreases-loop-rest l = length l.rest
