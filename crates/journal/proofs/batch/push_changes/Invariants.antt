use Rattle.std.proofs.Common.{◌≡◌, ◌++◌, ℕ, List, take}
use Rattle.journal.specs.Changes.{changes_then}
use Rattle.journal.proofs.batch.push_changes.Given as goal

-- the changes before this one are written
abbrev pub invariant-loop-change : goal.invariant-loop-change
invariant-loop-change l = (rest : List ℕ) → l.out.items ++ rest ≡ l.fn.out.items ++ changes_then (take l.change-index l.changes) rest
