use Rattle.std.proofs.Common.{◌≡◌, drop}
use Rattle.expressions.specs.Rows.{names_of}
use Rattle.key_ranges.specs.Bounds.{bound_among}
use Rattle.key_ranges.proofs.bounds.BoundSearch.bound_among.Given as goal

-- the conditions so far set no bound
abbrev pub invariant-loop-condition : goal.invariant-loop-condition
invariant-loop-condition l =
    bound_among l.self.kind l.self.column (names_of l.self.users.now) l.self.front.now l.conditions
    ≡ bound_among l.self.kind l.self.column (names_of l.self.users.now) l.self.front.now (drop l.condition-index l.conditions)
