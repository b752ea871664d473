use Rattle.std.proofs.Common.{◌≡◌, map, drop}
use Rattle.gathering.specs.Queries.{bound_of}
use Rattle.planner.specs.Selected.{may_read_each}
use Rattle.planner.proofs.select.may_read_each.Given as goal

-- the tables that are left
abbrev pub invariant-loop-number : goal.invariant-loop-number
invariant-loop-number l = may_read_each l.rights (bound_of l.query) 0 (map (λ t. t.now) l.tables) ≡ may_read_each l.rights (bound_of l.query) l.number (map (λ t. t.now) (drop l.number l.tables))
