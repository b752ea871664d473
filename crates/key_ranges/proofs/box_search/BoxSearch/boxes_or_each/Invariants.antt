use Rattle.std.proofs.Common.{◌≡◌, drop}
use Rattle.expressions.specs.Rows.{names_of}
use Rattle.key_ranges.specs.BoxCode.{role_names}
use Rattle.key_ranges.specs.BoxLoops.{boxes_or_each}
use Rattle.key_ranges.proofs.box_search.BoxSearch.boxes_or_each.Given as goal

-- what is left to be added
abbrev pub invariant-loop-condition : goal.invariant-loop-condition
invariant-loop-condition l =
    boxes_or_each l.self.columns.now l.self.table (names_of l.self.users.now) (role_names l.self.users.now) l.self.front.now l.fn.first l.conditions
    ≡ boxes_or_each l.self.columns.now l.self.table (names_of l.self.users.now) (role_names l.self.users.now) l.self.front.now l.boxes (drop l.condition-index l.conditions)
