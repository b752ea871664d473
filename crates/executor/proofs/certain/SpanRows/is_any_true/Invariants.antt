use Rattle.std.proofs.Common.{drop}
use Rattle.expressions.specs.Rows.{names_of}
use Rattle.executor.specs.Certain.{IsAnyCertain}
use Rattle.executor.proofs.certain.SpanRows.is_any_true.Given as goal

-- where those that still come are, all are
abbrev pub invariant-loop-condition : goal.invariant-loop-condition
invariant-loop-condition l = IsAnyCertain l.self.known.now (names_of l.self.users.now) (drop l.condition-index l.conditions) → IsAnyCertain l.self.known.now (names_of l.self.users.now) l.conditions
