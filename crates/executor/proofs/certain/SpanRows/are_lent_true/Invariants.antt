use Rattle.std.proofs.Common.{drop}
use Rattle.expressions.specs.Rows.{names_of}
use Rattle.executor.specs.Certain.{AreLentCertain}
use Rattle.executor.proofs.certain.SpanRows.are_lent_true.Given as goal

-- where those that still come are, all are
abbrev pub invariant-loop-condition : goal.invariant-loop-condition
invariant-loop-condition l = AreLentCertain l.self.known.now (names_of l.self.users.now) (drop l.condition-index l.conditions) → AreLentCertain l.self.known.now (names_of l.self.users.now) l.conditions
