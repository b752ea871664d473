use Rattle.std.proofs.Common.{◌≡◌, length}
use Rattle.sql_lexer.specs.Lexeme.{lexemes}
use Rattle.select_labels.specs.Sorting.{sorts_by, sorts_by_label}
use Rattle.select_labels.specs.Views.{viewed_labels}
use Rattle.select_labels.proofs.sorting.sorts_by_label.Given as goal

abbrev pub invariant-loop-rest : goal.invariant-loop-rest
invariant-loop-rest l = sorts_by_label (viewed_labels l.labels) (lexemes l.behind) ≡ sorts_by (viewed_labels l.labels) l.dotted (lexemes l.rest)

abbrev pub decreases-loop-rest : goal.decreases-loop-rest
decreases-loop-rest l = length l.rest
