use Rattle.std.proofs.Common.{◌≡◌, length}
use Rattle.sql_lexer.specs.Lexeme.{lexemes}
use Rattle.select_labels.specs.Sorting.{behind_order}
use Rattle.select_labels.proofs.sorting.behind_order.Given as goal

abbrev pub invariant-loop-tokens : goal.invariant-loop-tokens
invariant-loop-tokens l = behind_order (lexemes l.tokens) ≡ behind_order (lexemes l.initial.tokens)

abbrev pub decreases-loop-tokens : goal.decreases-loop-tokens
decreases-loop-tokens l = length l.tokens
