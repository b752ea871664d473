use Rattle.std.proofs.Common.{◌≡◌, length}
use Rattle.std.specs.List.{list_any}
use Rattle.sql_lexer.specs.Lexeme.{lexemes}
use Rattle.select_labels.specs.Labels.{is_as}
use Rattle.select_labels.proofs.unlabelled.has_as.Given as goal

abbrev pub invariant-loop-tokens : goal.invariant-loop-tokens
invariant-loop-tokens l = list_any (λ t. is_as t.kind) (lexemes l.tokens) ≡ list_any (λ t. is_as t.kind) (lexemes l.initial.tokens)

abbrev pub decreases-loop-tokens : goal.decreases-loop-tokens
decreases-loop-tokens l = length l.tokens
