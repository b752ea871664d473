use Rattle.std.proofs.Common.{◌≡◌, take}
use Rattle.sql_lexer.specs.Lexeme.{lexemes}
use Rattle.select_labels.specs.Labels.{label_tokens}
use Rattle.select_labels.specs.Views.{viewed_labels}
use Rattle.select_labels.proofs.unlabelled.label_tokens.Given as goal

abbrev pub invariant-loop-label : goal.invariant-loop-label
invariant-loop-label l = lexemes l.tokens.items ≡ label_tokens (viewed_labels (take l.label-index l.labels))
