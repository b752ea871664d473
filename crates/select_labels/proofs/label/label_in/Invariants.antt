use Rattle.std.proofs.Common.{◌≡◌, ◌+◌, ◌≤◌, length, take, drop}
use Rattle.sql_lexer.specs.Lexeme.{lexemes}
use Rattle.select_labels.specs.Labels.{label_from, label_in}
use Rattle.select_labels.proofs.label.label_in.Given as goal

abbrev pub invariant-loop-rest : goal.invariant-loop-rest
invariant-loop-rest l = record {
  whole : label_in (lexemes l.item) ≡ label_from l.depth (take l.count (lexemes l.item)) (lexemes l.rest);
  behind : lexemes l.rest ≡ drop l.count (lexemes l.item);
  place : l.count + length l.rest ≡ length l.item;
  shallow : l.depth ≤ l.count;
}

abbrev pub decreases-loop-rest : goal.decreases-loop-rest
decreases-loop-rest l = length l.rest
