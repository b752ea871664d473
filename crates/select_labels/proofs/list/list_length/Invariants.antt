use Rattle.std.proofs.Common.{◌≡◌, ◌+◌, ◌≤◌, length}
use Rattle.sql_lexer.specs.Lexeme.{lexemes}
use Rattle.select_labels.specs.Lists.{length_from}
use Rattle.select_labels.proofs.list.list_length.Given as goal

-- what was counted, and what is left
abbrev pub invariant-loop-rest : goal.invariant-loop-rest
invariant-loop-rest l = record {
  whole : length_from 0 (lexemes l.tokens) ≡ l.count + length_from l.depth (lexemes l.rest);
  place : l.count + length l.rest ≡ length l.tokens;
  shallow : l.depth ≤ l.count;
}

abbrev pub decreases-loop-rest : goal.decreases-loop-rest
decreases-loop-rest l = length l.rest
