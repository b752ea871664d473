use Rattle.std.proofs.Common.{length}
use Rattle.sql_lexer.specs.Lexeme.{lexemes, kind_at}
use Rattle.sql_grammar.proofs.Leaves.{Choosing}
use Rattle.sql_grammar.proofs.word_of.find_word.Given as goal

abbrev pub invariant-loop-table : goal.invariant-loop-table
invariant-loop-table g l = Choosing l.initial.table l.table (kind_at (lexemes l.tokens) l.at)

abbrev pub decreases-loop-table : goal.decreases-loop-table
decreases-loop-table g l = length l.table
