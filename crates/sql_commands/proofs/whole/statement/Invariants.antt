use Rattle.std.proofs.Common.{take}
use Rattle.std.specs.Prelude.{All}
use Rattle.sql_lexer.specs.Lexeme.{lexemes}
use Rattle.sql_commands.proofs.Wholes.{IsNotSpelled}
use Rattle.sql_commands.proofs.whole.statement.Given as goal

abbrev pub invariant-loop-command : goal.invariant-loop-command
invariant-loop-command l = All (IsNotSpelled l.fn.source (lexemes l.fn.tokens)) (take l.command-index l.command-items)
