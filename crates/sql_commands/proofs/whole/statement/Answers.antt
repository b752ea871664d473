use Rattle.sql_lexer.specs.Lexeme.{lexemes}
use Rattle.sql_commands.proofs.Wholes.{one_more, none_left}
use Rattle.sql_commands.proofs.whole.statement.Goals as goal

pub loop-command-preserved : goal.loop-command-preserved
loop-command-preserved c = one_more c.args.source.now (lexemes c.args.tokens.now) _ c.loop-command.command-index _ c.loop-command-test.true c.loop-command.invariant c.in-Err-Syntax.field-0-is c.in-Err-Syntax.ensures

pub returns : goal.returns
returns c = record { never = λ p. none_left c.args.source.now (lexemes c.args.tokens.now) c.loop-command.command-index c.loop-command-test.false c.loop-command.invariant }
