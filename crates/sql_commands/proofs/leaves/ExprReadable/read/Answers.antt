use Rattle.std.proofs.Common.{subst}
use Rattle.sql_lexer.specs.Lexeme.{lexemes}
use Rattle.expr_parser.specs.Grammar.{ReadsLongest}
use Rattle.sql_grammar.proofs.Leaves.{expr_read}
use Rattle.sql_commands.proofs.leaves.ExprReadable.read.Goals as goal

pub returns-in-Some : goal.returns-in-Some
returns-in-Some c =
    let r = subst (ReadsLongest (lexemes c.args.tokens.now) c.args.at) c.in-Some.is c.in_ok-expr.ensures in
    expr_read r.0 r.1
