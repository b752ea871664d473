use Rattle.std.proofs.Common.{◌≤◌, ◌+◌, arith}
use Rattle.sql_lexer.specs.Lexeme.{lexemes, kind_at}
use Rattle.expr_parser.specs.Grammar.{chained}
use Rattle.expr_parser.specs.Precedence.{token_precedence, part_precedence}
use Rattle.expr_parser.proofs.AloneOperands.{leaf_alone}
use Rattle.expr_parser.proofs.alone.operand_alone_at.Goals as goal

pub returns-in-Some-2 : goal.returns-in-Some-2
returns-in-Some-2 c =
    let le : token_precedence (kind_at (lexemes c.args.tokens.now) (c.args.at + 1)) ≤ part_precedence (chained c.args.level) = omega (arith, c.precedence_at.ensures, c.precedence.ensures, c.if-precedence_at-precedence.true) in
    leaf_alone (lexemes c.args.tokens.now) c.args.at c.in-Some-2.tree c.args.level _ c.in_ok-tree.ensures.value c.in-Some-2.is le
