use Rattle.std.proofs.Common.{◌≤◌, ◌+◌, sym, ◌∙◌, arith}
use Rattle.sql_lexer.specs.Lexeme.{lexemes, kind_at}
use Rattle.expr_parser.specs.Grammar.{chained}
use Rattle.expr_parser.specs.Precedence.{token_precedence, part_precedence}
use Rattle.expr_parser.proofs.AloneOperands.{comparison_alone}
use Rattle.expr_parser.proofs.alone.comparison_alone_at.Goals as goal

pub returns : goal.returns
returns c =
    let le : token_precedence (kind_at (lexemes c.args.tokens.now) (c.args.at + 3)) ≤ part_precedence (chained c.args.level) = omega (arith, c.precedence_at.ensures, c.precedence.ensures, c.if-precedence_at-precedence.false) in
    comparison_alone (lexemes c.args.tokens.now) c.args.at c.in-Some-3.left c.in-Some-2.right c.in_ok-tree.tree c.in-Some.operator c.args.level _ _ c.requires.level c.in_ok-left.ensures.value c.in-Some-3.is (sym c.comparer_at.ensures.value ∙ c.in-Some.is) c.in_ok-right.ensures.value c.in-Some-2.is c.in_ok-tree.ensures le
