use Rattle.std.proofs.Common.{sym, ◌∙◌}
use Rattle.std.proofs.lemmas.Bool.{iff_false}
use Rattle.sql_lexer.specs.Lexeme.{lexemes}
use Rattle.expr_parser.proofs.Primaries.{bare_read, qualified_read, other_name}
use Rattle.expr_parser.proofs.leaf.column_at.Goals as goal

pub returns-then-not-has : goal.returns-then-not-has
returns-then-not-has c =
    rw c.column.ensures (bare_read (lexemes c.args.tokens.now) c.args.at _ (sym c.in_ok-first.ensures.value ∙ c.in-Some.is) (λ d m f. iff_false c.has.ensures.value c.if-not-has.true d))

pub returns-in-Some-2 : goal.returns-in-Some-2
returns-in-Some-2 c =
    rw c.column-in-Some-2.ensures (qualified_read (lexemes c.args.tokens.now) c.args.at _ _ (sym c.in_ok-first.ensures.value ∙ c.in-Some.is) (c.has.ensures.value.0 c.if-not-has.false) (sym c.in_ok-second.ensures.value ∙ c.in-Some-2.is))

pub returns-in-None : goal.returns-in-None
returns-in-None c =
    rw c.column-in-None.ensures (bare_read (lexemes c.args.tokens.now) c.args.at _ (sym c.in_ok-first.ensures.value ∙ c.in-Some.is) (λ d m f. other_name (sym c.in_ok-second.ensures.value ∙ c.in-None.is) f))
