use Rattle.std.proofs.Common.{List, sym, subst}
use Rattle.sql_lexer.specs.declared.token.Token.{Token}
use Rattle.sql_lexer.specs.Lexeme.{ArePlaced, lexemes}
use Rattle.postgres_talks.proofs.pieces.pieces_of.Goals as goal

pub pieces_or_empty-requires : goal.pieces_or_empty-requires
pieces_or_empty-requires c = subst (λ (ts : List Token). ArePlaced c.args.text.now (lexemes ts)) (sym c.deref.ensures.value) (record { each = c.in-Ok.ensures.placed; in_order = c.in-Ok.ensures.in_order })
