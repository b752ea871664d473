use Rattle.std.proofs.Common.{sym, subst}
use Rattle.sql_lexer.specs.Lexeme.{ArePlaced, lexemes}
use Rattle.select_labels.proofs.unlabelled.without_labels.Goals as goal

pub of_tokens-requires : goal.of_tokens-requires
of_tokens-requires c = subst (λ ts. ArePlaced c.args.text.now (lexemes ts)) (sym c.deref.ensures.value) (record { each = c.in-Ok.ensures.placed; in_order = c.in-Ok.ensures.in_order })
