use Rattle.std.proofs.Common.{List, Ok, sym, subst}
use Rattle.sql_lexer.specs.Lexeme.{ArePlaced, lexemes}
use Rattle.sql_lexer.specs.Lexing.{Lexes}
use Rattle.sql_lexer.specs.declared.token.Token.{Token}
use Rattle.catalogue_loading.proofs.Written.{trimmed_where}
use Rattle.catalogue_loading.proofs.clauses.is_trimmed.Goals as goal

pub is_whole-requires : goal.is_whole-requires
is_whole-requires c =
    subst (λ (ts : List Token). ArePlaced c.args.text.now (lexemes ts)) (sym c.deref.ensures.value)
    (record { each = c.in-Ok.ensures.placed; in_order = c.in-Ok.ensures.in_order })

pub returns-clause-trimmed : goal.returns-clause-trimmed
returns-clause-trimmed c =
    let whole = c.is_whole.ensures in
    let tokens = c.deref.ensures.value in
    trimmed_where c.one_lexing.ensures c.args.text.now (lexemes c.deref.result.now) c.is_whole.result (subst (λ (ts : List Token). Lexes c.args.text.now (Ok (lexemes ts))) (sym tokens) c.in-Ok.ensures.tokens) whole
