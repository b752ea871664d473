use Rattle.std.proofs.Common.{length, refl}
use Rattle.sql_lexer.specs.Lexeme.{lexemes}
use Rattle.syntax_places.proofs.Searching.{boundary}
use Rattle.syntax_places.proofs.places.place_among.Goals as goal

pub returns-clause-within : goal.returns-clause-within
returns-clause-within c = (boundary c.args.text.now (lexemes c.args.tokens.now) c.in_ok-index.index (length c.args.text.now) _ c.requires.tokens.placed.each refl c.place_at.ensures).0
