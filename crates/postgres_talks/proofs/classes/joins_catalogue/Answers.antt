use Rattle.std.proofs.Common.{◌≡◌, ◌<◌, false, List, [], ◌∷◌, length, refl, arith}
use Rattle.sql_lexer.specs.declared.token.Token.{Token}
use Rattle.sql_lexer.specs.Lexeme.{Lexeme, lexeme, lexemes}
use Rattle.postgres_talks.specs.Pieces.{joins_catalogue}
use Rattle.postgres_talks.proofs.classes.joins_catalogue.Goals as goal

-- a name and a dot are two tokens
too_few : (t : Lexeme) (us : List Token) → length us < 2 → false ≡ joins_catalogue t (lexemes us)
too_few t [] few = refl
too_few t (u ∷ []) few = refl
too_few t (u ∷ v ∷ vs) few = absurd (omega arith)

pub returns-in_default : goal.returns-in_default
returns-in_default c = too_few (lexeme c.args.first.now) c.args.rest.now c.in_default.len_below
