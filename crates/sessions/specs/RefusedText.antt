-- A text that is no statement.
use Rattle.std.specs.Prelude.{◌≡◌, ℕ, List, [], ◌∷◌}
use Rattle.std.proofs.Common.{refl, arith}
use Rattle.sql_types.specs.declared.state.SqlState.TheVariants.{SyntaxError}
use Rattle.sql_lexer.specs.LexStep.{step}
use Rattle.sql_lexer.specs.Lexing.{refused}
use Rattle.sql_lexer.specs.declared.lex_step.LexStep.TheVariants.{Refused}
use Rattle.expr_parser.specs.Stages.{bad_token}
use Rattle.server.specs.LookUps.{RefusesAText}
use Rattle.sessions.specs.Readings.{ReadsText}

-- a dollar sign alone
abbrev pub dollar : List ℕ
dollar = 36 ∷ []

no_token : step dollar ≡ Refused SyntaxError
unfolding step
no_token = refl

pub refused_text : RefusesAText ReadsText
refused_text = record {
  text = dollar;
  short = omega arith;
  code = SyntaxError;
  refused = (λ same. cc, bad_token (omega arith) (refused (omega arith) no_token));
}
