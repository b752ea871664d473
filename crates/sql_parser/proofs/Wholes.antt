-- What the tokens of a source mean.
use Rattle.std.proofs.Common.{◌≡◌, ℕ, List, subst}
use Rattle.sql_lexer.specs.Lexeme.{Lexeme}
use Rattle.sql_ast.specs.declared.statement.Statement.{Statement}
use Rattle.expr_parser.specs.Stages.{MeansNothing}
use Rattle.expr_parser.specs.declared.parse_error.ParseError.{ParseError}
use Rattle.sql_commands.specs.Statements.{SpellsStatement}
use Rattle.sql_commands.proofs.OneCommand.{one_statement}
use Rattle.sql_parser.specs.Forms.{IsWellFormed, Means}

pub one_spelled : {source : List ℕ} {ts : List Lexeme} {s y : Statement} → SpellsStatement source ts s → SpellsStatement source ts y → s ≡ y
one_spelled {source} {ts} {s} {y} a b = (one_statement source ts a.0 b.0 s y a.1 b.1).1

pub means_none : {source : List ℕ} {ts : List Lexeme} {e : ParseError} → MeansNothing (SpellsStatement source) ts e → MeansNothing (Means source) ts e
means_none r = record { never = λ p y m. r.never p y m.spelled }

pub means_one : {source : List ℕ} {ts : List Lexeme} {s : Statement} → SpellsStatement source ts s → IsWellFormed s → Means source ts s
means_one d f = record { spelled = d; well_formed = f }

pub means_unformed : {source : List ℕ} {ts : List Lexeme} {s : Statement} {e : ParseError} → SpellsStatement source ts s → (IsWellFormed s → ⊥) → MeansNothing (Means source) ts e
means_unformed d never = record { never = λ p y m. never (subst IsWellFormed (one_spelled m.spelled d) m.well_formed) }
