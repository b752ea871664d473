-- Whether tokens spell a statement, by what is read of them.
use Rattle.std.proofs.Common.{◌≡◌, ℕ, true, List, Result, Ok, Err, refl, subst, Bool, false}
use Rattle.std.specs.Prelude.{IfOk, is_ok}
use Rattle.std.proofs.lemmas.Bool.{false≢true}
use Rattle.sql_ast.specs.declared.statement.Statement.{Statement}
use Rattle.sql_lexer.specs.Lexeme.{Lexeme}
use Rattle.expr_parser.specs.declared.parse_error.ParseError.{ParseError}
use Rattle.expr_parser.specs.declared.parse_error.ParseError.TheVariants.{Syntax}
use Rattle.expr_parser.specs.Stages.{ReadsAll}
use Rattle.sql_commands.specs.Statements.{SpellsStatement}
use Rattle.sql_parser.specs.Places.{SpellSome}

some_spelled : (source : List ℕ) (ts : List Lexeme) (r : Result Statement ParseError) → ReadsAll (SpellsStatement source) ts r → is_ok r ≡ true → SpellSome source ts
some_spelled source ts (Ok s) m e = (s, m)
some_spelled source ts (Err e) m o = absurd (false≢true o)

none_spelled : (source : List ℕ) (ts : List Lexeme) (r : Result Statement ParseError) → ReadsAll (SpellsStatement source) ts r → r ≡ Err Syntax → SpellSome source ts → ⊥
none_spelled source ts r m e d = (subst (ReadsAll (SpellsStatement source) ts) e m).never refl d.0 d.1

pub found_spelled : {E : Type 0} (source : List ℕ) (ts : List Lexeme) (r : Result Statement ParseError) (o : Result Bool E) → ReadsAll (SpellsStatement source) ts r → IfOk o (λ found. found ≡ true → is_ok r ≡ true) → IfOk o (λ found. found ≡ true → SpellSome source ts)
found_spelled source ts r (Ok b) m h = λ e. some_spelled source ts r m (h e)
found_spelled source ts r (Err e) m h = tt

pub found_none : {E : Type 0} (source : List ℕ) (ts : List Lexeme) (r : Result Statement ParseError) (o : Result Bool E) → ReadsAll (SpellsStatement source) ts r → IfOk o (λ found. found ≡ false → r ≡ Err Syntax) → IfOk o (λ found. found ≡ false → SpellSome source ts → ⊥)
found_none source ts r (Ok b) m h = λ e. none_spelled source ts r m (h e)
found_none source ts r (Err e) m h = tt
