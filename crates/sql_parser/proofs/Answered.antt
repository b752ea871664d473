-- What a text is answered may be read.
use Rattle.std.proofs.Common.{ℕ, List, Result, Ok, IsUtf8}
use Rattle.std.specs.Prelude.{IfOk}
use Rattle.sql_types.specs.declared.state.Refusal.{Refusal}
use Rattle.sql_lexer.specs.Lexeme.{Lexeme}
use Rattle.sql_lexer.specs.Lexing.{Lexes}
use Rattle.sql_lexer.proofs.Cutting.{in_order}
use Rattle.sql_lexer.proofs.Words.{readable}
use Rattle.sql_ast.specs.declared.statement.Statement.{Statement}
use Rattle.sql_ast.specs.Statements.{IsRead}
use Rattle.expr_parser.specs.Stages.{Answers, too_many, ill_formed, out_of_range, too_deep, parsed, no_memory, Parses, too_long, bad_token, by_tokens, memory_refused}
use Rattle.sql_commands.proofs.ReadStatements.{all_read}
use Rattle.sql_parser.specs.Forms.{Means, IsStatementWithinDepth}

of_tokens : {text : List ℕ} {ts : List Lexeme} {r : Result Statement Refusal} → IsUtf8 text → Lexes text (Ok ts) → Answers (Means text) IsStatementWithinDepth ts r → IfOk r IsRead
of_tokens u l (too_many h) = tt
of_tokens u l (ill_formed h n m) = tt
of_tokens u l (out_of_range h n m) = tt
of_tokens u l (too_deep h m d) = tt
of_tokens {text} {ts} u l (parsed {x} h m d) = all_read text m.spelled.0 ts 0 m.spelled.1.end x (readable text ts u l (in_order l)) m.spelled.1.spelled m.well_formed
of_tokens u l no_memory = tt

pub is_read : {text : List ℕ} {r : Result Statement Refusal} → IsUtf8 text → Parses (Means text) IsStatementWithinDepth text r → IfOk r IsRead
is_read u (too_long h) = tt
is_read u (bad_token le l) = tt
is_read u (by_tokens le l a) = of_tokens u l a
is_read u (memory_refused le) = tt
