-- The conditions of a policy are as written: each text, parsed by itself, is its tree, and it is trimmed.
use Rattle.std.proofs.Common.{ℕ, zero, suc, ◌-◌, ◌<◌, ◌≤◌, List, [], ◌∷◌, length, take, drop, Result, Ok, sym, subst, arith, length-drop}
use Rattle.std.specs.Prelude.{IfOk}
use Rattle.std.specs.List.{AllByRecursion}
use Rattle.sql_types.specs.declared.state.Refusal.{Refusal}
use Rattle.sql_lexer.specs.Lexeme.{Lexeme}
use Rattle.sql_lexer.specs.Lexing.{Lexes}
use Rattle.sql_lexer.specs.Parentheses.{OpensTooMany}
use Rattle.sql_lexer.specs.Slices.{start_at, end_at, text_between}
use Rattle.sql_lexer.proofs.Cutting.{slice_lexes}
use Rattle.sql_ast.specs.declared.policy.PolicyClause.{PolicyClause}
use Rattle.sql_ast.specs.declared.statement.Statement.{Statement}
use Rattle.sql_ast.specs.declared.statement.Statement.TheVariants as statement
use Rattle.sql_ast.specs.declared.statement.DatabaseStatement.TheVariants as on_database
use Rattle.sql_ast.specs.declared.statement.DefiningStatement.TheVariants as defining
use Rattle.sql_ast.specs.Expressions.{HoldsInClause}
use Rattle.sql_ast.specs.Statements.{clauses_read}
use Rattle.expr_parser.specs.Whole.{SpellsWhole, IsWithinDepth}
use Rattle.expr_parser.specs.Stages.{Answers, too_many, ill_formed, out_of_range, too_deep, parsed, no_memory, Parses, too_long, bad_token, by_tokens, memory_refused}
use Rattle.expr_parser.specs.Written.{IsAsWritten, IsTrimmed}
use Rattle.expr_parser.proofs.Descent.{within}
use Rattle.expr_parser.proofs.OneAnswer.{LexesOnce}
use Rattle.expr_parser.proofs.Readings.{spells_lt}
use Rattle.sql_commands.proofs.PolicyTexts.{IsSliced, both, all_sliced}
use Rattle.sql_parser.specs.Forms.{Means, IsStatementWithinDepth}
use Rattle.sql_parser.specs.Policies.{HasConditionsAsWritten}
use Rattle.sql_parser.proofs.Moves.{spelled_between}
use Rattle.sql_parser.proofs.OpenCounts.{no_more_between}
use Rattle.sql_parser.proofs.Trimming.{slice_trimmed}

shorter : (n : ℕ) (z : List ℕ) → length (take n z) ≤ length z
shorter zero z = omega arith
shorter (suc n) [] = omega arith
shorter (suc n) (x ∷ xs) = omega (arith, shorter n xs)

as_written : LexesOnce → {text : List ℕ} {ts : List Lexeme} {c : PolicyClause} → length text ≤ 65536 → Lexes text (Ok ts) → (OpensTooMany ts → ⊥) → IsSliced text ts c → IsWithinDepth c.expression → IsAsWritten c
as_written o {text} {ts} {c} le l few s d =
    let in_order : s.first ≤ s.last = omega (arith, spells_lt s.spelled) in
    let inside : s.last < length ts = omega (arith, within s.spelled) in
    let short : length (text_between text ts s.first s.last) ≤ 65536 = omega (arith, le, shorter (end_at ts s.last - start_at ts s.first) (drop (start_at ts s.first) text), length-drop (start_at ts s.first) text) in
    record {
      parsed =
          subst (λ z. Parses SpellsWhole IsWithinDepth z (Ok c.expression)) (sym s.text)
          (by_tokens short (slice_lexes text ts s.first s.last l in_order inside) (parsed (λ h. few (no_more_between ts s.first s.last h)) (spelled_between ts s.first s.last c.expression s.spelled) d));
      trimmed = subst IsTrimmed (sym s.text) (slice_trimmed o text ts s.first s.last l in_order inside);
    }

-- no condition of a statement that is not too deep is too deep
depths : (s : Statement) → IsStatementWithinDepth s → AllByRecursion (HoldsInClause IsWithinDepth) (clauses_read s)
depths (statement.OnDatabase (on_database.Defining (defining.CreatePolicy s))) h = both (HoldsInClause IsWithinDepth) s.using s.check h.0 h.1
depths _ h = tt

each : {P Q R : PolicyClause → Type 0} (cs : List PolicyClause) → ((c : PolicyClause) → P c → Q c → R c) → AllByRecursion P cs → AllByRecursion Q cs → AllByRecursion R cs
each [] f h g = tt
each (c ∷ cs) f h g = (f c h.0 g.0, each cs f h.1 g.1)

of_tokens : LexesOnce → {text : List ℕ} {ts : List Lexeme} {r : Result Statement Refusal} → length text ≤ 65536 → Lexes text (Ok ts) → Answers (Means text) IsStatementWithinDepth ts r → IfOk r HasConditionsAsWritten
of_tokens o le l (too_many h) = tt
of_tokens o le l (ill_formed h n m) = tt
of_tokens o le l (out_of_range h n m) = tt
of_tokens o le l (too_deep h m d) = tt
of_tokens o {text} {ts} le l (parsed {x} h m d) =
    each (clauses_read x) (λ c s e. as_written o le l h s e) (all_sliced text m.spelled.0 ts 0 m.spelled.1.end x m.spelled.1.spelled) (depths x d)
of_tokens o le l no_memory = tt

pub has_conditions_as_written : LexesOnce → {text : List ℕ} {r : Result Statement Refusal} → Parses (Means text) IsStatementWithinDepth text r → IfOk r HasConditionsAsWritten
has_conditions_as_written o (too_long h) = tt
has_conditions_as_written o (bad_token le l) = tt
has_conditions_as_written o (by_tokens le l a) = of_tokens o le l a
has_conditions_as_written o (memory_refused le) = tt
