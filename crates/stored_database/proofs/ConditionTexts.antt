-- The texts of conditions.
use Rattle.std.proofs.Common.{◌≡◌, ◌<◌, ◌≤◌, ◌-◌, ℕ, List, length, take, drop, Ok, ap, subst, arith}
use Rattle.std.proofs.lemmas.List.{length-take, length-drop}
use Rattle.sql_ast.specs.declared.expression.ColumnName.{ColumnName}
use Rattle.sql_ast.specs.declared.policy.PolicyClause.{PolicyClause}
use Rattle.sql_ast.specs.Term.{Term}
use Rattle.sql_lexer.specs.Lexeme.{Lexeme}
use Rattle.sql_lexer.specs.Lexing.{Lexes}
use Rattle.sql_lexer.specs.Slices.{start_at, end_at}
use Rattle.expr_parser.specs.Stages.{Parses}
use Rattle.expr_parser.specs.Whole.{SpellsWhole, IsWithinDepth}
use Rattle.expr_parser.specs.Written.{IsAsWritten}
use Rattle.stored_database.proofs.Policies.{OneExpression, clause_with}

pub one_condition : OneExpression → (a b : PolicyClause) → IsAsWritten a → IsAsWritten b → a.text ≡ b.text → a ≡ b
one_condition one a b p q h =
    both h (one b.text a.expression b.expression (subst (λ (z : List ℕ). Parses SpellsWhole IsWithinDepth z (Ok a.expression)) h p.parsed) q.parsed)
  where
    both : {t t' : List ℕ} {e e' : Term ColumnName} → t ≡ t' → e ≡ e' → clause_with t e ≡ clause_with t' e'
    both p q = cc

slice_whole : (text : List ℕ) (from to : ℕ) → take (to - from) (drop from text) ≡ text → 0 < length text → (from ≡ 0) × (length text ≤ to)
slice_whole text from to h some =
    let taken = length-take (to - from) (drop from text) in
    let dropped = length-drop from text in
    let whole = ap length h in
    (omega (arith, taken, dropped, whole, some), omega (arith, taken, dropped, whole, some))

pub tokens_around : (c : PolicyClause) (ts : List Lexeme) → IsAsWritten c → Lexes c.text (Ok ts) → 0 < length c.text → (start_at ts 0 ≡ 0) × (length c.text ≤ end_at ts (length ts - 1))
tokens_around c ts w lexes some = slice_whole c.text (start_at ts 0) (end_at ts (length ts - 1)) (w.trimmed ts lexes) some
