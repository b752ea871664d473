-- Policies by themselves, and the parts of their records.
use Rattle.std.specs.Prelude.{◌≡◌, ◌-◌, ◌<◌, ◌^◌, ℕ, List, ◌++◌, length, Option, IfSome}
use Rattle.std.specs.Str.{IsUtf8}
use Rattle.sql_types.specs.Name.{IsUtf8Name}
use Rattle.sql_ast.specs.declared.policy.Policy.{Policy}
use Rattle.sql_ast.specs.declared.policy.PolicyClause.{PolicyClause}
use Rattle.sql_lexer.specs.Lexeme.{Lexeme}
use Rattle.sql_lexer.specs.Slices.{text_between}
use Rattle.abstract_database.specs.Lists.{TheName}
use Rattle.expr_parser.specs.Written.{IsAsWritten}
use Rattle.stored_database.specs.Items.{IsStoredPolicy}
use Rattle.stored_database.specs.RecordFormat.{clause_bytes}

-- a text is the slice of itself from the first of these tokens to the last
abbrev pub SpansText : List ℕ → List Lexeme → Type 0
SpansText text ts = text_between text ts 0 (length ts - 1) ≡ text

-- the text of a condition
abbrev pub text_of : PolicyClause → List ℕ
text_of c = c.text

-- a condition that is what its text is read as; two bytes hold the length of the text
pub record IsStoredClause (c : PolicyClause) : Type 0 where
  pub written : IsAsWritten c
  pub utf8 : IsUtf8 c.text
  pub short : length c.text < 2 ^ 16

abbrev pub IsStoredClauseIfAny : Option PolicyClause → Type 0
IsStoredClauseIfAny clause = IfSome clause IsStoredClause

-- USING and WITH CHECK
abbrev pub clauses_bytes : Option PolicyClause × Option PolicyClause → List ℕ
clauses_bytes p = clause_bytes p.0 ++ clause_bytes p.1

pub record AreStoredClauses (p : Option PolicyClause × Option PolicyClause) : Type 0 where
  pub using : IsStoredClauseIfAny p.0
  pub check : IsStoredClauseIfAny p.1

-- the text of the condition is UTF-8
abbrev pub HasUtf8 : PolicyClause → Type 0
HasUtf8 c = IsUtf8 c.text

-- a policy of the table of this name, by itself
pub record IsPolicyAlone (table : TheName) (p : Policy) : Type 0 where
  pub name_read : IsUtf8Name p.name
  pub stored : IsStoredPolicy table p
  pub using_read : IfSome p.using HasUtf8
  pub check_read : IfSome p.check HasUtf8
