-- The expressions of a statement, and how they are bound: the names of all, then the types of all, each from the left.
use Rattle.std.specs.Prelude.{◌≡◌, ◌⊎◌, Bool, true, List, map, Option, Some, None, Result, Ok, Err}
use Rattle.std.specs.List.{zip, AllByRecursion}
use Rattle.sql_types.specs.declared.state.Refusal.{Refusal}
use Rattle.sql_types.specs.declared.state.SqlState.{SqlState}
use Rattle.sql_types.specs.declared.state.SqlState.TheVariants.{OutOfMemory, DatatypeMismatch}
use Rattle.sql_ast.specs.declared.expression.ColumnName.{ColumnName}
use Rattle.sql_ast.specs.declared.scope.ColumnIndex.{ColumnIndex}
use Rattle.sql_ast.specs.Scope.{Table, tables_of}
use Rattle.sql_ast.specs.Term.{Term}
use Rattle.expressions.specs.declared.parts.Part.{Part as LentPart}
use Rattle.expressions.specs.Names.{resolved, MeansTheSame}
use Rattle.expressions.specs.Stages.{◌>>=◌, require, each}
use Rattle.expressions.specs.Types.{ValueType, TypedTerm, fits, typed, names_then_types}

-- an expression with the tables whose columns it may name, and the type that is expected of it, if one is
pub record Part : Type 0 where
  pub scope : List Table
  pub term : Term ColumnName
  pub expected : ValueType

-- the part that one of the program is
abbrev pub part_of : LentPart → Part
part_of p = record { scope = tables_of p.scope; term = p.expression.now; expected = p.expected }

-- whether an expression of a type may stand where a type, or none, is expected
abbrev pub is_expected : ValueType → ValueType → Bool
is_expected None found = true
is_expected (Some type) found = fits type found

-- each column that the expressions name, in text order, is found once
abbrev pub resolve_parts : List Part → Result (List (Term ColumnIndex)) SqlState
resolve_parts parts = each (λ p. resolved p.scope p.term) parts

abbrev pub check_type : Part → Result (Unit {0}) SqlState
check_type p = do
  typed ← names_then_types p.scope p.term
  require (is_expected p.expected typed.value_type) DatatypeMismatch

-- each expression, from the left, has the type that is expected
abbrev pub check_expressions : List Part → Result (List (Unit {0})) SqlState
check_expressions parts = each check_type parts

-- an expression whose columns are resolved, with its type, which is the one that is expected
abbrev pub type_part : Part → Term ColumnIndex → Result TypedTerm SqlState
type_part p t = do
  u ← typed p.scope t
  fitting ← require (is_expected p.expected u.value_type) DatatypeMismatch
  Ok u

-- the parts pass both stages, and these are their expressions by indices, each with its type: on every row they mean what the parts do
pub record Binds (parts : List Part) (bound : List TypedTerm) : Type 0 where
  pub names : resolve_parts parts ≡ Ok (map (λ b. b.term) bound)
  pub types : check_expressions parts ≡ Ok (map (λ b. tt) bound)
  pub typed : each (λ p. names_then_types p.scope p.term) parts ≡ Ok bound
  pub means : AllByRecursion (λ p. MeansTheSame p.0.scope p.1.term p.0.term) (zip parts bound)

-- parts are bound, or memory was refused, or the stages refuse them in this way: the names of all parts before the types of any
abbrev pub IsBound : List Part → Result (List TypedTerm) Refusal → Type 0
IsBound parts (Ok bound) = Binds parts bound
IsBound parts (Err refusal) = (refusal.0 ≡ OutOfMemory) ⊎ ((resolve_parts parts >>= λ names. check_expressions parts) ≡ Err refusal.0)
