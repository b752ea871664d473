-- Laws of the values of expressions: which columns they go by, and which failure is theirs.
use Rattle.std.specs.Prelude.{◌≡◌, Option, Some, None, Err}
use Rattle.sql_types.specs.declared.state.SqlState.{SqlState}
use Rattle.sql_types.specs.declared.value.Value.{Value}
use Rattle.sql_ast.specs.declared.scope.ColumnIndex.{ColumnIndex}
use Rattle.sql_ast.specs.Term.{Term, literal, column, current_user, session_user, comparison, operation, minus, conjunction, disjunction, negation, null_test, not_null_test, member_test}
use Rattle.expressions.specs.Meaning.{UserNames, value_of}
use Rattle.abstract_database.specs.Lists.{Among}
use Rattle.abstract_database.specs.Expressions.{columns_in}

-- an expression has one outcome on any rows that agree in the columns that it names
abbrev pub named_columns_decide : Type 0
named_columns_decide = (cell other : ColumnIndex → Value) (users : UserNames) (t : Term ColumnIndex) →
    ((c : ColumnIndex) → Among c (columns_in t) → cell c ≡ other c) → value_of cell users t ≡ value_of other users t

-- the operand of an operator that stands first in its text, of two the left one
abbrev pub first_operand : Term ColumnIndex → Option (Term ColumnIndex)
first_operand (literal v) = None
first_operand (column c) = None
first_operand current_user = None
first_operand session_user = None
first_operand (comparison op a b) = Some a
first_operand (operation op a b) = Some a
first_operand (minus a) = Some a
first_operand (conjunction a b) = Some a
first_operand (disjunction a b) = Some a
first_operand (negation a) = Some a
first_operand (null_test a) = Some a
first_operand (not_null_test a) = Some a
first_operand (member_test a) = Some a

-- where it fails, so does the whole, whatever comes after it
abbrev pub first_operands_fail_first : Type 0
first_operands_fail_first = (cell : ColumnIndex → Value) (users : UserNames) (t a : Term ColumnIndex) (code : SqlState) →
    first_operand t ≡ Some a → value_of cell users a ≡ Err code → value_of cell users t ≡ Err code
