-- Short words for expressions, so that an example reads like a script.
use Rattle.std.specs.Prelude.{ℕ, pos, neg_ℤ, true, false, codes, replicate, Some, None}
use Prim.Native.String.{String}
use Rattle.sql_types.specs.declared.value.Value.TheVariants.{Null, Int, Text, Bool as Boolean}
use Rattle.sql_ast.specs.declared.expression.ColumnName.{ColumnName}
use Rattle.sql_ast.specs.declared.expression.Comparison.TheVariants as comparison
use Rattle.sql_ast.specs.declared.expression.Operation.TheVariants as operation
use Rattle.sql_ast.specs.Term as term
use Rattle.sql_ast.specs.Term.{Term}

abbrev pub E : Type 0
E = Term ColumnName

abbrev pub num : ℕ → E
num n = term.literal (Int (pos n))

abbrev pub below_zero : ℕ → E
below_zero n = term.literal (Int (neg_ℤ (pos n)))

abbrev pub str : String → E
str s = term.literal (Text (codes s))

-- a text of this many bytes
abbrev pub long_text : ℕ → E
long_text n = term.literal (Text (replicate n 120))

abbrev pub yes : E
yes = term.literal (Boolean true)

abbrev pub not_so : E
not_so = term.literal (Boolean false)

abbrev pub null : E
null = term.literal Null

abbrev pub col : String → E
col c = term.column (record { table = None; column = codes c })

abbrev pub col_of : String → String → E
col_of t c = term.column (record { table = Some (codes t); column = codes c })

abbrev pub eq : E → E → E
eq a b = term.comparison comparison.Equal a b

abbrev pub ne : E → E → E
ne a b = term.comparison comparison.NotEqual a b

abbrev pub lt : E → E → E
lt a b = term.comparison comparison.Less a b

abbrev pub le : E → E → E
le a b = term.comparison comparison.LessOrEqual a b

abbrev pub gt : E → E → E
gt a b = term.comparison comparison.Greater a b

abbrev pub ge : E → E → E
ge a b = term.comparison comparison.GreaterOrEqual a b

abbrev pub plus : E → E → E
plus a b = term.operation operation.Add a b

abbrev pub minus : E → E → E
minus a b = term.operation operation.Subtract a b

abbrev pub times : E → E → E
times a b = term.operation operation.Multiply a b

abbrev pub div : E → E → E
div a b = term.operation operation.Divide a b

abbrev pub rem : E → E → E
rem a b = term.operation operation.Remainder a b

-- the minus sign before an expression
abbrev pub negated : E → E
negated a = term.minus a

abbrev pub and_also : E → E → E
and_also a b = term.conjunction a b

abbrev pub either : E → E → E
either a b = term.disjunction a b

abbrev pub not_that : E → E
not_that a = term.negation a

abbrev pub is_null : E → E
is_null a = term.null_test a

abbrev pub is_not_null : E → E
is_not_null a = term.not_null_test a

abbrev pub member_of : E → E
member_of a = term.member_test a

abbrev pub me : E
me = term.current_user

abbrev pub my_login : E
my_login = term.session_user
