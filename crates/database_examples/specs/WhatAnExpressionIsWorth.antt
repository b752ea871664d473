-- What an expression is worth: truths, nulls, numbers, texts and types.
use Rattle.std.specs.Prelude.{[], false, true, ◌∷◌}
use Rattle.sql_types.specs.declared.state.SqlState.TheVariants as state
use Rattle.sql_types.specs.declared.value.Value.TheVariants.{Bool as Boolean, Null}
use Rattle.database_examples.specs.Expressions.{and_also, below_zero, col, div, either, eq, ge, gt, is_not_null, is_null, le, lt, me, minus, my_login, ne, negated, not_so, not_that, null, num, plus, rem, str, times, yes}
use Rattle.database_examples.specs.Wording.{delete_where, from_t, insert, one, p_of, pair, select, select_values, t_joined, update_where, where_is}
use Rattle.database_examples.specs.Lines.{Shows, a, a_misread, inserted, int, minus_int, no_rows, numbers, refused, rows, updated, ◌gives◌}

-- division truncates toward zero, a remainder has the dividend's sign, and what does not fit is refused
abbrev pub arithmetic : Type 0
arithmetic = Shows (
    a (select_values (one (div (below_zero 9223372036854775808) (below_zero 1))))
    gives refused state.NumericValueOutOfRange
    ∷ a (select_values (one (rem (below_zero 9223372036854775808) (below_zero 1)))) gives numbers (0 ∷ [])
    ∷ a (select_values (one (div (num 1) (num 0)))) gives refused state.DivisionByZero
    ∷ a (select_values (div (below_zero 7) (num 2) ∷ rem (below_zero 7) (num 2) ∷ []))
    gives rows ((minus_int 3 ∷ minus_int 1 ∷ []) ∷ [])
    ∷ a_misread state.NumericValueOutOfRange gives refused state.NumericValueOutOfRange
    ∷ [])

-- a null beside a zero divisor is null, and both operands are taken
abbrev pub nulls_in_arithmetic : Type 0
nulls_in_arithmetic = Shows (
    a (select_values (one (div null (num 0)))) gives rows ((Null ∷ []) ∷ [])
    ∷ a (select_values (one (plus null (div (num 1) (num 0))))) gives refused state.DivisionByZero
    ∷ a (select_values (one (plus (num 9223372036854775807) (num 1)))) gives refused state.NumericValueOutOfRange
    ∷ [])

-- AND and OR take their right side where the left one is null
abbrev pub null_does_not_decide : Type 0
null_does_not_decide = Shows (
    a (select_values (one (and_also not_so (gt (div (num 1) (num 0)) (num 1)))))
    gives rows ((Boolean false ∷ []) ∷ [])
    ∷ a (select_values (one (either yes (gt (div (num 1) (num 0)) (num 1))))) gives rows ((Boolean true ∷ []) ∷ [])
    ∷ a (select_values (one (and_also null (gt (div (num 1) (num 0)) (num 1))))) gives refused state.DivisionByZero
    ∷ a (select_values (and_also null not_so ∷ either null yes ∷ and_also null yes ∷ []))
    gives rows ((Boolean false ∷ Boolean true ∷ Null ∷ []) ∷ [])
    ∷ [])

-- AND is false beside a false operand, OR true beside a true one; else a null operand makes them null
abbrev pub three_truths : Type 0
three_truths = Shows (
    a (select_values (and_also yes yes ∷ and_also yes null ∷ and_also not_so null ∷ and_also null not_so ∷ and_also null null ∷ []))
    gives rows ((Boolean true ∷ Null ∷ Boolean false ∷ Boolean false ∷ Null ∷ []) ∷ [])
    ∷ a (select_values (either yes null ∷ either null yes ∷ either not_so null ∷ either not_so not_so ∷ either null null ∷ []))
    gives rows ((Boolean true ∷ Boolean true ∷ Null ∷ Boolean false ∷ Null ∷ []) ∷ [])
    ∷ a (select_values (not_that yes ∷ not_that not_so ∷ not_that null ∷ not_that (not_that yes) ∷ []))
    gives rows ((Boolean false ∷ Boolean true ∷ Null ∷ Boolean true ∷ []) ∷ [])
    ∷ [])

-- every other operator is null beside a null, and only IS NULL and IS NOT NULL never are
abbrev pub null_operands : Type 0
null_operands = Shows (
    a (select_values (eq (num 1) null ∷ ne null (str "a") ∷ lt yes null ∷ plus (num 1) null ∷ negated (plus (num 1) null) ∷ []))
    gives rows ((Null ∷ Null ∷ Null ∷ Null ∷ Null ∷ []) ∷ [])
    ∷ a (select_values (eq null null ∷ lt null null ∷ plus null null ∷ negated null ∷ []))
    gives rows ((Null ∷ Null ∷ Null ∷ Null ∷ []) ∷ [])
    ∷ a (select_values (is_null null ∷ is_null (num 1) ∷ is_not_null (num 1) ∷ is_null (eq (num 1) null) ∷ []))
    gives rows ((Boolean true ∷ Boolean false ∷ Boolean true ∷ Boolean true ∷ []) ∷ [])
    ∷ a (select_values (is_null (is_null null) ∷ not_that (is_null (num 1)) ∷ []))
    gives rows ((Boolean false ∷ Boolean true ∷ []) ∷ [])
    ∷ [])

-- a null operand does not save the other: both are evaluated but by AND and OR, and the failure is the answer
abbrev pub both_operands_are_evaluated : Type 0
both_operands_are_evaluated = Shows (
    a (insert (pair 1 0 ∷ [])) gives inserted 1
    ∷ a (select (one (col "k")) (where_is (eq (div (num 1) (col "x")) null) from_t))
    gives refused state.DivisionByZero
    ∷ a (select (one (col "k")) (where_is (lt null (div (num 1) (col "x"))) from_t))
    gives refused state.DivisionByZero
    ∷ a (select (one (is_null (eq (div (num 1) (col "x")) null))) from_t) gives refused state.DivisionByZero
    ∷ a (select_values (one (plus null (div (num 1) (num 0))))) gives refused state.DivisionByZero
    ∷ [])

-- AND and OR take their right side only where the left one does not decide
abbrev pub left_side_decides : Type 0
left_side_decides = Shows (
    a (insert ((num 1 ∷ num 0 ∷ yes ∷ []) ∷ (num 2 ∷ num 2 ∷ not_so ∷ []) ∷ [])) gives inserted 2
    ∷ a (select (one (col "k")) (where_is (and_also (ne (col "x") (num 0)) (eq (div (num 10) (col "x")) (num 5))) from_t))
    gives numbers (2 ∷ [])
    ∷ a (select (one (col "k")) (where_is (and_also (eq (div (num 10) (col "x")) (num 5)) (ne (col "x") (num 0))) from_t))
    gives refused state.DivisionByZero
    ∷ a (select (one (col "k")) (where_is (either (eq (col "x") (num 0)) (eq (div (num 10) (col "x")) (num 5))) from_t))
    gives numbers (1 ∷ 2 ∷ [])
    ∷ a (select (one (col "k")) (where_is (either (col "s") (gt (div (num 10) (col "x")) (num 100))) from_t))
    gives numbers (1 ∷ [])
    ∷ a (select_values (one (and_also (eq (div (num 1) (num 0)) (num 1)) not_so)))
    gives refused state.DivisionByZero
    ∷ [])

-- a sum, difference, product or negation outside 64 bits is refused, and the least number has no positive
abbrev pub numbers_have_64_bits : Type 0
numbers_have_64_bits = Shows (
    a (select_values (num 9223372036854775807 ∷ below_zero 9223372036854775808 ∷ []))
    gives rows ((int 9223372036854775807 ∷ minus_int 9223372036854775808 ∷ []) ∷ [])
    ∷ a (select_values (one (plus (num 9223372036854775807) (num 1))))
    gives refused state.NumericValueOutOfRange
    ∷ a (select_values (one (minus (below_zero 9223372036854775808) (num 1))))
    gives refused state.NumericValueOutOfRange
    ∷ a (select_values (one (minus (below_zero 9223372036854775807) (num 1))))
    gives rows ((minus_int 9223372036854775808 ∷ []) ∷ [])
    ∷ a (select_values (one (times (num 3037000500) (num 3037000500))))
    gives refused state.NumericValueOutOfRange
    ∷ a (select_values (one (times (num 3037000499) (num 3037000499)))) gives numbers (9223372030926249001 ∷ [])
    ∷ a (select_values (one (negated (below_zero 9223372036854775808))))
    gives refused state.NumericValueOutOfRange
    ∷ [])

-- a quotient is cut toward zero, and a remainder has the sign of the dividend
abbrev pub quotients_and_remainders : Type 0
quotients_and_remainders = Shows (
    a (select_values (div (num 7) (num 2) ∷ div (below_zero 7) (num 2) ∷ div (num 7) (below_zero 2) ∷ div (below_zero 7) (below_zero 2) ∷ []))
    gives rows ((int 3 ∷ minus_int 3 ∷ minus_int 3 ∷ int 3 ∷ []) ∷ [])
    ∷ a (select_values (rem (num 7) (num 3) ∷ rem (below_zero 7) (num 3) ∷ rem (num 7) (below_zero 3) ∷ rem (below_zero 7) (below_zero 3) ∷ rem (num 0) (num 5) ∷ []))
    gives rows ((int 1 ∷ minus_int 1 ∷ int 1 ∷ minus_int 1 ∷ int 0 ∷ []) ∷ [])
    ∷ a (select_values (one (rem (num 5) (num 0)))) gives refused state.DivisionByZero
    ∷ a (select_values (div null (num 0) ∷ rem null (num 0) ∷ [])) gives rows ((Null ∷ Null ∷ []) ∷ [])
    ∷ [])

-- texts are compared by their bytes, a text before those that go on, and nothing is folded or trimmed
abbrev pub comparisons_of_texts : Type 0
comparisons_of_texts = Shows (
    a (select_values (lt (str "a") (str "b") ∷ lt (str "a") (str "B") ∷ lt (str "Z") (str "a") ∷ lt (str "") (str "a") ∷ lt (str "a") (str "ab") ∷ eq (str "a ") (str "a") ∷ []))
    gives rows ((Boolean true ∷ Boolean false ∷ Boolean true ∷ Boolean true ∷ Boolean true ∷ Boolean false ∷ []) ∷ [])
    ∷ a (select_values (eq me (str "ann") ∷ eq me my_login ∷ ge (str "ann") me ∷ []))
    gives rows ((Boolean true ∷ Boolean true ∷ Boolean true ∷ []) ∷ [])
    ∷ [])

-- false is less than true
abbrev pub comparisons_of_booleans : Type 0
comparisons_of_booleans = Shows (
    a (select_values (lt not_so yes ∷ le yes not_so ∷ eq yes yes ∷ ne not_so yes ∷ gt yes not_so ∷ []))
    gives rows ((Boolean true ∷ Boolean false ∷ Boolean true ∷ Boolean true ∷ Boolean true ∷ []) ∷ [])
    ∷ [])

-- a comparison takes two operands of one type, arithmetic numbers, and AND, OR and NOT booleans
abbrev pub types_of_operands : Type 0
types_of_operands = Shows (
    a (select_values (one (plus (num 1) yes))) gives refused state.DatatypeMismatch
    ∷ a (select_values (one (eq (num 1) (str "a")))) gives refused state.DatatypeMismatch
    ∷ a (select_values (one (and_also yes (num 1)))) gives refused state.DatatypeMismatch
    ∷ a (select_values (one (not_that (str "a")))) gives refused state.DatatypeMismatch
    ∷ a (select_values (one (negated yes))) gives refused state.DatatypeMismatch
    ∷ a (select (one (eq (col "x") (col "s"))) from_t) gives refused state.DatatypeMismatch
    ∷ a (select_values (one (eq me (num 1)))) gives refused state.DatatypeMismatch
    ∷ a (select_values (eq null (num 1) ∷ and_also null yes ∷ plus null (num 1) ∷ []))
    gives rows ((Null ∷ Null ∷ Null ∷ []) ∷ [])
    ∷ [])

-- WHERE and ON take a boolean or the word NULL, whatever a null of another type would be
abbrev pub types_of_conditions : Type 0
types_of_conditions = Shows (
    a (insert ((num 1 ∷ null ∷ []) ∷ [])) gives inserted 1
    ∷ a (select (one (col "k")) (where_is (col "x") from_t)) gives refused state.DatatypeMismatch
    ∷ a (select (one (col "k")) (where_is null from_t)) gives no_rows
    ∷ a (select (one (p_of "k")) (t_joined (p_of "o")))
    gives refused state.DatatypeMismatch
    ∷ a (delete_where (num 1)) gives refused state.DatatypeMismatch
    ∷ a (update_where "x" (num 1) (col "s")) gives updated 0
    ∷ [])
