-- The first statements of a database, and its first sessions.
use Rattle.std.specs.Prelude.{Ok, [], codes, true, ◌∷◌}
use Rattle.sql_types.specs.declared.state.SqlState.TheVariants as state
use Rattle.sql_types.specs.declared.tag.Tag.TheVariants as tag
use Rattle.sql_types.specs.declared.value.Value.TheVariants.{Bool as Boolean, Null}
use Rattle.abstract_database.specs.Machine.{executes, opens}
use Rattle.database_examples.specs.Expressions.{col, ge, num, plus, str, yes}
use Rattle.database_examples.specs.Wording.{create_role, from_t, insert, insert_into, one, select_all, select_every, select_keys, select_values, update, where_is}
use Rattle.database_examples.specs.Lines.{AnswersFrom, Shows, a, a_misread, at_first, beginning, inserted, int, no_rows, numbers, ok, r, refused, rows, text, updated, ◌gives◌}

abbrev pub roles_open_sessions : Type 0
roles_open_sessions = AnswersFrom at_first beginning

-- a value for each column or fewer, and what is not given is null; rows of two lengths are refused as they are read
abbrev pub rows_come_back : Type 0
rows_come_back = Shows (
    a select_all gives no_rows
    ∷ a_misread state.SyntaxError gives refused state.SyntaxError
    ∷ a (insert ((num 1 ∷ num 5 ∷ yes ∷ str "it's" ∷ []) ∷ [])) gives inserted 1
    ∷ a (insert ((num 2 ∷ []) ∷ [])) gives inserted 1
    ∷ a (select_every (where_is (ge (col "k") (num 1)) from_t))
    gives rows ((int 1 ∷ int 5 ∷ Boolean true ∷ text "it's" ∷ []) ∷ (int 2 ∷ Null ∷ Null ∷ Null ∷ []) ∷ [])
    ∷ [])

-- keys are compared after the whole statement
abbrev pub keys_after_the_statement : Type 0
keys_after_the_statement = Shows (
    a (insert ((num 1 ∷ []) ∷ (num 2 ∷ []) ∷ (num 3 ∷ []) ∷ [])) gives inserted 3
    ∷ a (update "k" (plus (col "k") (num 1))) gives updated 3
    ∷ a select_keys gives numbers (2 ∷ 3 ∷ 4 ∷ [])
    ∷ a (insert ((num 5 ∷ []) ∷ (num 5 ∷ []) ∷ [])) gives refused state.UniqueViolation
    ∷ a (insert_into "x" (num 1)) gives refused state.NotNullViolation
    ∷ [])

abbrev pub sessions_by_number : Type 0
sessions_by_number = Shows (
    opens 1 (codes "root") gives refused state.ConnectionNameInUse
    ∷ executes 9 (Ok (select_values (one (num 1)))) gives refused state.ConnectionDoesNotExist
    ∷ r (create_role "nobody" []) gives ok tag.CreateRole
    ∷ opens 6 (codes "nobody") gives refused state.InvalidAuthorization
    ∷ [])
