-- Laws of the rows that SELECT shows.
use Rattle.std.specs.Prelude.{◌≡◌, ◌+◌, ◌*◌, ℕ, Bool, List, [], ◌∷◌, map, take, filter, length, slice_get, if◌then◌else◌, Option, Some, None, Result, Ok, Err}
use Rattle.std.specs.List.{list_all}
use Rattle.std.specs.List.Sorted.{IsPermutation, IsSorted}
use Rattle.std.specs.Ordering.{ordering_then, is_eq}
use Rattle.std.specs.declared.cmp.Ordering.{Ordering}
use Rattle.std.specs.declared.cmp.Ordering.TheVariants.{Equal}
use Rattle.sql_types.specs.Row.{Row}
use Rattle.sql_types.specs.Value.{order_of}
use Rattle.sql_types.specs.declared.state.SqlState.{SqlState}
use Rattle.sql_types.specs.declared.value.Value.{Value}
use Rattle.sql_types.specs.declared.value.Value.TheVariants.{Null}
use Rattle.sql_types.specs.declared.answer.Answer.{Answer}
use Rattle.sql_types.specs.declared.answer.Answer.TheVariants as answer
use Rattle.sql_ast.specs.declared.privilege.Action.TheVariants as action
use Rattle.sql_ast.specs.declared.statement.Select.{Select}
use Rattle.sql_ast.specs.declared.statement.SelectList.{SelectList}
use Rattle.sql_ast.specs.declared.statement.SelectList.TheVariants as list
use Rattle.sql_ast.specs.declared.statement.SortKey.{SortKey}
use Rattle.sql_ast.specs.Scope.{Table as ScopeTable}
use Rattle.expressions.specs.Outcome.{Outcome}
use Rattle.expressions.specs.Meaning.{UserNames}
use Rattle.expressions.specs.Stages.{◌>>=◌, each}
use Rattle.abstract_database.specs.Lists.{Among}
use Rattle.abstract_database.specs.Database.{TableOf, Database, definition_named}
use Rattle.abstract_database.specs.Expressions.{value_on}
use Rattle.abstract_database.specs.Queries.{tables_in, scope_of, Condition, conditions_of, keys_of, limit_of, is_descending, Combination, product, sorted, cut}
use Rattle.abstract_database.specs.Definitions.{with_rows_of}
use Rattle.abstract_database.specs.Checks.{find_definition}
use Rattle.abstract_database.specs.Statements.{Effect, effect, select}
use Rattle.database_laws.specs.Queries.{listed_of}
use Rattle.database_laws.specs.Tables.{EachTable, IsTyped}
use Rattle.database_laws.specs.Visible.{is_met, visible_rows, SameVisibleRows, NoGuardFails}

-- ---- the combinations that are chosen

-- whether each condition is true of a combination of rows, over the tables that it may name
abbrev pub meets_all : List ScopeTable → UserNames → List Condition → Combination → Bool
meets_all scope users conditions c = list_all (λ on. is_met (value_on (take on.tables scope) users c on.term)) conditions

-- of the product of the visible rows of each table, in its order, the combinations of which ON and WHERE are true
abbrev pub chosen : Database → UserNames → Select → List TableOf → List Combination
chosen db users s tables =
    filter (meets_all (scope_of (tables_in s.source) tables) users (conditions_of s.source)) (product (map (visible_rows db users) tables))

-- ---- their order

-- the value of a sort key on a combination: null where there is none
abbrev pub value_or_null : Outcome → Value
value_or_null (Ok v) = v
value_or_null (Err code) = Null

-- the first sort key that tells two combinations apart, for DESC the other way round
abbrev pub combination_cmp : List ScopeTable → UserNames → List SortKey → Combination → Combination → Ordering
combination_cmp scope users [] a b = Equal
combination_cmp scope users (key ∷ keys) a b =
    ordering_then (if is_descending key.direction then order_of (at b) (at a) else order_of (at a) (at b)) (combination_cmp scope users keys a b)
  where
    at : Combination → Value
    at c = value_or_null (value_on scope users c key.value)

-- the order that ORDER BY asks for
abbrev pub sort_cmp : UserNames → Select → List TableOf → Combination → Combination → Ordering
sort_cmp users s tables = combination_cmp (scope_of (tables_in s.source) tables) users (keys_of s.source)

-- LIMIT cuts the rows of a list; a count is of all combinations
abbrev pub limit_for : SelectList → Option ℕ → Option ℕ
limit_for list.Asterisk limit = limit
limit_for (list.Expressions terms) limit = limit
limit_for list.Count limit = None

-- the chosen combinations, sorted by the keys, and the first so many of them
abbrev pub shown : Database → UserNames → Select → List TableOf → List Combination
shown db users s tables = cut (limit_for s.list (limit_of s.source)) (sorted (sort_cmp users s tables) (chosen db users s tables))

-- ---- what SELECT shows

-- the effect of a SELECT: it shows what its list makes of these combinations, and changes nothing
pub record IsShown (db : Database) (users : UserNames) (s : Select) (e : Effect) : Type 0 where
  pub tables : List TableOf
  pub found : each (λ r. find_definition db r.table) (tables_in s.source) ≡ Ok tables
  pub rows : List Row
  pub listed : listed_of (scope_of (tables_in s.source) tables) users s.list (shown db users s tables) ≡ Ok rows
  pub is : e ≡ effect (answer.Rows rows) db

-- so hidden rows count neither in the product nor in the limit
abbrev pub shows_visible_rows : Type 0
shows_visible_rows = (db : Database) (users : UserNames) (s : Select) (e : Effect) → select db users s ≡ Ok e → IsShown db users s e

-- the elements of a list in order, and those that tie in the order that they had
pub record IsSortOf {X : Type 0} (cmp : X → X → Ordering) (xs ys : List X) : Type 0 where
  pub permutation : IsPermutation xs ys
  pub sorted : IsSorted cmp ys
  pub stable : (x : X) → Among x xs → filter (λ y. is_eq (cmp x y)) ys ≡ filter (λ y. is_eq (cmp x y)) xs

-- where the values of the database are of their columns' types, the chosen combinations are sorted by the keys
abbrev pub sorts_by_its_keys : Type 0
sorts_by_its_keys = (db : Database) (users : UserNames) (s : Select) (e : Effect) → EachTable IsTyped db → select db users s ≡ Ok e →
    (tables : List TableOf) → each (λ r. find_definition db r.table) (tables_in s.source) ≡ Ok tables →
    IsSortOf (sort_cmp users s tables) (chosen db users s tables) (sorted (sort_cmp users s tables) (chosen db users s tables))

-- ---- products

-- the product of rows with further tables: a combination for each row and each combination of the others, where the rows
-- of the first table vary slowest
pub record IsProduct (rows : List Row) (others combinations : List Combination) : Type 0 where
  pub many : length combinations ≡ length rows * length others
  pub placed : (i j : ℕ) (row : Row) (rest : Combination) → slice_get rows i ≡ Some row → slice_get others j ≡ Some rest →
      slice_get combinations (i * length others + j) ≡ Some (row ∷ rest)

abbrev pub products_are_in_order : Type 0
products_are_in_order = (product [] ≡ [] ∷ []) × ((rows : List Row) (tables : List (List Row)) → IsProduct rows (product tables) (product (rows ∷ tables)))

-- ---- hidden rows

abbrev pub answer_to : Result Effect SqlState → Result Answer SqlState
answer_to r = r >>= λ e. Ok e.answer

-- a SELECT has one answer over databases that agree in what its users may see, where no guard fails on a hidden row
abbrev pub hidden_rows_do_not_show : Type 0
hidden_rows_do_not_show = (users : UserNames) (d e : Database) (s : Select) → SameVisibleRows users d e →
    NoGuardFails action.Select users d → NoGuardFails action.Select users e → answer_to (select d users s) ≡ answer_to (select e users s)

-- a database agrees with the one in which a table's hidden rows are gone
abbrev pub hidden_rows_may_go : Type 0
hidden_rows_may_go = (users : UserNames) (db : Database) (t : TableOf) → definition_named db t.name ≡ Some t →
    SameVisibleRows users db (with_rows_of t.name (visible_rows db users t) db)
