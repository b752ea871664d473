-- The columns that a plan answers are those of the checks that give it.
use Rattle.std.proofs.Common.{◌≡◌, ◌⊎◌, ℕ, zero, suc, List, [], ◌∷◌, map, length, Option, Some, Result, Ok, Err, refl, sym, ap, ◌∙◌, subst, inl, inr, arith}
use Rattle.std.specs.List.{AllByRecursion, slice_get}
use Rattle.std.specs.Option.{option_map}
use Rattle.std.proofs.lemmas.Option.{slice_get-map}
use Rattle.sql_types.specs.declared.state.Refusal.{Refusal}
use Rattle.sql_types.specs.declared.state.SqlState.{SqlState}
use Rattle.sql_types.specs.declared.state.SqlState.TheVariants.{OutOfMemory}
use Rattle.sql_ast.specs.declared.description.ResultColumn.{ResultColumn}
use Rattle.sql_ast.specs.declared.description.StatementDescription.{StatementDescription}
use Rattle.sql_ast.specs.declared.description.StatementDescription.TheVariants as told
use Rattle.sql_ast.specs.declared.scope.ColumnIndex.{ColumnIndex}
use Rattle.sql_ast.specs.declared.statement.RowStatement.{RowStatement}
use Rattle.sql_ast.specs.declared.statement.RowStatement.TheVariants as over_rows
use Rattle.sql_ast.specs.declared.statement.TableReference.{TableReference}
use Rattle.sql_ast.specs.Scope.{Table as ScopeTable, columns_of, type_at}
use Rattle.sql_ast.specs.Term.{Term, literal, column, current_user, session_user, comparison, operation, minus, conjunction, disjunction, negation, null_test, not_null_test, member_test}
use Rattle.expressions.specs.Types.{ValueType, TypedTerm, type_of}
use Rattle.expressions.specs.Meaning.{UserNames}
use Rattle.abstract_database.specs.Lists.{TheName}
use Rattle.abstract_database.specs.Database.{Database, TableOf}
use Rattle.abstract_database.specs.Descriptions.{described_or_refused, result_column, result_columns, result_name, type_or_text}
use Rattle.abstract_database.specs.Expressions.{called}
use Rattle.abstract_database.specs.Queries.{tables_in, scope_of}
use Rattle.abstract_database.specs.Statements.{checked_over_rows}
use Rattle.abstract_database.proofs.ResultLemmas.{length_each}
use Rattle.stored_database.specs.Definitions.{TableDefinition, Definitions}
use Rattle.stored_database.specs.Valid.{Describes}
use Rattle.gathering.specs.declared.query.OutputList.{OutputList}
use Rattle.gathering.specs.declared.query.OutputList.TheVariants.{Rows, Count}
use Rattle.gathering.specs.declared.query.RowList.TheVariants.{Columns, Values}
use Rattle.gathering.specs.Queries.{list_of, terms}
use Rattle.planner.specs.declared.select.SelectPlan.{SelectPlan}
use Rattle.planner.specs.declared.plans.Plan.{Plan}
use Rattle.planner.specs.declared.plans.Plan.TheVariants as plan
use Rattle.planner.specs.declared.sources.Source.{Source}
use Rattle.planner.specs.Bound.{HasOwnType, HasListTypes}
use Rattle.planner.specs.Plans.{HasRowsOfOneLength, checked_of, IsPlanOf, IsRefusalOf, Means}
use Rattle.planner.specs.ResultColumns.{tables_of_sources, scope_of_sources, column_among, value_column, list_columns, HasPlanTypes, DescribesPlan, IsDescribedBy}
use Rattle.planner.specs.Selected.{tables_of_plan}
use Rattle.planner.specs.Tables.{table_in, definitions_in}

-- ---- the names of tables do not count for types

types_alike : (f g : ColumnIndex → ValueType) → ((c : ColumnIndex) → f c ≡ g c) → (t : Term ColumnIndex) → type_of f t ≡ type_of g t
types_alike f g h (literal v) = refl
types_alike f g h (column c) = ap (λ (u : ValueType). Ok u) (h c)
types_alike f g h current_user = refl
types_alike f g h session_user = refl
types_alike f g h (comparison op a b) = cc (types_alike f g h a, types_alike f g h b)
types_alike f g h (operation op a b) = cc (types_alike f g h a, types_alike f g h b)
types_alike f g h (minus a) = cc (types_alike f g h a)
types_alike f g h (conjunction a b) = cc (types_alike f g h a, types_alike f g h b)
types_alike f g h (disjunction a b) = cc (types_alike f g h a, types_alike f g h b)
types_alike f g h (negation a) = cc (types_alike f g h a)
types_alike f g h (null_test a) = cc (types_alike f g h a)
types_alike f g h (not_null_test a) = cc (types_alike f g h a)
types_alike f g h (member_test a) = cc (types_alike f g h a)

one_less : (m n : ℕ) → suc m ≡ suc n → m ≡ n
one_less m n h = omega (arith, h)

columns_alike : (refs : List TableReference) (ts : List TableDefinition) → length ts ≡ length refs → (table index : ℕ) →
    type_at (scope_of refs (definitions_in ts)) (record { table = table; column = index }) ≡ type_at (map (λ t. called t.name t) (definitions_in ts)) (record { table = table; column = index })
columns_alike [] [] e table index = refl
columns_alike [] (t ∷ ts) e table index = cc
columns_alike (r ∷ refs) [] e table index = cc
columns_alike (r ∷ refs) (t ∷ ts) e zero index = refl
columns_alike (r ∷ refs) (t ∷ ts) e (suc table) index = columns_alike refs ts (one_less (length ts) (length refs) e) table index

all_so : {X : Type 0} (P Q : X → Type 0) → ((x : X) → P x → Q x) → (xs : List X) → AllByRecursion P xs → AllByRecursion Q xs
all_so P Q f [] h = tt
all_so P Q f (x ∷ xs) h = (f x h.0, all_so P Q f xs h.1)

list_types : (refs : List TableReference) (ts : List TableDefinition) → length ts ≡ length refs → (l : OutputList) →
    HasListTypes (scope_of refs (definitions_in ts)) l → HasListTypes (map (λ t. called t.name t) (definitions_in ts)) l
list_types refs ts e (Rows (Columns widths)) h = tt
list_types refs ts e (Rows (Values values)) h =
    let scope = scope_of refs (definitions_in ts) in
    let own = map (λ t. called t.name t) (definitions_in ts) in
    all_so (HasOwnType scope) (HasOwnType own)
    (λ u is. sym (types_alike (type_at scope) (type_at own) (λ c. columns_alike refs ts e c.table c.column) u.term) ∙ is) values h
list_types refs ts e Count h = tt

-- ---- columns

-- the column of an index in the table that was found
pub column_found : (sources : List Source) (i : ColumnIndex) (source : Source) → slice_get sources i.table ≡ Some source
    → slice_get source.table.now.definition.layout.columns i.column ≡ column_among (scope_of_sources sources) i
column_found sources i source found =
    sym (ap (λ (t : Option ScopeTable). slice_get (columns_of t) i.column)
    (slice_get-map (λ (t : TableOf). called t.name t) (tables_of_sources sources) i.table
    ∙ ap (option_map (λ (t : TableOf). called t.name t)) (slice_get-map (λ (t : TableDefinition). t.definition) (map (λ (s : Source). s.table.now) sources) i.table
    ∙ ap (option_map (λ (t : TableDefinition). t.definition)) (slice_get-map (λ (s : Source). s.table.now) sources i.table ∙ ap (option_map (λ (s : Source). s.table.now)) found))))

values_are : (tables : List ScopeTable) (values : List TypedTerm) → AllByRecursion (HasOwnType tables) values → map (value_column tables) values ≡ map (result_column tables) (terms values)
values_are tables [] h = refl
values_are tables (u ∷ us) h =
    ap (λ (r : Result ValueType _). record { name = result_name tables u.term; column_type = type_or_text r } ∷ map (value_column tables) us) (sym h.0)
    ∙ ap (λ cs. result_column tables u.term ∷ cs) (values_are tables us h.1)

pub columns_are : (sources : List Source) (l : OutputList) → HasListTypes (scope_of_sources sources) l → list_columns sources l ≡ result_columns (tables_of_sources sources) (list_of l)
columns_are sources (Rows (Columns widths)) h = refl
columns_are sources (Rows (Values values)) h = values_are (scope_of_sources sources) values h
columns_are sources Count h = refl

-- ---- plans

pub select_described : (all : Plan) (p : SelectPlan) (columns : List ResultColumn) → all ≡ plan.Select p → columns ≡ list_columns p.sources p.query.list → DescribesPlan all (told.Rows columns)
select_described all p columns is e =
    subst (λ (a : Plan). DescribesPlan a (told.Rows columns)) (sym is) (λ types. inr (ap (λ (cs : List ResultColumn). told.Rows cs) (e ∙ columns_are p.sources p.query.list types)))

plan_types : (d : Definitions) (current : TheName) (s : RowStatement) (p : Plan) → IsPlanOf d current s p → HasPlanTypes p
plan_types d current s (plan.Insert p) is = tt
plan_types d current s (plan.Update p) is = tt
plan_types d current s (plan.Delete p) is = tt
plan_types d current (over_rows.Insert s) (plan.Select p) is = absurd is
plan_types d current (over_rows.Update s) (plan.Select p) is = absurd is
plan_types d current (over_rows.Delete s) (plan.Select p) is = absurd is
plan_types d current (over_rows.Select s) (plan.Select p) is =
    let refs = tables_in s.source in
    let ts = tables_of_plan p in
    list_types refs ts (length_each (λ (r : TableReference). table_in d r.table) refs ts is.tables.found) p.query.list is.types.list

module _ (d : Definitions) (current : TheName) (s : RowStatement) where
  -- in each database of these definitions the checks come to this
  abbrev Comes : StatementDescription → Type 0
  Comes answer = (db : Database) (users : UserNames) → Describes d db → users.current ≡ current → answer ≡ described_or_refused (checked_over_rows db users s)

  pub planned : (p : Plan) (answer : StatementDescription) → IsPlanOf d current s p → Means d current s p → DescribesPlan p answer → IsDescribedBy d current s answer
  planned p answer is means describes one = go (describes (plan_types d current s p is)) where
    go : (answer ≡ told.Refused OutOfMemory) ⊎ (answer ≡ described_or_refused (Ok (checked_of p))) → (answer ≡ told.Refused OutOfMemory) ⊎ Comes answer
    go (inl e) = inl e
    go (inr e) = inr (λ db users h role. e ∙ ap described_or_refused (sym (means one db users h role)))

  pub refused : (refusal : Refusal) → IsRefusalOf d current s refusal → IsDescribedBy d current s (told.Refused refusal.0)
  refused refusal refuses one = go (refuses one) where
    go : (refusal.0 ≡ OutOfMemory) ⊎ ((db : Database) (users : UserNames) → Describes d db → users.current ≡ current → checked_over_rows db users s ≡ Err refusal.0)
        → (told.Refused refusal.0 ≡ told.Refused OutOfMemory) ⊎ Comes (told.Refused refusal.0)
    go (inl e) = inl (ap (λ (code : SqlState). told.Refused code) e)
    go (inr e) = inr (λ db users h role. ap described_or_refused (sym (e db users h role)))
