-- The stages of a SELECT over tables that were found.
use Rattle.std.proofs.Common.{◌≡◌, ◌⊎◌, ℕ, ◌≤◌, ◌<◌, nat_le, Bool, true, false, not, List, map, length, Result, Ok, Err, refl, sym, ap, ◌∙◌, inl, inr}
use Rattle.std.specs.List.{list_all}
use Rattle.std.proofs.lemmas.Bool.{lt-leb, le-leb}
use Rattle.std.proofs.lemmas.List.{length-map}
use Rattle.sql_types.specs.declared.state.Refusal.{Refusal}
use Rattle.sql_types.specs.declared.state.SqlState.TheVariants.{OutOfMemory, InsufficientPrivilege, ProgramLimitExceeded, DuplicateAlias}
use Rattle.sql_ast.specs.declared.statement.Select.{Select}
use Rattle.sql_ast.specs.declared.statement.TableReference.{TableReference}
use Rattle.expressions.specs.Stages.{◌>>=◌, require}
use Rattle.expressions.specs.Meaning.{UserNames}
use Rattle.sql_types.specs.Row.{Row}
use Rattle.sql_types.specs.declared.state.SqlState.{SqlState}
use Rattle.abstract_database.specs.Checks.{has_needed, checked_select}
use Rattle.abstract_database.specs.Database.{TableOf, Database}
use Rattle.abstract_database.specs.Lists.{TheName, Among, has_double}
use Rattle.abstract_database.specs.Needs.{needs_of_query}
use Rattle.abstract_database.proofs.ResultLemmas.{each_from}
use Rattle.abstract_database.specs.Queries.{BoundQuery, CheckedSelect, tables_in, name_in_scope, scope_of, bound_query}
use Rattle.stored_database.specs.Definitions.{TableDefinition, Definitions, database_with}
use Rattle.stored_database.specs.Valid.{AreValid, Describes}
use Rattle.planner.specs.declared.rights.Rights.{Rights}
use Rattle.planner.specs.declared.select.SelectPlan.{SelectPlan}
use Rattle.planner.specs.declared.select.CheckedQuery.{CheckedQuery}
use Rattle.gathering.specs.Queries.{bound_of}
use Rattle.planner.specs.Rights.{AreRightsOf}
use Rattle.planner.specs.Tables.{table_in, tables_for, definitions_in}
use Rattle.planner.specs.Selected.{checked_with, tables_of_plan, may_read_each, allowed_query, query_over, planned_select, IsSelectPlan, IsSelectRefusal}
use Rattle.planner.proofs.Checking.{definitions_found, own_table}
use Rattle.planner.proofs.Needing.{query_alike}
use Rattle.planner.proofs.Steps.{same_after}

-- the names of the tables are apart and the query is bound
pub bound_over : (r : Rights) (s : Select) (refs : List TableReference) (tables : List TableDefinition) (q : BoundQuery) → refs ≡ tables_in s.source →
    require (not (has_double (map name_in_scope refs))) DuplicateAlias ≡ Ok tt → bound_query (scope_of refs (definitions_in tables)) s.list s.source ≡ Ok q →
    query_over r s tables ≡ allowed_query r tables q
bound_over r s refs tables q e once bound =
    ap (λ x. require (not (has_double (map name_in_scope x))) DuplicateAlias >>= λ called_once. bound_query (scope_of x (definitions_in tables)) s.list s.source >>= λ query. allowed_query r tables query) (sym e)
    ∙ ap (λ x. x >>= λ called_once. bound_query (scope_of refs (definitions_in tables)) s.list s.source >>= λ query. allowed_query r tables query) once
    ∙ ap (λ x. x >>= λ query. allowed_query r tables query) bound

module _ (r : Rights) (tables : List TableDefinition) (q : BoundQuery) where
  abbrev whole : CheckedSelect
  whole = record { tables = definitions_in tables; query = q }

  pub not_allowed : may_read_each r q 0 tables ≡ false → allowed_query r tables q ≡ Err InsufficientPrivilege
  not_allowed e = ap (λ b. require b InsufficientPrivilege >>= λ allowed. require (nat_le (length tables) 4) ProgramLimitExceeded >>= λ few. Ok whole) e

  allowed_few : may_read_each r q 0 tables ≡ true → allowed_query r tables q ≡ (require (nat_le (length tables) 4) ProgramLimitExceeded >>= λ few. Ok whole)
  allowed_few e = ap (λ b. require b InsufficientPrivilege >>= λ allowed. require (nat_le (length tables) 4) ProgramLimitExceeded >>= λ few. Ok whole) e

  pub too_many : may_read_each r q 0 tables ≡ true → 4 < length tables → allowed_query r tables q ≡ Err ProgramLimitExceeded
  too_many e h = allowed_few e ∙ ap (λ b. require b ProgramLimitExceeded >>= λ few. Ok whole) (lt-leb (length tables) 4 h)

  pub allowed : may_read_each r q 0 tables ≡ true → length tables ≤ 4 → allowed_query r tables q ≡ Ok whole
  allowed e h = allowed_few e ∙ ap (λ b. require b ProgramLimitExceeded >>= λ few. Ok whole) (le-leb (length tables) 4 h)

-- ---- for each database

module _ (d : Definitions) (role : TheName) (r : Rights) (rights : AreRightsOf d role r) (rows : List (List Row)) (users : UserNames) (s : Select) (v : AreValid d) (is : users.current ≡ role) where
  abbrev refs : List TableReference
  refs = tables_in s.source

  abbrev from_query : Bool → ℕ → List TableOf → BoundQuery → Result CheckedSelect SqlState
  from_query so count tables query = require so InsufficientPrivilege >>= λ _. require (nat_le count 4) ProgramLimitExceeded >>= λ few. Ok (record { tables = tables; query = query })

  abbrev from_tables : List TableOf → Result CheckedSelect SqlState
  from_tables tables =
      require (not (has_double (map name_in_scope refs))) DuplicateAlias >>= λ called_once. bound_query (scope_of refs tables) s.list s.source >>= λ query.
      from_query (list_all (has_needed (database_with d rows) users) (needs_of_query tables query)) (length tables) tables query

  over_tables : (a : Result (List TableDefinition) SqlState) → tables_for d refs ≡ a → ((a >>= λ ts. Ok (definitions_in ts)) >>= from_tables) ≡ (a >>= query_over r s)
  over_tables (Err code) e = refl
  over_tables (Ok ts) e =
      let own : (t : TableDefinition) → Among t ts → table_in d t.definition.name ≡ Ok t =
      λ t k. let from = each_from (λ (x : TableReference). table_in d x.table) refs ts e t k in own_table d from.0.table t from.2 in
      ap (λ x. require (not (has_double (map name_in_scope refs))) DuplicateAlias >>= λ called_once. x)
      (same_after (bound_query (scope_of refs (definitions_in ts)) s.list s.source)
      (λ query. from_query (list_all (has_needed (database_with d rows) users) (needs_of_query (definitions_in ts) query)) (length (definitions_in ts)) (definitions_in ts) query)
      (λ query. allowed_query r ts query)
      (λ query. ap (λ so. from_query so (length (definitions_in ts)) (definitions_in ts) query) (query_alike d role r rights rows users v is query 0 ts own)
      ∙ ap (λ n. from_query (may_read_each r query 0 ts) n (definitions_in ts) query) (length-map ts (λ t. t.definition))))

  select_same : length rows ≡ length d.tables → checked_select (database_with d rows) users s ≡ planned_select d r s
  select_same e = ap (λ a. a >>= from_tables) (definitions_found d rows refs e) ∙ over_tables (tables_for d refs) refl

-- in each database of these definitions
selects : (d : Definitions) (role : TheName) (r : Rights) (s : Select) → AreRightsOf d role r → (db : Database) (users : UserNames) → Describes d db → users.current ≡ role →
    checked_select db users s ≡ planned_select d r s
selects d role r s rights db users h is = ap (λ x. checked_select x users s) h.is ∙ select_same d role r rights h.rows users s h.valid is h.each_table

module _ (d : Definitions) (role : TheName) (r : Rights) (s : Select) (rights : AreRightsOf d role r) where
  pub is_plan : (p : SelectPlan) (c : CheckedQuery) → planned_select d r s ≡ Ok (checked_with c) → tables_of_plan p ≡ map (λ t. t.now) c.tables → p.query ≡ c.query → IsSelectPlan d role s p
  is_plan p c e tables query db users h is =
      selects d role r s rights db users h is ∙ e
      ∙ sym (ap (λ ts. Ok (record { tables = definitions_in ts; query = bound_of p.query })) tables ∙ ap (λ q. Ok (record { tables = definitions_in (map (λ t. t.now) c.tables); query = bound_of q })) query)

  pub is_refusal : (refusal : Refusal) → (refusal.0 ≡ OutOfMemory) ⊎ (planned_select d r s ≡ Err refusal.0) → IsSelectRefusal d role s refusal
  is_refusal refusal (inl e) = inl e
  is_refusal refusal (inr e) = inr (λ db users h is. selects d role r s rights db users h is ∙ e)
