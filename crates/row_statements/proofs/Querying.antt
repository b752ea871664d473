-- SELECT, from its plan to its answer.
use Rattle.std.proofs.Common.{◌≡◌, ℕ, ◌+◌, true, List, [], ◌∷◌, map, find, Some, Result, Ok, Err, refl, ap, sym, ◌∙◌, subst, inl, inr}
use Rattle.std.specs.Prelude.{IfOk}
use Rattle.std.specs.List.{All}
use Rattle.std.proofs.lemmas.List.Elements.{All-head, All-tail}
use Rattle.sql_types.specs.Row.{Row}
use Rattle.sql_types.specs.declared.state.SqlState.{SqlState}
use Rattle.sql_types.specs.declared.answer.Answer.TheVariants as answer
use Rattle.sql_ast.specs.declared.privilege.Action.TheVariants as action
use Rattle.sql_ast.specs.declared.statement.RowStatement.TheVariants as over_rows
use Rattle.sql_ast.specs.declared.statement.TableReference.{TableReference}
use Rattle.store.specs.declared.fault.Fault.TheVariants.{Memory, Device, Damaged}
use Rattle.store.specs.Records.{Records, IsOrdered}
use Rattle.expressions.specs.Meaning.{UserNames}
use Rattle.expressions.specs.Types.{TypedTerm}
use Rattle.expressions.specs.Stages.{◌>>=◌}
use Rattle.abstract_database.specs.Lists.{Among}
use Rattle.abstract_database.specs.Database.{Database, rows_named}
use Rattle.abstract_database.specs.Guards.{Guard}
use Rattle.abstract_database.specs.Queries.{Source as QuerySource, query, tables_in}
use Rattle.abstract_database.specs.Whole.{Each}
use Rattle.abstract_database.specs.Statements.{Effect, effect, source_of as meant_source}
use Rattle.abstract_database.proofs.ResultLemmas.{each_from}
use Rattle.stored_database.specs.Definitions.{TableDefinition, Definitions}
use Rattle.stored_database.specs.Valid.{Describes}
use Rattle.stored_database.specs.Records.{Shows}
use Rattle.stored_database.proofs.Wholeness.{shown_described}
use Rattle.catalogue.specs.Lookups.{is_definition_named}
use Rattle.gathering.specs.Queries.{bound_of}
use Rattle.planner.specs.declared.plans.Plan.TheVariants as plan
use Rattle.planner.specs.declared.sources.Source.{Source}
use Rattle.planner.specs.declared.select.SelectPlan.{SelectPlan}
use Rattle.planner.specs.Fitting.{AreRowsOf}
use Rattle.planner.specs.Sources.{IsGuardedFrom}
use Rattle.planner.specs.Tables.{AreTablesOf, table_in, definitions_in}
use Rattle.planner.specs.Selected.{tables_of_plan}
use Rattle.planner.proofs.Checking.{found_inside}
use Rattle.planner.proofs.Fitting.{products}
use Rattle.store.specs.declared.stop.StatementError.{StatementError}
use Rattle.store.specs.declared.stop.StatementError.TheVariants.{Refused, Failed}
use Rattle.table_rows.specs.declared.target.Target.{Target}
use Rattle.table_rows.specs.Failures.{Answers}
use Rattle.table_rows.specs.Targets.{sees}
use Rattle.executor.specs.Selected.{sources_of, FindRowsOfEach, CombinationsFitQuery, AnswersRead}
use Rattle.catalogue.specs.Executed.{Executes}
use Rattle.row_statements.specs.Executed.{Performs, effect_by, answered}
use Rattle.row_statements.specs.Reading.{AnswersPlanned}
use Rattle.row_statements.proofs.Ranging.{AreOver, HoldTables, all_found, over, each_found, found_fit, same_answer}
use Rattle.row_statements.proofs.Afterwards.{own_name, of_table}
use Rattle.row_statements.proofs.Meanings.{held_there, sees_is}
use Rattle.row_statements.proofs.Targeting.{AreTargetsIn}

-- ---- the tables

-- the table is found under its name
abbrev IsFound : Definitions → TableDefinition → Type 0
IsFound d t = find (is_definition_named t.definition.name) d.tables ≡ Some t

found_each : (d : Definitions) (refs : List TableReference) (ts : List TableDefinition) → AreTablesOf d refs ts → Each (IsFound d) ts
found_each d refs ts are t h =
    let from = each_from (λ (r : TableReference). table_in d r.table) refs ts are.found t h in
    own_name d from.0.table t (record { found = found_inside (find (is_definition_named from.0.table) d.tables) t from.2; among = are.among t h })

-- the tables of sources
abbrev tables_of : List Source → List TableDefinition
tables_of sources = map (λ s. s.table.now) sources

-- a table of FROM as the definition has it
abbrev of_query_source : Guard → List Row → QuerySource
of_query_source guard rows = record { guard = guard; rows = rows }

-- the rows that the records hold of the tables are those of the database
record OfTables (records : Records) (db : Database) (users : UserNames) (sources : List Source) (targets : List Target) : Type 0 where
  pub lists : List (List Row)
  pub held : HoldTables records targets lists
  pub fit : AreRowsOf (tables_of sources) lists
  pub are : map (meant_source db users) (definitions_in (tables_of sources)) ≡ sources_of targets lists

module _ (records : Records) (d : Definitions) (db : Database) (users : UserNames) (shown : Shows records d db) (h : Describes d db) (conditions : List TypedTerm) where
  of_tables : (index : ℕ) (sources : List Source) (targets : List Target) → AreOver users conditions index sources targets → All (IsGuardedFrom d users.current action.Select true) sources
      → Each (IsFound d) (tables_of sources) → Each (λ (t : TableDefinition). Among t d.tables) (tables_of sources) → OfTables records db users sources targets
  of_tables index [] [] are guarded found among = record { lists = []; held = tt; fit = tt; are = refl }
  of_tables index [] (t ∷ targets) are guarded found among = absurd are
  of_tables index (s ∷ sources) [] are guarded found among = absurd are
  of_tables index (s ∷ sources) (t ∷ targets) are guarded found among =
      let table = s.table.now in
      let own = of_table records d db table shown (found table (inl refl)) in
      let rest = of_tables (index + 1) sources targets are.2 (All-tail (IsGuardedFrom d users.current action.Select true) s sources guarded) (λ x k. found x (inr k)) (λ x k. among x (inr k)) in
      let guard = All-head (IsGuardedFrom d users.current action.Select true) s sources guarded in
      let others = map (meant_source db users) (definitions_in (tables_of sources)) in
      record {
        lists = own.rows ∷ rest.lists;
        held = (held_there users s t are.0 records own.rows own.held, rest.held);
        fit = (own.held.fit, rest.fit);
        are = ap (λ (g : Guard). of_query_source g (rows_named db table.definition.name) ∷ others) (sees_is users s t are.0 d db h (among table (inl refl)) action.Select true guard.existing)
            ∙ ap (λ (rows : List Row). of_query_source (sees t) rows ∷ others) own.are
            ∙ ap (λ (more : List QuerySource). of_query_source (sees t) own.rows ∷ more) rest.are;
      }

-- ---- the answer

-- what is meant of a database where this is meant of a query
abbrev of_query : Database → Result (List Row) SqlState → Result Effect SqlState
of_query db answered = answered >>= λ rows. Ok (effect (answer.Rows rows) db)

-- the rows that are meant are the answer
select_done : (records : Records) (d : Definitions) (db : Database) (r : Result (List Row) StatementError) (rows : Result (List Row) SqlState) → Shows records d db → Answers r rows → Executes records d (effect_by answered r) (of_query db rows)
select_done records d db (Ok made) rows shown e = record { after = db; answered = ap (of_query db) e; leads = shown }
select_done records d db (Err (Refused code)) rows shown e = ap (of_query db) e
select_done records d db (Err (Failed Memory)) rows shown e = tt
select_done records d db (Err (Failed Device)) rows shown e = tt
select_done records d db (Err (Failed Damaged)) rows shown e = e

pub selects : (records : Records) (users : UserNames) (p : SelectPlan) (targets : List Target) (r : Result (List Row) StatementError) → IsOrdered records → AreTargetsIn users p targets
    → ((lists : List (List Row)) → FindRowsOfEach records targets lists → CombinationsFitQuery users p.query lists → Answers r (query (sources_of targets lists) users (bound_of p.query)))
    → Performs records users (plan.Select p) (effect_by answered r)
selects records users p targets r o are gives d db (over_rows.Select s) shown c read =
    let h = shown_described records d db shown in
    let tables = over users p.query.conditions 0 p.sources are.of_plan.ranged targets are.safe are.of_plan.targets_of in
    let own = of_tables records d db users shown h p.query.conditions 0 p.sources targets tables c.guards (found_each d (tables_in s.source) (tables_of_plan p) c.tables) c.tables.among in
    let found = all_found targets own.lists in
    let same : query (sources_of targets found) users (bound_of p.query) ≡ query (sources_of targets own.lists) users (bound_of p.query) =
    same_answer users p.query.conditions (bound_of p.query) refl records 0 [] p.sources targets own.lists refl tables own.held in
    subst (λ (ss : List QuerySource). Executes records d (effect_by answered r) (of_query db (query ss users (bound_of p.query)))) (sym own.are)
    (select_done records d db r (query (sources_of targets own.lists) users (bound_of p.query)) shown
    (subst (λ (m : Result (List Row) SqlState). Answers r m) same
    (gives found (each_found users p.query.conditions records o 0 p.sources targets own.lists tables own.held)
    (products d users.current s p users found c (found_fit users p.query.conditions 0 p.sources targets own.lists tables own.fit)))))
selects records users p targets r o are gives d db s shown c read = absurd c

-- what was read
pub answers_planned : (records : Records) (users : UserNames) (p : SelectPlan) (targets : List Target) (r : Result (List Row) StatementError) → AreTargetsIn users p targets → IfOk r (AnswersRead records targets users p.query)
    → IfOk (effect_by answered r) (λ effect. AnswersPlanned records users p effect.answer)
answers_planned records users p targets (Ok rows) are read = record { rows = rows; answered = refl; targets = targets; of_plan = are.of_plan; read = read }
answers_planned records users p targets (Err stop) are read = tt
