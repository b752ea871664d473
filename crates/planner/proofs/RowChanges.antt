-- The stages of an UPDATE and of a DELETE, and the checks of each database.
use Rattle.std.proofs.Common.{◌≡◌, ◌⊎◌, ℕ, Bool, true, false, not, List, [], ◌++◌, map, option_to_list, length, Option, None, Some, Result, Ok, Err, refl, sym, ap, ◌∙◌, inl, inr}
use Rattle.std.proofs.lemmas.List.{length-map}
use Rattle.std.specs.List.{list_all}
use Rattle.sql_types.specs.Row.{Row}
use Rattle.sql_types.specs.declared.state.Refusal.{Refusal}
use Rattle.sql_types.specs.declared.state.SqlState.{SqlState}
use Rattle.sql_types.specs.declared.state.SqlState.TheVariants.{OutOfMemory, DuplicateColumn, InsufficientPrivilege}
use Rattle.sql_ast.specs.declared.expression.ColumnName.{ColumnName}
use Rattle.sql_ast.specs.declared.privilege.Action.{Action}
use Rattle.sql_ast.specs.declared.scope.ColumnIndex.{ColumnIndex}
use Rattle.sql_ast.specs.declared.statement.Assignment.{Assignment}
use Rattle.sql_ast.specs.Layout.{Layout}
use Rattle.sql_ast.specs.Term.{Term}
use Rattle.expressions.specs.Meaning.{UserNames}
use Rattle.expressions.specs.Names.{resolved}
use Rattle.expressions.specs.Parts.{Part, check_expressions}
use Rattle.expressions.specs.Stages.{◌>>=◌, each, require}
use Rattle.expressions.specs.Types.{TypedTerm}
use Rattle.abstract_database.specs.Lists.{TheName, optional, has_double}
use Rattle.abstract_database.specs.Database.{TableOf, Database}
use Rattle.abstract_database.specs.Expressions.{own_scope}
use Rattle.abstract_database.specs.Needs.{has_any, columns_read}
use Rattle.abstract_database.specs.Changes.{CheckedUpdate}
use Rattle.abstract_database.specs.Checks.{find_definition, has_needed, found_column, value_parts, condition_parts}
use Rattle.abstract_database.specs.Statements.{deletes, checked_over_rows}
use Rattle.abstract_database.proofs.ResultLemmas.{length_each}
use Rattle.stored_database.specs.Definitions.{TableDefinition, Definitions, database_with}
use Rattle.stored_database.specs.Valid.{AreValid, Describes}
use Rattle.planner.specs.declared.changes.BoundChanges.{BoundChanges}
use Rattle.planner.specs.declared.rights.Rights.{Rights}
use Rattle.planner.specs.declared.row_changes.ChangePlan.{ChangePlan}
use Rattle.planner.specs.declared.row_changes.ChangeStatement.{ChangeStatement}
use Rattle.planner.specs.declared.row_changes.ChangeStatement.TheVariants.{Update, Delete}
use Rattle.planner.specs.Answers.{IsGivenBy}
use Rattle.planner.specs.Changed.{Terms, values_of, where_of, terms_of, expressions_in, where_parts, change_parts, bound_changes}
use Rattle.planner.specs.Columns.{set_columns}
use Rattle.planner.specs.Plans.{HasRowsOfOneLength, IsChecked, IsCheckedChange}
use Rattle.planner.specs.Rights.{AreRightsOf, meets, needs_of_change}
use Rattle.planner.specs.RowChanges.{statement_of, table_of, action_of, assignments_of, condition_of, changes_of, without_values, checked_as, allowed_changes, changes_from}
use Rattle.planner.specs.Tables.{table_in}
use Rattle.planner.proofs.Checking.{definition_found, own_table}
use Rattle.planner.proofs.Needing.{change_alike}
use Rattle.planner.proofs.Steps.{in_one, same_after, two_wanted}

-- WHERE as a part
own_parts : (t : TableOf) (c : Option (Term ColumnName)) → condition_parts t c ≡ where_parts (own_scope t) c
own_parts t None = refl
own_parts t (Some c) = refl

-- ---- what is set

abbrev names_set : ChangeStatement → List TheName
names_set s = map (λ (a : Assignment). a.column) (assignments_of s)

abbrev values_set : ChangeStatement → List (Term ColumnName)
values_set s = map (λ (a : Assignment). a.value) (assignments_of s)

-- ---- the stages in a database

module _ (db : Database) (users : UserNames) (s : ChangeStatement) where
  abbrev with_values : Bool → TableOf → List ℕ → Terms → Result CheckedUpdate SqlState
  with_values allowed t columns b =
      require allowed InsufficientPrivilege >>= λ _.
      Ok (record { table = t; columns = columns; values = b.0; condition = b.1; reads = has_any (columns_read 0 (b.0 ++ option_to_list b.1)) })

  abbrev needed : TableOf → List ℕ → Terms → Bool
  needed t columns b = list_all (has_needed db users) (needs_of_change (action_of s) t columns b.0 b.1)

  abbrev with_columns : TableOf → List ℕ → Result CheckedUpdate SqlState
  with_columns t columns =
      each (resolved (own_scope t)) (values_set s) >>= λ values. optional (resolved (own_scope t)) (condition_of s) >>= λ condition.
      check_expressions (value_parts (own_scope t) t.layout columns (values_set s) ++ condition_parts t (condition_of s)) >>= λ typed.
      with_values (needed t columns (values, condition)) t columns (values, condition)

  abbrev staged : TableOf → Result CheckedUpdate SqlState
  staged t = require (not (has_double (names_set s))) DuplicateColumn >>= λ once. each (found_column t.layout) (names_set s) >>= λ columns. with_columns t columns

-- what is made of the last of some stages may be made of what comes of all
made_last : {Z U G X : Type 0} (r : Result Z SqlState) (u : U) (h : U → G) (p : G → X) → ((r >>= λ z. Ok (h u)) >>= λ k. Ok (p k)) ≡ ((r >>= λ z. Ok u) >>= λ k. Ok (p (h k)))
made_last (Ok z) u h p = refl
made_last (Err code) u h p = refl

made_of_all : {T A B Z U G X : Type 0} (found : Result T SqlState) (a : T → Result A SqlState) (b : T → Result B SqlState) (r : T → A → Result Z SqlState) (u : T → A → U) (h : U → G) (p : G → X) →
    ((found >>= λ t. a t >>= λ x. b t >>= λ y. r t x >>= λ z. Ok (h (u t x))) >>= λ k. Ok (p k)) ≡ ((found >>= λ t. a t >>= λ x. b t >>= λ y. r t x >>= λ z. Ok (u t x)) >>= λ k. Ok (p (h k)))
made_of_all (Err code) a b r u h p = refl
made_of_all {T} {A} {B} (Ok t) a b r u h p = go (a t) (b t) where
  go : (v : Result A SqlState) (w : Result B SqlState) → ((v >>= λ x. w >>= λ y. r t x >>= λ z. Ok (h (u t x))) >>= λ k. Ok (p k)) ≡ ((v >>= λ x. w >>= λ y. r t x >>= λ z. Ok (u t x)) >>= λ k. Ok (p (h k)))
  go (Ok x) (Ok y) = made_last (r t x) (u t x) h p
  go (Ok x) (Err code) = refl
  go (Err code) w = refl

as_staged : (db : Database) (users : UserNames) (s : ChangeStatement) → checked_over_rows db users (statement_of s) ≡ ((find_definition db (table_of s) >>= staged db users s) >>= λ u. Ok (checked_as s u))
as_staged db users (Update s) = refl
as_staged db users (Delete s) =
    made_of_all (find_definition db s.now.table) (λ t. optional (resolved (own_scope t)) s.now.condition) (λ t. check_expressions (condition_parts t s.now.condition))
    (λ t condition. require (needed db users (Delete s) t [] ([], condition)) InsufficientPrivilege) undone without_values deletes
  where
    undone : TableOf → Option (Term ColumnIndex) → CheckedUpdate
    undone t condition = record { table = t; columns = []; values = []; condition = condition; reads = has_any (columns_read 0 (option_to_list condition)) }

module _ (d : Definitions) (role : TheName) (r : Rights) (s : ChangeStatement) (rights : AreRightsOf d role r) where
  module _ (rows : List (List Row)) (users : UserNames) (v : AreValid d) (is : users.current ≡ role) where
    abbrev there : Database
    there = database_with d rows

    from_columns : (t : TableDefinition) → table_in d t.definition.name ≡ Ok t → (columns : List ℕ) →
        with_columns there users s t.definition columns ≡ (bound_changes (own_scope t.definition) t.definition.layout columns (values_set s) (condition_of s) >>= λ (b : Terms). allowed_changes r (action_of s) t columns b)
    from_columns t own columns =
        let scope = own_scope t.definition in
        let values = each (resolved scope) (values_set s) in
        let place = optional (resolved scope) (condition_of s) in
        ap (λ (ps : List Part). values >>= λ found. place >>= λ condition. check_expressions (value_parts scope t.definition.layout columns (values_set s) ++ ps) >>= λ typed.
        with_values there users s (needed there users s t.definition columns (found, condition)) t.definition columns (found, condition)) (own_parts t.definition (condition_of s))
        ∙ two_wanted values place (check_expressions (change_parts scope t.definition.layout columns (values_set s) (condition_of s)))
        (λ found condition. with_values there users s (needed there users s t.definition columns (found, condition)) t.definition columns (found, condition))
        ∙ same_after (bound_changes scope t.definition.layout columns (values_set s) (condition_of s)) (λ (b : Terms). with_values there users s (needed there users s t.definition columns b) t.definition columns b)
        (λ (b : Terms). allowed_changes r (action_of s) t columns b)
        (λ b. ap (λ allowed. with_values there users s allowed t.definition columns b) (change_alike d role r rights rows users v is t own (action_of s) columns b.0 b.1))

    from_table : (a : Result TableDefinition SqlState) → table_in d (table_of s) ≡ a → ((a >>= λ t. Ok t.definition) >>= staged there users s) ≡ (a >>= changes_from r s)
    from_table (Err code) e = refl
    from_table (Ok t) e =
        in_one (require (not (has_double (names_set s))) DuplicateColumn) (λ once. each (found_column t.definition.layout) (names_set s)) (λ columns. with_columns there users s t.definition columns)
        ∙ same_after (set_columns t.definition.layout (names_set s)) (λ columns. with_columns there users s t.definition columns)
        (λ columns. bound_changes (own_scope t.definition) t.definition.layout columns (values_set s) (condition_of s) >>= λ (b : Terms). allowed_changes r (action_of s) t columns b)
        (from_columns t (own_table d (table_of s) t e))

    changes_same : length rows ≡ length d.tables → checked_over_rows there users (statement_of s) ≡ (table_in d (table_of s) >>= λ t. changes_from r s t >>= λ u. Ok (checked_as s u))
    changes_same e =
        as_staged there users s
        ∙ ap (λ a. (a >>= staged there users s) >>= λ u. Ok (checked_as s u)) (definition_found d rows (table_of s) e)
        ∙ ap (λ a. a >>= λ u. Ok (checked_as s u)) (from_table (table_in d (table_of s)) refl)
        ∙ sym (in_one (table_in d (table_of s)) (changes_from r s) (λ u. Ok (checked_as s u)))

  pub changes : (db : Database) (users : UserNames) → Describes d db → users.current ≡ role → checked_over_rows db users (statement_of s) ≡ (table_in d (table_of s) >>= λ t. changes_from r s t >>= λ u. Ok (checked_as s u))
  changes db users h is = ap (λ x. checked_over_rows x users (statement_of s)) h.is ∙ changes_same h.rows users h.valid is h.each_table

-- the checks begin with the table
pub begins : (s : ChangeStatement) (db : Database) (users : UserNames) (code : SqlState) → find_definition db (table_of s) ≡ Err code → checked_over_rows db users (statement_of s) ≡ Err code
begins (Update s) db users code none = rw none
begins (Delete s) db users code none = rw none

-- the plan is one of the statement
pub is_change : (d : Definitions) (role : TheName) (s : ChangeStatement) (p : ChangePlan) →
    IsChecked (HasRowsOfOneLength (statement_of s) → IsGivenBy checked_over_rows d role (statement_of s) (checked_as s (changes_of p))) d role (table_of s) (action_of s) p.reads p.target p.roles → IsCheckedChange d role (statement_of s) p
is_change d role (Update s) p h = h
is_change d role (Delete s) p h = h

-- ---- the stages over the table that was found

-- as many columns are set as are named
as_many : (layout : Layout) (names : List TheName) (columns : List ℕ) (once : Bool) → (require once DuplicateColumn >>= λ u. each (found_column layout) names) ≡ Ok columns → length columns ≡ length names
as_many layout names columns true e = length_each (found_column layout) names columns e
as_many layout names columns false e = cc

module _ (r : Rights) (s : ChangeStatement) (t : TableDefinition) where
  abbrev the_changes : List ℕ → Result Terms SqlState
  the_changes columns = bound_changes (own_scope t.definition) t.definition.layout columns (values_set s) (condition_of s)

  abbrev the_columns : Result (List ℕ) SqlState
  the_columns = set_columns t.definition.layout (names_set s)

  abbrev after_columns : Result (List ℕ) SqlState → Result CheckedUpdate SqlState
  after_columns a = a >>= λ columns. the_changes columns >>= λ (b : Terms). allowed_changes r (action_of s) t columns b

  -- over this layout and these assignments, which are the table's and the statement's
  module _ (l : Layout) (own : l ≡ t.definition.layout) (items : List Assignment) (all : items ≡ assignments_of s) (condition : Option (Term ColumnName)) (own_condition : condition ≡ condition_of s) where
    columns_here : set_columns l (map (λ (a : Assignment). a.column) items) ≡ the_columns
    columns_here = ap (λ x. set_columns x (map (λ (a : Assignment). a.column) items)) own ∙ ap (λ xs. set_columns t.definition.layout (map (λ (a : Assignment). a.column) xs)) all

    pub columns_refused : (x : Refusal) → (x.0 ≡ OutOfMemory) ⊎ (set_columns l (map (λ (a : Assignment). a.column) items) ≡ Err x.0) → (x.0 ≡ OutOfMemory) ⊎ (changes_from r s t ≡ Err x.0)
    columns_refused x (inl e) = inl e
    columns_refused x (inr e) = inr (ap after_columns (sym columns_here ∙ e))

    module _ (columns : List ℕ) (made : set_columns l (map (λ (a : Assignment). a.column) items) ≡ Ok columns) where
      found : the_columns ≡ Ok columns
      found = sym columns_here ∙ made

      pub one_each : length columns ≡ length items
      one_each = as_many t.definition.layout (names_set s) columns (not (has_double (names_set s))) found ∙ length-map (assignments_of s) (λ a. a.column) ∙ ap length (sym all)

      module _ (set : List ℕ) (whole : set ≡ columns) where
        abbrev changes_here : Result Terms SqlState
        changes_here = bound_changes (own_scope t.definition) t.definition.layout set (map (λ (a : Assignment). a.value) items) condition

        same_changes : changes_here ≡ the_changes columns
        same_changes =
            ap (λ cs. bound_changes (own_scope t.definition) t.definition.layout cs (map (λ (a : Assignment). a.value) items) condition) whole
            ∙ ap (λ xs. bound_changes (own_scope t.definition) t.definition.layout columns (map (λ (a : Assignment). a.value) xs) condition) all
            ∙ ap (bound_changes (own_scope t.definition) t.definition.layout columns (values_set s)) own_condition

        to_changes : (a : Result Terms SqlState) → changes_here ≡ a → changes_from r s t ≡ (a >>= λ (b : Terms). allowed_changes r (action_of s) t columns b)
        to_changes a e = ap after_columns found ∙ ap (λ x. x >>= λ (b : Terms). allowed_changes r (action_of s) t columns b) (sym same_changes ∙ e)

        pub changes_refused : (x : Refusal) → (x.0 ≡ OutOfMemory) ⊎ (changes_here ≡ Err x.0) → (x.0 ≡ OutOfMemory) ⊎ (changes_from r s t ≡ Err x.0)
        changes_refused x (inl e) = inl e
        changes_refused x (inr e) = inr (to_changes (Err x.0) e)

        module _ (b : BoundChanges) (bound : changes_here ≡ Ok (terms_of b)) (values : List TypedTerm) (own_values : values ≡ b.values) where
          abbrev needed_here : Action → List ℕ → List TypedTerm → Bool
          needed_here act cs vs = list_all (meets r t) (needs_of_change act t.definition cs (values_of vs) (where_of b.condition))

          module _ (a : Action) (own_action : a ≡ action_of s) (may : Bool) (e : may ≡ needed_here a set values) where
            abbrev allowed : Bool → Result CheckedUpdate SqlState
            allowed so = require so InsufficientPrivilege >>= λ _. Ok (record { table = t.definition; columns = columns; values = values_of b.values; condition = where_of b.condition; reads = has_any (columns_read 0 (expressions_in b.values b.condition)) })

            to_rights : changes_from r s t ≡ allowed may
            to_rights = to_changes (Ok (terms_of b)) bound ∙ ap allowed (sym (e ∙ ap (λ x. needed_here x set values) own_action ∙ ap (λ cs. needed_here (action_of s) cs values) whole ∙ ap (needed_here (action_of s) columns) own_values))

            pub not_allowed : may ≡ false → changes_from r s t ≡ Err InsufficientPrivilege
            not_allowed nay = to_rights ∙ ap allowed nay

            pub passes : (reads : Bool) → may ≡ true → reads ≡ has_any (columns_read 0 (expressions_in values b.condition)) →
                changes_from r s t ≡ Ok (record { table = t.definition; columns = columns; values = values_of b.values; condition = where_of b.condition; reads = reads })
            passes reads so f =
                to_rights ∙ ap allowed so
                ∙ ap (λ x. Ok (record { table = t.definition; columns = columns; values = values_of b.values; condition = where_of b.condition; reads = x })) (sym (f ∙ ap (λ vs. has_any (columns_read 0 (expressions_in vs b.condition))) own_values))
