-- The stages of an INSERT, and the checks of each database.
use Rattle.std.proofs.Common.{◌≡◌, ◌⊎◌, ℕ, Bool, true, false, not, List, [], ◌∷◌, suc, length, nat_le, unwrap_or, Option, None, Some, Result, Ok, Err, refl, sym, ap, ◌∙◌, subst, inl, inr, ◌<◌, ◌≤◌, arith, All}
use Rattle.std.specs.List.{list_all, range_with_len}
use Rattle.std.proofs.lemmas.Bool.{lt-leb, le-leb, eqb-true, and_parts}
use Rattle.std.proofs.lemmas.List.FromFn.{length-range_with_len}
use Rattle.sql_types.specs.Row.{Row}
use Rattle.sql_types.specs.declared.state.SqlState.{SqlState}
use Rattle.sql_types.specs.declared.state.SqlState.TheVariants.{OutOfMemory, DuplicateColumn, SyntaxError, InsufficientPrivilege, ProgramLimitExceeded}
use Rattle.sql_types.specs.declared.state.Refusal.{Refusal}
use Rattle.sql_ast.specs.declared.privilege.Action.TheVariants as action
use Rattle.sql_ast.specs.declared.expression.ColumnName.{ColumnName}
use Rattle.sql_ast.specs.declared.scope.ColumnIndex.{ColumnIndex}
use Rattle.sql_ast.specs.declared.statement.Insert.{Insert}
use Rattle.sql_ast.specs.Layout.{Layout}
use Rattle.sql_ast.specs.Read.{HaveOneLength}
use Rattle.sql_ast.specs.Term.{Term}
use Rattle.expressions.specs.Meaning.{UserNames}
use Rattle.expressions.specs.Names.{resolved}
use Rattle.expressions.specs.Parts.{check_expressions}
use Rattle.expressions.specs.Stages.{◌>>=◌, each, require}
use Rattle.abstract_database.specs.Lists.{TheName, has_double}
use Rattle.abstract_database.specs.Database.{TableOf, Database}
use Rattle.abstract_database.specs.Changes.{CheckedInsert}
use Rattle.abstract_database.specs.Needs.{needs_of_insert}
use Rattle.abstract_database.specs.Checks.{find_definition, has_needed, found_column, counts_fit, row_width, target_columns, insert_parts, checked_insert}
use Rattle.abstract_database.proofs.ResultLemmas.{ok_inside, bind_ok, require_ok, length_each}
use Rattle.stored_database.specs.Definitions.{TableDefinition, Definitions, database_with}
use Rattle.stored_database.specs.Valid.{AreValid, Describes}
use Rattle.planner.specs.declared.rights.Rights.{Rights}
use Rattle.planner.specs.Rights.{AreRightsOf, meets}
use Rattle.planner.specs.Tables.{table_in}
use Rattle.abstract_database.specs.Statements.{inserts as inserts_rows, checked_over_rows}
use Rattle.sql_ast.specs.declared.statement.RowStatement.TheVariants as over_rows
use Rattle.planner.specs.Columns.{insert_columns}
use Rattle.planner.specs.Inserted.{AreAsLong, bound_rows, insert_from, allowed_insert}
use Rattle.planner.proofs.Checking.{definition_found, own_table}
use Rattle.planner.proofs.Needing.{columns_or_one_alike}
use Rattle.planner.proofs.Steps.{in_one, same_after, one_wanted}

-- ---- how long the rows are

all_as_long : (n : ℕ) (rows : List (List (Term ColumnName))) (columns : List ℕ) → length columns ≡ n → All (λ (row : List (Term ColumnName)). length row ≡ n) rows → AreAsLong columns rows
all_as_long n [] columns e h = tt
all_as_long n (row ∷ rows) columns e h = (h 0 [] (omega arith) ∙ sym e, all_as_long n rows columns e (λ k d lt. h (suc k) d (omega (arith, lt))))

by_first : (rows : List (List (Term ColumnName))) (columns : List ℕ) → HaveOneLength rows → range_with_len 0 (row_width rows) ≡ columns → AreAsLong columns rows
by_first [] columns one e = tt
by_first (row ∷ rows) columns one e = all_as_long (length row) (row ∷ rows) columns (ap length (sym e) ∙ length-range_with_len 0 (length row)) (one row refl)

by_list : (layout : Layout) (names : List TheName) (rows : List (List (Term ColumnName))) (columns : List ℕ) → list_all (counts_fit layout (Some names)) rows ≡ true → length columns ≡ length names → AreAsLong columns rows
by_list layout names [] columns fit e = tt
by_list layout names (row ∷ rows) columns fit e =
    let here = and_parts (counts_fit layout (Some names) row) (list_all (counts_fit layout (Some names)) rows) fit in
    (eqb-true (length row) (length names) here.0 ∙ sym e, by_list layout names rows columns here.1 e)

as_long : (layout : Layout) (s : Insert) (columns : List ℕ) → HaveOneLength s.rows → list_all (counts_fit layout s.columns) s.rows ≡ true → target_columns layout s ≡ Ok columns → AreAsLong columns s.rows
as_long layout s columns one fit e = go s.columns refl where
  go : (list : Option (List TheName)) → s.columns ≡ list → AreAsLong columns s.rows
  go None same = by_first s.rows columns one (ok_inside (range_with_len 0 (row_width s.rows)) columns (rw same at e))
  go (Some names) same = by_list layout names s.rows columns (rw same at fit) (length_each (found_column layout) names columns (rw same at e))

columns_as_long : (layout : Layout) (s : Insert) (columns : List ℕ) → HaveOneLength s.rows → insert_columns layout s ≡ Ok columns → AreAsLong columns s.rows
columns_as_long layout s columns one e =
    let once = bind_ok (require (not (has_double (unwrap_or s.columns []))) DuplicateColumn) (λ once. require (list_all (counts_fit layout s.columns) s.rows) SyntaxError >>= λ counted. target_columns layout s) columns e in
    let fit = bind_ok (require (list_all (counts_fit layout s.columns) s.rows) SyntaxError) (λ counted. target_columns layout s) columns once.2 in
    as_long layout s columns one (require_ok (list_all (counts_fit layout s.columns) s.rows) SyntaxError fit.0 fit.1) fit.2

-- ---- INSERT

module _ (d : Definitions) (role : TheName) (r : Rights) (s : Insert) (rights : AreRightsOf d role r) where
  module _ (rows : List (List Row)) (users : UserNames) (v : AreValid d) (is : users.current ≡ role) where
    abbrev with_rows : Bool → TableOf → List ℕ → List (List (Term ColumnIndex)) → Result CheckedInsert SqlState
    with_rows allowed t columns terms =
        require allowed InsufficientPrivilege >>= λ _. require (nat_le (length s.rows) 256) ProgramLimitExceeded >>= λ few.
        Ok (record { table = t; columns = columns; rows = terms })

    abbrev needed : TableOf → List ℕ → Bool
    needed t columns = list_all (has_needed (database_with d rows) users) (needs_of_insert t columns)

    abbrev with_columns : TableOf → List ℕ → Result CheckedInsert SqlState
    with_columns t columns = each (each (resolved [])) s.rows >>= λ terms. check_expressions (insert_parts t.layout columns s.rows) >>= λ typed. with_rows (needed t columns) t columns terms

    abbrev staged : TableOf → Result CheckedInsert SqlState
    staged t =
        require (not (has_double (unwrap_or s.columns []))) DuplicateColumn >>= λ once. require (list_all (counts_fit t.layout s.columns) s.rows) SyntaxError >>= λ counted.
        target_columns t.layout s >>= λ columns. with_columns t columns

    from_columns : (t : TableDefinition) → table_in d t.definition.name ≡ Ok t → (columns : List ℕ) →
        with_columns t.definition columns ≡ (bound_rows [] t.definition.layout columns s.rows >>= λ terms. allowed_insert r s t columns terms)
    from_columns t own columns =
        ap (λ allowed. each (each (resolved [])) s.rows >>= λ terms. check_expressions (insert_parts t.definition.layout columns s.rows) >>= λ typed. with_rows allowed t.definition columns terms)
        (columns_or_one_alike d role r rights rows users v is t own action.Insert columns)
        ∙ one_wanted (each (each (resolved [])) s.rows) (check_expressions (insert_parts t.definition.layout columns s.rows)) (λ terms. allowed_insert r s t columns terms)

    from_table : (a : Result TableDefinition SqlState) → table_in d s.table ≡ a → ((a >>= λ t. Ok t.definition) >>= staged) ≡ (a >>= insert_from r s)
    from_table (Err code) e = refl
    from_table (Ok t) e =
        ap (λ x. require (not (has_double (unwrap_or s.columns []))) DuplicateColumn >>= λ once. x)
        (in_one (require (list_all (counts_fit t.definition.layout s.columns) s.rows) SyntaxError) (λ counted. target_columns t.definition.layout s) (λ columns. with_columns t.definition columns))
        ∙ in_one (require (not (has_double (unwrap_or s.columns []))) DuplicateColumn) (λ once. require (list_all (counts_fit t.definition.layout s.columns) s.rows) SyntaxError >>= λ counted. target_columns t.definition.layout s)
        (λ columns. with_columns t.definition columns)
        ∙ same_after (insert_columns t.definition.layout s) (λ columns. with_columns t.definition columns) (λ columns. bound_rows [] t.definition.layout columns s.rows >>= λ terms. allowed_insert r s t columns terms)
        (from_columns t (own_table d s.table t e))

    insert_same : length rows ≡ length d.tables → checked_insert (database_with d rows) users s ≡ (table_in d s.table >>= insert_from r s)
    insert_same e = ap (λ a. a >>= staged) (definition_found d rows s.table e) ∙ from_table (table_in d s.table) refl

  pub inserts : (db : Database) (users : UserNames) → Describes d db → users.current ≡ role → checked_over_rows db users (over_rows.Insert s) ≡ (table_in d s.table >>= λ t. insert_from r s t >>= λ c. Ok (inserts_rows c))
  inserts db users h is =
      ap (λ x. checked_over_rows x users (over_rows.Insert s)) h.is
      ∙ ap (λ a. a >>= λ c. Ok (inserts_rows c)) (insert_same h.rows users h.valid is h.each_table)
      ∙ sym (in_one (table_in d s.table) (insert_from r s) (λ c. Ok (inserts_rows c)))

-- the checks begin with the table
pub begins : (s : Insert) (db : Database) (users : UserNames) (code : SqlState) → find_definition db s.table ≡ Err code → checked_over_rows db users (over_rows.Insert s) ≡ Err code
begins s db users code none = rw none

-- ---- the stages over the table that was found

-- what is said of these columns and rows is said of the same
moved : (P : Layout → List ℕ → List (List (Term ColumnName)) → Type 0) (l m : Layout) (cs ds : List ℕ) (rows others : List (List (Term ColumnName))) → l ≡ m → cs ≡ ds → rows ≡ others → P l cs rows → P m ds others
moved P l m cs ds rows others e f g h = subst (λ x. P x ds others) e (subst (λ x. P l x others) f (subst (λ x. P l cs x) g h))

module _ (r : Rights) (s : Insert) (t : TableDefinition) where
  abbrev the_layout : Layout
  the_layout = t.definition.layout

  abbrev after_columns : Result (List ℕ) SqlState → Result CheckedInsert SqlState
  after_columns a = a >>= λ columns. bound_rows [] the_layout columns s.rows >>= λ terms. allowed_insert r s t columns terms

  -- over this layout, which is the table's
  module _ (l : Layout) (own : l ≡ the_layout) where
    pub columns_refused : (x : Refusal) → (x.0 ≡ OutOfMemory) ⊎ (insert_columns l s ≡ Err x.0) → (x.0 ≡ OutOfMemory) ⊎ (insert_from r s t ≡ Err x.0)
    columns_refused x (inl e) = inl e
    columns_refused x (inr e) = inr (ap after_columns (ap (λ m. insert_columns m s) (sym own) ∙ e))

    -- and over these columns and rows, which are those of the list and the statement's
    module _ (one : HaveOneLength s.rows) (columns : List ℕ) (made : insert_columns l s ≡ Ok columns) (cs : List ℕ) (whole : cs ≡ columns) (rows : List (List (Term ColumnName))) (all : rows ≡ s.rows) where
      found : insert_columns the_layout s ≡ Ok columns
      found = ap (λ m. insert_columns m s) (sym own) ∙ made

      abbrev rows_here : Result (List (List (Term ColumnIndex))) SqlState → Type 0
      rows_here a = AreAsLong cs rows → bound_rows [] l cs rows ≡ a

      to_rows : (a : Result (List (List (Term ColumnIndex))) SqlState) → rows_here a → insert_from r s t ≡ (a >>= λ terms. allowed_insert r s t columns terms)
      to_rows a h =
          let bound = moved (λ m ds others. AreAsLong ds others → bound_rows [] m ds others ≡ a) l the_layout cs columns rows s.rows own whole all h in
          ap after_columns found ∙ ap (λ x. x >>= λ terms. allowed_insert r s t columns terms) (bound (columns_as_long the_layout s columns one found))

      pub rows_refused : (x : Refusal) → (AreAsLong cs rows → (x.0 ≡ OutOfMemory) ⊎ (bound_rows [] l cs rows ≡ Err x.0)) → (x.0 ≡ OutOfMemory) ⊎ (insert_from r s t ≡ Err x.0)
      rows_refused x h = go (h long) where
        long : AreAsLong cs rows
        long = moved (λ m ds others. AreAsLong ds others) the_layout l columns cs s.rows rows (sym own) (sym whole) (sym all) (columns_as_long the_layout s columns one found)

        go : (x.0 ≡ OutOfMemory) ⊎ (bound_rows [] l cs rows ≡ Err x.0) → (x.0 ≡ OutOfMemory) ⊎ (insert_from r s t ≡ Err x.0)
        go (inl e) = inl e
        go (inr e) = inr (to_rows (Err x.0) (λ h. e))

      module _ (terms : List (List (Term ColumnIndex))) (bound : AreAsLong cs rows → bound_rows [] l cs rows ≡ Ok terms) (set : List ℕ) (set_whole : set ≡ columns) (may : Bool) (e : may ≡ list_all (meets r t) (needs_of_insert t.definition set)) where
        abbrev allowed : Bool → Bool → Result CheckedInsert SqlState
        allowed so few = require so InsufficientPrivilege >>= λ _. require few ProgramLimitExceeded >>= λ _. Ok (record { table = t.definition; columns = columns; rows = terms })

        to_rights : (few : Bool) → nat_le (length s.rows) 256 ≡ few → insert_from r s t ≡ allowed may few
        to_rights few f =
            to_rows (Ok terms) bound
            ∙ ap (λ b. allowed b (nat_le (length s.rows) 256)) (sym (e ∙ ap (λ ds. list_all (meets r t) (needs_of_insert t.definition ds)) set_whole))
            ∙ ap (allowed may) f

        pub not_allowed : may ≡ false → insert_from r s t ≡ Err InsufficientPrivilege
        not_allowed nay = to_rights (nat_le (length s.rows) 256) refl ∙ ap (λ b. allowed b (nat_le (length s.rows) 256)) nay

        pub too_many : may ≡ true → 256 < length rows → insert_from r s t ≡ Err ProgramLimitExceeded
        too_many so many = to_rights false (ap (λ l. nat_le (length l) 256) (sym all) ∙ lt-leb (length rows) 256 many) ∙ ap (λ b. allowed b false) so

        pub passes : may ≡ true → length rows ≤ 256 → insert_from r s t ≡ Ok (record { table = t.definition; columns = columns; rows = terms })
        passes so few = to_rights true (ap (λ l. nat_le (length l) 256) (sym all) ∙ le-leb (length rows) 256 few) ∙ ap (λ b. allowed b true) so
