-- Columns that a role may not read: what it is told, whatever they have.
use Rattle.std.specs.Prelude.{◌≡◌, ◌⊎◌, ◌<◌, ◌+◌, ℕ, Bool, true, false, if◌then◌else◌, List, [], ◌∷◌, map, length, Some, Result, Ok, Err}
use Rattle.sql_types.specs.Row.{Row}
use Rattle.sql_types.specs.declared.state.SqlState.{SqlState}
use Rattle.sql_types.specs.declared.state.SqlState.TheVariants.{ProgramLimitExceeded}
use Rattle.sql_types.specs.declared.value.Value.{Value}
use Rattle.sql_types.specs.declared.value.Value.TheVariants.{Null}
use Rattle.sql_ast.specs.declared.expression.ColumnName.{ColumnName}
use Rattle.sql_ast.specs.declared.policy.Policy.{Policy}
use Rattle.sql_ast.specs.declared.policy.PolicyClause.{PolicyClause}
use Rattle.sql_ast.specs.declared.privilege.Action.TheVariants as action
use Rattle.sql_ast.specs.declared.scope.ColumnIndex.{ColumnIndex}
use Rattle.sql_ast.specs.declared.statement.DatabaseStatement.TheVariants as on_database
use Rattle.sql_ast.specs.declared.statement.RowStatement.{RowStatement}
use Rattle.sql_ast.specs.declared.statement.RowStatement.TheVariants as over_rows
use Rattle.sql_ast.specs.declared.statement.Select.{Select}
use Rattle.sql_ast.specs.Scope.{found_in}
use Rattle.abstract_database.specs.Lists.{TheName, Among}
use Rattle.abstract_database.specs.Database.{TableOf, Database, definition_named, rows_named, without_rows}
use Rattle.abstract_database.specs.Expressions.{own_scope, columns_in}
use Rattle.abstract_database.specs.Privileges.{on_column, has_privilege}
use Rattle.abstract_database.specs.Statements.{Effect, UserPair, as_seen, select, exec}
use Rattle.database_laws.specs.Invariants.{IsSound}
use Rattle.database_laws.specs.OnePolicy.{Concerns}

-- ---- rows without what is hidden

-- values, the first of which has this index, each changed so
abbrev pub changed_from : ℕ → (ℕ → Value → Value) → List Value → List Value
changed_from index change [] = []
changed_from index change (v ∷ vs) = change index v ∷ changed_from (index + 1) change vs

-- null in the hidden columns
abbrev pub null_where : (ℕ → Bool) → ℕ → Value → Value
null_where hidden index v = if hidden index then Null else v

abbrev pub masked : (ℕ → Bool) → Row → Row
masked hidden row = changed_from 0 (null_where hidden) row

-- ---- hidden columns

-- a column of the table on which the role has no SELECT, and which no policy for it names in USING
pub record IsHiddenColumn (db : Database) (role : TheName) (t : TableOf) (index : ℕ) : Type 0 where
  pub is_column : index < length t.layout.columns
  pub unread : has_privilege db role t.name (on_column action.Select index) ≡ false
  pub unnamed : (p : Policy) (clause : PolicyClause) (name : ColumnName) (c : ColumnIndex) → Concerns db role t.name p → p.using ≡ Some clause →
      Among name (columns_in clause.expression) → found_in (own_scope t) name ≡ Ok c → c.column ≡ index → ⊥

-- the columns of each table that this says are such
abbrev pub AreHiddenFrom : (TheName → ℕ → Bool) → Database → TheName → Type 0
AreHiddenFrom hidden db role = (t : TableOf) → definition_named db t.name ≡ Some t → (index : ℕ) → hidden t.name index ≡ true → IsHiddenColumn db role t index

-- the same definitions, and the same rows but for hidden columns
pub record SameButHidden (hidden : TheName → ℕ → Bool) (d e : Database) : Type 0 where
  pub definitions : without_rows d ≡ without_rows e
  pub rows : (name : TheName) → map (masked (hidden name)) (rows_named d name) ≡ map (masked (hidden name)) (rows_named e name)

-- ---- statements

-- refused with one code, or carried out with one answer, and what they leave is the same but for hidden columns
abbrev pub EndButHidden : (TheName → ℕ → Bool) → Result Effect SqlState → Result Effect SqlState → Type 0
EndButHidden hidden (Ok a) (Ok b) = (a.answer ≡ b.answer) × SameButHidden hidden a.database b.database
EndButHidden hidden (Err c) (Err k) = c ≡ k
EndButHidden hidden (Ok a) (Err k) = ⊥
EndButHidden hidden (Err c) (Ok b) = ⊥

-- a SELECT ends so, without exception
abbrev pub hidden_columns_tell_no_select : Type 0
hidden_columns_tell_no_select = (hidden : TheName → ℕ → Bool) (pair : UserPair) (d e : Database) (s : Select) → AreHiddenFrom hidden d pair.current → SameButHidden hidden d e →
    EndButHidden hidden (select d (as_seen pair d) s) (select e (as_seen pair e) s)

-- ---- statements that write

-- such a column that is none of the key, and that no policy for the role names in WITH CHECK either
pub record IsHiddenFromWrites (db : Database) (role : TheName) (t : TableOf) (index : ℕ) : Type 0 where
  pub from_reads : IsHiddenColumn db role t index
  pub no_key : Among index t.layout.key → ⊥
  pub unchecked : (p : Policy) (clause : PolicyClause) (name : ColumnName) (c : ColumnIndex) → Concerns db role t.name p → p.check ≡ Some clause →
      Among name (columns_in clause.expression) → found_in (own_scope t) name ≡ Ok c → c.column ≡ index → ⊥

abbrev pub AreHiddenFromWrites : (TheName → ℕ → Bool) → Database → TheName → Type 0
AreHiddenFromWrites hidden db role = (t : TableOf) → definition_named db t.name ≡ Some t → (index : ℕ) → hidden t.name index ≡ true → IsHiddenFromWrites db role t index

-- one of two, and not the other, is refused for a size
abbrev pub TellsSize : Result Effect SqlState → Result Effect SqlState → Type 0
TellsSize r k = ((r ≡ Err ProgramLimitExceeded) × (k ≡ Err ProgramLimitExceeded → ⊥)) ⊎ ((k ≡ Err ProgramLimitExceeded) × (r ≡ Err ProgramLimitExceeded → ⊥))

abbrev pub is_update : RowStatement → Bool
is_update (over_rows.Select s) = false
is_update (over_rows.Insert s) = false
is_update (over_rows.Update s) = true
is_update (over_rows.Delete s) = false

-- a statement over rows ends the same but for hidden columns, or it is an UPDATE, and one of both is refused for a size
abbrev pub hidden_columns_tell_sizes_alone : Type 0
hidden_columns_tell_sizes_alone = (hidden : TheName → ℕ → Bool) (pair : UserPair) (d e : Database) (x : RowStatement) → AreHiddenFromWrites hidden d pair.current → SameButHidden hidden d e → IsSound d → IsSound e →
    ((is_update x ≡ true) × TellsSize (exec d pair (on_database.OverRows x)) (exec e pair (on_database.OverRows x))) ⊎ EndButHidden hidden (exec d pair (on_database.OverRows x)) (exec e pair (on_database.OverRows x))
