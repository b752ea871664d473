-- The units that a statement names: an action on the table, or on one of its columns.
use Rattle.std.proofs.Common.{◌≡◌, ◌<◌, ℕ, length, false, List, [], Option, Some, None, IfSome, option_to_list, position, refl, ap, subst, inl, inr}
use Rattle.std.proofs.lemmas.List.Quantifiers.{position-Some}
use Rattle.sql_ast.specs.Layout.{Layout}
use Rattle.sql_ast.specs.Read.{TakesColumns, IsReadAction, IsReadPrivileges}
use Rattle.sql_ast.specs.declared.columns.Column.{Column}
use Rattle.sql_ast.specs.declared.columns.ColumnType.TheVariants as type
use Rattle.sql_ast.specs.declared.privilege.Action.{Action}
use Rattle.sql_ast.specs.declared.privilege.Action.TheVariants as action
use Rattle.sql_ast.specs.declared.privilege.Privilege.{Privilege}
use Rattle.sql_ast.specs.declared.statement.NamedAction.{NamedAction}
use Rattle.sql_ast.specs.declared.statement.Privileges.{Privileges}
use Rattle.sql_ast.specs.declared.statement.Privileges.TheVariants as privileges
use Rattle.abstract_database.specs.Lists.{TheName, Among}
use Rattle.abstract_database.specs.Privileges.{all_actions, column_actions, on_table, on_column, is_column_named, indices_of, on_each, privileges_of}
use Rattle.database_laws.proofs.WholeLists.{of_map, of_flat_map, each_of}

no_column : Column
no_column = record { name = []; column_type = type.Text; not_null = false }

-- an action on the table, or on one of its columns, which has no DELETE
pub record IsUnit (layout : Layout) (p : Privilege) : Type 0 where
  pub column : IfSome p.column (λ index. index < length layout.columns)
  pub action : p.action ≡ action.Delete → p.column ≡ None

only_one : (o : Option ℕ) (i : ℕ) → Among i (option_to_list o) → o ≡ Some i
only_one None i h = absurd h
only_one (Some j) i (inl is) = ap Some is
only_one (Some j) i (inr later) = absurd later

-- the index of a column that a statement names is one of the table's
pub index_within : (layout : Layout) (names : List TheName) (i : ℕ) → Among i (indices_of layout names) → i < length layout.columns
index_within layout names i h =
    let from = of_flat_map (λ name. option_to_list (position (is_column_named name) layout.columns)) names i h in
    (position-Some (is_column_named from.0) layout.columns i no_column (only_one (position (is_column_named from.0) layout.columns) i from.2)).0

-- what takes columns is no DELETE
pub no_delete : (a : Action) (names : List TheName) → TakesColumns a (Some names) → a ≡ action.Delete → ⊥
no_delete action.Select names t e = cc
no_delete action.Insert names t e = cc
no_delete action.Update names t e = cc
no_delete action.Delete names t e = t

on_table_unit : (layout : Layout) (a : Action) (p : Privilege) → on_table a ≡ p → IsUnit layout p
on_table_unit layout a p is = subst (IsUnit layout) is (record { column = tt; action = λ e. refl })

on_column_unit : (layout : Layout) (a : Action) (i : ℕ) → i < length layout.columns → (a ≡ action.Delete → ⊥) → (p : Privilege) → on_column a i ≡ p → IsUnit layout p
on_column_unit layout a i within none p is = subst (IsUnit layout) is (record { column = within; action = λ e. absurd (none e) })

each_unit : (layout : Layout) (columns : Option (List TheName)) (a : Action) → TakesColumns a columns → (p : Privilege) → Among p (on_each layout columns a) → IsUnit layout p
each_unit layout None a t p (inl is) = on_table_unit layout a p is
each_unit layout None a t p (inr later) = absurd later
each_unit layout (Some names) a t p h =
    let from = of_map (on_column a) (indices_of layout names) p h in
    on_column_unit layout a from.0 (index_within layout names from.0 from.1) (no_delete a names t) p from.2

pub column_action : (names : List TheName) (a : Action) → Among a column_actions → TakesColumns a (Some names)
column_action names action.Select h = tt
column_action names action.Insert h = tt
column_action names action.Update h = tt
column_action names action.Delete (inl is) = cc
column_action names action.Delete (inr (inl is)) = cc
column_action names action.Delete (inr (inr (inl is))) = cc
column_action names action.Delete (inr (inr (inr later))) = absurd later

-- what a statement that a text may be read as names on a table are its units
pub units_named : (layout : Layout) (named : Privileges) → IsReadPrivileges named → (p : Privilege) → Among p (privileges_of layout named) → IsUnit layout p
units_named layout (privileges.All None) read p h = let from = of_map on_table all_actions p h in on_table_unit layout from.0 p from.2
units_named layout (privileges.All (Some names)) read p h =
    let from = of_flat_map (on_each layout (Some names)) column_actions p h in
    each_unit layout (Some names) from.0 (column_action names from.0 from.1) p from.2
units_named layout (privileges.Actions actions) read p h =
    let from = of_flat_map (λ (a : NamedAction). on_each layout a.columns a.action) actions p h in
    each_unit layout from.0.columns from.0.action (each_of IsReadAction actions read.each from.0 from.1).form p from.2
