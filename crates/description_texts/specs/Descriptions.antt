-- Whether there is what a description is asked for, and which privileges it tells of.
use Rattle.std.specs.Prelude.{◌≡◌, ◌≢◌, ℕ, List, find, Option, Some, None}
use Rattle.std.specs.Option.{option_map}
use Rattle.std.specs.Borrow.{Bor}
use Rattle.sql_ast.specs.declared.privilege.Action.{Action}
use Rattle.sql_ast.specs.declared.role.Role.{Role}
use Rattle.abstract_database.specs.Lists.{TheName}
use Rattle.abstract_database.specs.Database.{is_role_named}
use Rattle.abstract_database.specs.Privileges.{all_actions, column_actions}

-- the name of the role that is asked for, where one is
abbrev pub asked_name : Option (Bor (List ℕ)) → Option TheName
asked_name role = option_map (λ name. name.now) role

-- a role is asked for, and none has its name
abbrev pub HasNone : List Role → Option TheName → Type 0
HasNone roles None = ⊥
HasNone roles (Some name) = find (is_role_named name) roles ≡ None

-- no role is asked for, or one has its name
abbrev pub HasAskedFor : List Role → Option TheName → Type 0
HasAskedFor roles None = Unit {0}
HasAskedFor roles (Some name) = find (is_role_named name) roles ≢ None

-- the actions that privileges on a whole table, or on a column of it, are for
abbrev pub actions_on : Option ℕ → List Action
actions_on None = all_actions
actions_on (Some column) = column_actions
