-- Whether a role is shown as another one, by what was gathered of both.
use Rattle.std.specs.Prelude.{Bool, not, ◌&&◌, ◌||◌, map, bytes_eq}
use Rattle.std.specs.Bool.{beq}
use Rattle.std.specs.Cmp.Lexicographic.{pointwise}
use Rattle.abstract_database.specs.Lists.{has_name}
use Rattle.table_access.specs.declared.action.ActionAccess.{ActionAccess}
use Rattle.table_access.specs.declared.role.RoleAccess.{RoleAccess}
use Rattle.table_access.specs.Having.{same_policy}

abbrev pub differ : ActionAccess → ActionAccess → Bool
differ x y =
    not (beq x.is_allowed y.is_allowed)
    || not (beq x.on_table y.on_table)
    || not (bytes_eq x.columns.items y.columns.items)
    || not (pointwise same_policy (map (λ p. p.now) x.policies.items) (map (λ p. p.now) y.policies.items))
    || y.names_user

abbrev pub comes_to_more : RoleAccess → RoleAccess → Bool
comes_to_more x y =
    not (beq x.is_guarded y.is_guarded) || differ x.select y.select || differ x.insert y.insert || differ x.update y.update || differ x.delete y.delete

abbrev pub is_shown : Bool → RoleAccess → RoleAccess → Bool
is_shown superuser x y =
    not superuser && not (bytes_eq x.role.now.name y.role.now.name) && has_name y.role.now.name x.roles && comes_to_more x y
