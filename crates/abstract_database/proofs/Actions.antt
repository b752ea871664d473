-- Actions that have the same number are the same.
use Rattle.std.proofs.Common.{◌≡◌, true, refl}
use Rattle.sql_ast.specs.declared.privilege.Action.{Action}
use Rattle.sql_ast.specs.declared.privilege.Action.TheVariants.{Select, Insert, Update, Delete}
use Rattle.abstract_database.specs.Database.{same_action}

pub actions_same : (a b : Action) → same_action a b ≡ true → a ≡ b
actions_same Select Select e = refl
actions_same Select Insert e = cc
actions_same Select Update e = cc
actions_same Select Delete e = cc
actions_same Insert Select e = cc
actions_same Insert Insert e = refl
actions_same Insert Update e = cc
actions_same Insert Delete e = cc
actions_same Update Select e = cc
actions_same Update Insert e = cc
actions_same Update Update e = refl
actions_same Update Delete e = cc
actions_same Delete Select e = cc
actions_same Delete Insert e = cc
actions_same Delete Update e = cc
actions_same Delete Delete e = refl

pub action_itself : (a : Action) → same_action a a ≡ true
action_itself Select = refl
action_itself Insert = refl
action_itself Update = refl
action_itself Delete = refl
