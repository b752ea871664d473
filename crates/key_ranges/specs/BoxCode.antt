-- Boxes as the program holds them.
use Rattle.std.specs.Prelude.{ℕ, List, map}
use Rattle.sql_types.specs.Value.{owned}
use Rattle.expressions.specs.declared.eval.Users.{Users}
use Rattle.key_ranges.specs.declared.boxes.ColumnBound.{ColumnBound}
use Rattle.key_ranges.specs.Boxes.{Bound, Box}

abbrev pub bound_of : ColumnBound → Bound
bound_of b = record { kind = b.kind; column = b.column; value = owned b.value }

abbrev pub box_of : List ColumnBound → Box
box_of bounds = map bound_of bounds

-- the names of the roles
abbrev pub role_names : Users → List (List ℕ)
role_names users = map (λ role. role.now) users.roles.now
