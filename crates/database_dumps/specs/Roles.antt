-- Roles that may do everything, and roles that may log in.
use Rattle.std.specs.Prelude.{Bool}
use Rattle.sql_ast.specs.declared.role.Role.{Role}

abbrev pub is_superuser_role : Role → Bool
is_superuser_role role = role.attributes.superuser

abbrev pub has_login : Role → Bool
has_login role = role.attributes.login
