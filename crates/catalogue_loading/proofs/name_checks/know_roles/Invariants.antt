use Rattle.std.specs.Prelude.{take}
use Rattle.abstract_database.specs.Whole.{Each, IsWholeRole}
use Rattle.catalogue_loading.proofs.name_checks.know_roles.Given as goal

abbrev pub invariant-loop-role : goal.invariant-loop-role
invariant-loop-role l = Each IsWholeRole (take l.role-index l.roles)
