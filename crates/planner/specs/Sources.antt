-- The tables of a plan and their guards.
use Rattle.std.specs.Prelude.{Bool}
use Rattle.sql_ast.specs.declared.privilege.Action.{Action}
use Rattle.abstract_database.specs.Lists.{TheName}
use Rattle.stored_database.specs.Definitions.{Definitions}
use Rattle.policy_composer.specs.Guarding.{MeansGuard, existing_of, new_of}
use Rattle.planner.specs.declared.sources.Source.{Source}

-- the guard says of existing rows and of new ones what the definition of row security says for the action of the role
pub record IsGuardedFrom (d : Definitions) (role : TheName) (a : Action) (reads : Bool) (s : Source) : Type 0 where
  pub existing : MeansGuard d s.table.now role (existing_of a reads) s.guard.existing
  pub new : MeansGuard d s.table.now role (new_of a reads) s.guard.new
