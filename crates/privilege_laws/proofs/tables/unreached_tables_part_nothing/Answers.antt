use Rattle.privilege_laws.specs.Related.{NothingTells}
use Rattle.privilege_laws.specs.Reached.{reached_by}
use Rattle.privilege_laws.proofs.PatternsTold.{runs_part, runs_part_behind}
use Rattle.privilege_laws.proofs.tables.unreached_tables_part_nothing.Goals as goal

pub returns-clause-own : goal.returns-clause-own
returns-clause-own c = runs_part reached_by NothingTells

pub returns-clause-behind : goal.returns-clause-behind
returns-clause-behind c = runs_part_behind reached_by NothingTells
