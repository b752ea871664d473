use Rattle.database_laws.specs.HiddenRuns.{IsException}
use Rattle.privilege_laws.specs.Shown.{shown_to}
use Rattle.privilege_laws.proofs.ShownTold.{shown_told}
use Rattle.privilege_laws.proofs.PatternsTold.{patterns_tell, runs_part}
use Rattle.privilege_laws.proofs.tables.tenants_are_told_what_is_shown.Goals as goal

pub returns-clause-runs : goal.returns-clause-runs
returns-clause-runs c = shown_told

pub returns-clause-parts : goal.returns-clause-parts
returns-clause-parts c = runs_part shown_to IsException

pub returns-clause-patterns : goal.returns-clause-patterns
returns-clause-patterns c = patterns_tell
