use Rattle.std.proofs.Common.{take}
use Rattle.std.specs.Prelude.{All}
use Rattle.sql_ast.specs.Read.{IsWellFormedAction}
use Rattle.sql_parser.proofs.form_rules.actions_are_well_formed.Given as goal

abbrev pub invariant-loop-action : goal.invariant-loop-action
invariant-loop-action l = All IsWellFormedAction (take l.action-index l.actions)
