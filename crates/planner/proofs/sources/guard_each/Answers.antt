use Rattle.std.proofs.Common.{arith, true}
use Rattle.std.proofs.lemmas.List.Elements.{All-push}
use Rattle.sql_ast.specs.declared.privilege.Action.TheVariants as action
use Rattle.planner.specs.Sources.{IsGuardedFrom}
use Rattle.planner.proofs.Sourcing.{more_tables}
use Rattle.planner.proofs.sources.guard_each.Goals as goal

pub loop-table-preserved : goal.loop-table-preserved
loop-table-preserved c = (
  more_tables c.loop-table.sources c.push.new.self c.in_ok-source.source c.args.tables.now c.loop-table.table-index c.table-item.result c.in_ok-push.ensures.ok c.loop-table.invariant.0 (omega arith) c.table-item.is c.in_ok-source.ensures.table,
  rw c.in_ok-push.ensures.ok (All-push (IsGuardedFrom c.args.catalogue.now c.args.current.now action.Select true) c.loop-table.sources c.in_ok-source.source c.loop-table.invariant.1 c.in_ok-source.ensures.guard),
)
