use Rattle.std.proofs.Common.{sym, subst}
use Rattle.statements.proofs.Executing.{IsExecuted, executed_of_session, over_rows}
use Rattle.statements.proofs.execute.StatementsExecute.execute.Goals as goal

pub returns-in-OverRows-clause-executes : goal.returns-in-OverRows-clause-executes
returns-in-OverRows-clause-executes g c =
    executed_of_session (g.M.Map.state c.args.map.now) c.args.catalogue.now c.execute.result _ _ _ c.session.view_is
    (over_rows (g.M.Map.state c.args.map.now) c.args.catalogue.now c.session.inside.role c.session.inside.login c.execute.result c.in-OverRows.statement c.in-OverRows.is c.execute.ensures.executed)

pub returns-in-Defining-clause-executes : goal.returns-in-Defining-clause-executes
returns-in-Defining-clause-executes g c =
    subst (IsExecuted (g.M.Map.state c.args.map.now) c.args.catalogue.now c.args.session.now.role c.args.session.now.login c.define.result) (sym c.in-Defining.is) c.define.ensures.executes
