use Rattle.statements.proofs.Describing.{over_rows_told}
use Rattle.statements.proofs.execute.StatementsExecute.describe.Goals as goal

pub returns-in-OverRows : goal.returns-in-OverRows
returns-in-OverRows c = record {
  describes = over_rows_told c.args.catalogue.now c.describe_rows.result _ c.args.session.now c.args.statement.now c.in-OverRows.statement c.session.view_is c.in-OverRows.is c.describe_rows.ensures;
}
