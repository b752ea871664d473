use Rattle.std.proofs.Common.{◌∙◌, sym}
use Rattle.table_rows.proofs.Checking.{all_limits}
use Rattle.table_rows.proofs.checks.check_new_rows.Goals as goal

pub returns-clause-limits : goal.returns-clause-limits
returns-clause-limits c = all_limits c.args.target.now.columns.now c.args.rows.now (sym c.fit_records.ensures ∙ c.if-not-fit_records.false)
