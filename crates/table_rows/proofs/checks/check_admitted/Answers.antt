use Rattle.std.proofs.Common.{◌≡◌, ◌∙◌, ◌+◌, drop, arith, ap, sym}
use Rattle.expressions.specs.Stages.{◌>>=◌}
use Rattle.table_rows.specs.Targets.{admits}
use Rattle.table_rows.specs.NewRows.{all_admitted}
use Rattle.table_rows.proofs.Loops.{here}
use Rattle.table_rows.proofs.MapReads.{ended}
use Rattle.table_rows.proofs.checks.check_admitted.Goals as goal

pub returns-in_err-check_one_admitted : goal.returns-in_err-check_one_admitted
returns-in_err-check_one_admitted c =
    ended c.in_err-check_one_admitted.field-0.0 (λ r. r ≡ all_admitted (admits c.args.target.now) c.args.rows.now) c.from_residual.result c.from_residual.ensures.1
    (sym (c.loop-row.invariant
    ∙ ap (all_admitted (admits c.args.target.now)) (here c.args.rows.now c.loop-row.row-index c.row-item.result c.row-item.is (omega arith))
    ∙ ap (λ r. r >>= λ admitted. all_admitted (admits c.args.target.now) (drop (c.loop-row.row-index + 1) c.args.rows.now)) (sym c.in_err-check_one_admitted.ensures)))
